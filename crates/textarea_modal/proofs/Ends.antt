-- The continuation of a run of inputs by one input, and its end.
use Rattle.std.proofs.Common.{◌≡◌, ℕ, ◌+◌, ◌<◌, Bool, true, false, List, [], ◌∷◌, ◌++◌, take, drop, length, get_or, ap, sym, subst, ◌∙◌, arith, length-append}
use Rattle.std.proofs.lemmas.List.{append_assoc, take-append-drop, take_more}
use Rattle.textarea_data.specs.declared.input.Input.{Input}
use Rattle.textarea_calls.specs.declared.call.Call.{Call}
use Rattle.tui_textarea.specs.State.{State}
use Rattle.textarea_modal.specs.Course.{Course, course, unless}
use Rattle.textarea_modal.specs.Runs.{AllMade, Finishes, OneRunsOut, RunsOutAt, RunsOut}
use Rattle.textarea_modal.specs.Table.{step}
use Rattle.textarea_modal.specs.declared.mode.Mode.{Mode}
use Rattle.textarea_modal.proofs.Courses.{single_step, course-append, course-end, course-more, joined}
use Rattle.textarea_modal.proofs.Runs.{made_after, ran_out_after}

-- one more input, whose calls are all made, and which may quit
pub finishes_more : (old mid new : State) (from mode to : Mode) (earlier : List Input) (input : Input) (taken : ℕ) (quits : Bool) → Finishes old from earlier mid mode taken false
    → AllMade mid (step mode input).calls new → to ≡ (step mode input).mode → quits ≡ (step mode input).quits → Finishes old from (earlier ++ input ∷ []) new to (taken + 1) quits
finishes_more old mid new from mode to earlier input taken quits so_far made to_is quits_is =
    let this = step (course from earlier).mode input in
    let same : step mode input ≡ this = ap (λ (m : Mode). step m input) so_far.mode in
    let all : course from (earlier ++ input ∷ []) ≡ joined (course from earlier) (single_step this) = course-more from earlier input (sym so_far.quit) in
    record {
      made = subst (λ (c : Course). AllMade old c.calls new) (sym all)
          (made_after old mid new (course from earlier).calls this.calls so_far.made (subst (λ (m : Mode). AllMade mid (step m input).calls new) so_far.mode made));
      mode = to_is ∙ ap (λ (m : Mode). (step m input).mode) so_far.mode ∙ ap (λ (c : Course). c.mode) (sym all);
      number = ap (λ (n : ℕ). n + 1) so_far.number ∙ ap (λ (c : Course). c.taken) (sym all);
      quit = quits_is ∙ ap (λ (m : Mode). (step m input).quits) so_far.mode ∙ ap (λ (c : Course). c.quits) (sym all);
    }

-- no input is used after one that quits
pub finishes_at_quit : (old new : State) (from to : Mode) (earlier later : List Input) (taken : ℕ) → Finishes old from earlier new to taken true → Finishes old from (earlier ++ later) new to taken true
finishes_at_quit old new from to earlier later taken so_far =
    let all : course from earlier ≡ course from (earlier ++ later) = sym (course-end from earlier later (sym so_far.quit)) in
    record {
      made = subst (λ (c : Course). AllMade old c.calls new) all so_far.made;
      mode = so_far.mode ∙ ap (λ (c : Course). c.mode) all;
      number = so_far.number ∙ ap (λ (c : Course). c.taken) all;
      quit = so_far.quit ∙ ap (λ (c : Course). c.quits) all;
    }

-- the inputs up to an index, the input there, and the inputs after it
pub inputs_split : (inputs : List Input) (index : ℕ) (input : Input) → index < length inputs → take index inputs ++ get_or inputs index input ∷ drop (index + 1) inputs ≡ inputs
inputs_split inputs index input within =
    sym (append_assoc (take index inputs) (get_or inputs index input ∷ []) (drop (index + 1) inputs))
    ∙ ap (λ (l : List Input). l ++ drop (index + 1) inputs) (sym (take_more inputs index input within))
    ∙ take-append-drop (index + 1) inputs

-- a call of the input there runs out of memory
pub runs_out : (old mid new : State) (from mode : Mode) (inputs : List Input) (input : Input) (index taken : ℕ) → index < length inputs
    → Finishes old from (take index inputs) mid mode taken false → OneRunsOut mid (step mode (get_or inputs index input)).calls new → RunsOut old from inputs new mode index
runs_out old mid new from mode inputs input index taken within so_far ran_out =
    let earlier = take index inputs in
    let this = get_or inputs index input in
    let before = course from earlier in
    let its = (step before.mode this).calls in
    let one : OneRunsOut mid its new = subst (λ (m : Mode). OneRunsOut mid (step m this).calls new) so_far.mode ran_out in
    let up_to : (course from (take (index + 1) inputs)).calls ≡ before.calls ++ its = ap (λ (l : List Input). (course from l).calls) (take_more inputs index input within)
    ∙ ap (λ (c : Course). c.calls) (course-more from earlier this (sym so_far.quit)) in
    let here = step before.mode this in
    let rest = (unless here.quits here.mode (course here.mode (drop (index + 1) inputs))).calls in
    let all : before.calls ++ (its ++ rest) ≡ (course from inputs).calls = ap (λ (c : Course). c.calls) (sym (course-append from earlier (this ∷ drop (index + 1) inputs) (sym so_far.quit)))
    ∙ ap (λ (l : List Input). (course from l).calls) (inputs_split inputs index input within) in
    record {
      within = within;
      none_quit = sym so_far.quit;
      mode = so_far.mode;
      index = length before.calls + one.index;
      after = omega arith;
      ahead = subst (λ (l : List Call). length before.calls + one.index < length l) (sym up_to)
          (omega (arith, one.ran_out.within, length-append before.calls its));
      ran_out = subst (λ (l : List Call). RunsOutAt old l (length before.calls + one.index) new) all
          (ran_out_after old mid new before.calls its rest one.index so_far.made one.ran_out);
    }
