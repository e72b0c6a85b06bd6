-- Calls on a draft, one list after another.
use Rattle.std.proofs.Common.{◌≡◌, ◌+◌, ◌∙◌, ◌⊎◌, ◌||◌, ℕ, Bool, true, false, List, [], ◌∷◌, ◌++◌, None, Some, OnErr, OnOk, Result, Ok, Err, ap, append-nil, inl, inr, is_err, length, refl, subst, sym, take, zero-add, arith, length-append}
use Rattle.std.proofs.Math.Bool.{or-false}
use Rattle.std.proofs.Math.Seq.{take-append-add}
use Rattle.std.specs.List.{list_any}
use Rattle.std.proofs.lemmas.Bool.{false≢true, or_parts}
use Rattle.std.proofs.lemmas.List.{take-append-le}
use Rattle.textarea_calls.specs.Edits.{edits}
use Rattle.textarea_calls.specs.Topics.{draws}
use Rattle.textarea_calls.specs.declared.call.Call.{Call}
use Rattle.textarea_calls.specs.declared.call.Call.TheVariants as call
use Rattle.textarea_editor.specs.Draft.{Copy, FailsIn, FailsInSome, IsExact, IsHonest, IsChangeMark, IsMarkAfter, Makes, MakesSome, RunsShort, plain_call, plain_calls}
use Rattle.textarea_editor.specs.declared.draft.Draft.{Draft}
use Rattle.textarea_modal.proofs.Runs.{made_after, none_made, ran_out_after}
use Rattle.textarea_modal.specs.Runs.{AllMade, OneRunsOut, RunsOutAt}
use Rattle.textarea_text.specs.Text.{Symbol, lines}
use Rattle.tui_textarea.specs.CallResults.{CallResult}
use Rattle.tui_textarea.specs.Outcomes.{IsAfterCall, IsResultOf, RanOutOfMemory}
use Rattle.tui_textarea.specs.State.{State}

-- ---- a call without the address of what it borrows

pub result_plain : (old : State) (this : Call) (returned : CallResult) → IsResultOf old this returned → IsResultOf old (plain_call this) returned
result_plain old (call.Input input) returned is = is
result_plain old (call.InsertStr text) returned is = is
result_plain old (call.InsertPasted text) returned is = is
result_plain old (call.SetSearchPattern text) returned is = is
result_plain old (call.SetSearchText text ignore_case whole_word) returned is = is
result_plain old (call.ReplaceMatch text) returned is = is
result_plain old (call.ReplaceAll text) returned is = is
result_plain old other returned is = is

pub after_plain : (old : State) (this : Call) (returned : CallResult) (new : State) → IsAfterCall old this returned new → IsAfterCall old (plain_call this) returned new
after_plain old (call.Input input) returned new after = after
after_plain old (call.InsertStr text) returned new after = after
after_plain old (call.InsertPasted text) returned new after = after
after_plain old (call.SetSearchPattern text) returned new after = after
after_plain old (call.SetSearchText text ignore_case whole_word) returned new after = after
after_plain old (call.ReplaceMatch text) returned new after = after
after_plain old (call.ReplaceAll text) returned new after = after
after_plain old other returned new after = after

pub ran_out_plain : (this : Call) (before new : State) → RanOutOfMemory before this new → RanOutOfMemory before (plain_call this) new
ran_out_plain (call.Input input) before new ran = record { may = ran.may; left = ran.left }
ran_out_plain (call.InsertStr text) before new ran = record { may = ran.may; left = ran.left }
ran_out_plain (call.InsertPasted text) before new ran = record { may = ran.may; left = ran.left }
ran_out_plain (call.SetSearchPattern text) before new ran = record { may = ran.may; left = ran.left }
ran_out_plain (call.SetSearchText text ignore_case whole_word) before new ran = record { may = ran.may; left = ran.left }
ran_out_plain (call.ReplaceMatch text) before new ran = record { may = ran.may; left = ran.left }
ran_out_plain (call.ReplaceAll text) before new ran = record { may = ran.may; left = ran.left }
ran_out_plain other before new ran = ran

pub draws_plain : (this : Call) → draws this ≡ false → draws (plain_call this) ≡ false
draws_plain (call.Input input) none = refl
draws_plain other none = none

pub edits_plain : (this : Call) → edits (plain_call this) ≡ edits this
edits_plain (call.Input input) = refl
edits_plain other = refl

pub any_edits_plain : (calls : List Call) → list_any edits (plain_calls calls) ≡ list_any edits calls
any_edits_plain [] = refl
any_edits_plain (this ∷ calls) =
    ap (λ b. b || list_any edits (plain_calls calls)) (edits_plain this) ∙ ap (λ b. edits this || b) (any_edits_plain calls)

-- ---- one list after another

pub honest_same : (draft : Draft) → IsHonest draft draft
honest_same draft = record { kept = refl; exact = λ was. was; alone = λ none same. (same, refl) }

pub makes_none : (draft : Draft) → Makes draft [] draft
makes_none draft = record { made = none_made draft.area; honest = honest_same draft }

pub honest_then : (a b c : Draft) → IsHonest a b → IsHonest b c → IsHonest a c
honest_then a b c first second = record {
  kept = second.kept ∙ first.kept;
  exact = λ was. second.exact (first.exact was);
  alone = λ none same.
      let later = second.alone (first.kept ∙ none) same in
      let earlier = first.alone none later.0 in
      (earlier.0, later.1 ∙ earlier.1);
}

pub makes_then : (a b c : Draft) (calls more : List Call) → Makes a calls b → Makes b more c → Makes a (calls ++ more) c
makes_then a b c calls more first second = record {
  made = made_after a.area b.area c.area calls more first.made second.made;
  honest = honest_then a b c first.honest second.honest;
}

-- no call was made
pub fails_first : (draft : Draft) (calls : List Call) → FailsIn draft calls draft
fails_first draft calls = record {
  short = record { index = 0; within = omega arith; made = inl (none_made draft.area) };
  honest = honest_same draft;
}

short_then : (a b c : State) (calls more : List Call) → AllMade a calls b → RunsShort b more c → RunsShort a (calls ++ more) c
short_then a b c calls more first short = record {
  index = length calls + short.index;
  within = omega (arith, short.within, length-append calls more);
  made = by_made short.made;
}
  where
    by_made : (AllMade b (take short.index more) c ⊎ RunsOutAt b more short.index c) → (AllMade a (take (length calls + short.index) (calls ++ more)) c ⊎ RunsOutAt a (calls ++ more) (length calls + short.index) c)
    by_made (inl made) = inl (subst (λ (l : List Call). AllMade a l c) (sym (take-append-add calls more short.index)) (made_after a b c calls (take short.index more) first made))
    by_made (inr ran) = inr (subst (λ (l : List Call). RunsOutAt a (calls ++ l) (length calls + short.index) c) (append-nil more)
        (ran_out_after a b c calls more [] short.index first ran))

-- calls were made, and memory ran out in those after them
pub fails_then : (a b c : Draft) (calls more : List Call) → Makes a calls b → FailsIn b more c → FailsIn a (calls ++ more) c
fails_then a b c calls more first second = record {
  short = short_then a.area b.area c.area calls more first.made second.short;
  honest = honest_then a b c first.honest second.honest;
}

short_before : (a b : State) (calls more : List Call) → RunsShort a calls b → RunsShort a (calls ++ more) b
short_before a b calls more short = record {
  index = short.index;
  within = omega (arith, short.within, length-append calls more);
  made = by_made short.made;
}
  where
    by_made : (AllMade a (take short.index calls) b ⊎ RunsOutAt a calls short.index b) → (AllMade a (take short.index (calls ++ more)) b ⊎ RunsOutAt a (calls ++ more) short.index b)
    by_made (inl made) = inl (subst (λ (l : List Call). AllMade a l b) (sym (take-append-le short.index calls more short.within)) made)
    by_made (inr ran) = inr (subst (λ (n : ℕ). RunsOutAt a (calls ++ more) n b) (zero-add short.index)
        (ran_out_after a a b [] calls more short.index (none_made a) ran))

-- memory ran out in calls before others
pub fails_before : (a b : Draft) (calls more : List Call) → FailsIn a calls b → FailsIn a (calls ++ more) b
fails_before a b calls more fails = record { short = short_before a.area b.area calls more fails.short; honest = fails.honest }

-- memory ran out after all calls
pub fails_after : (a b : Draft) (calls : List Call) → Makes a calls b → FailsIn a calls b
fails_after a b calls made = subst (λ (l : List Call). FailsIn a l b) (append-nil calls) (fails_then a b b calls [] made (fails_first b []))

-- ---- calls of a kind

-- memory ran out before any call
pub fails_early : (IsAsked : List Call → Type 0) (draft : Draft) → FailsInSome IsAsked draft draft
fails_early IsAsked draft = inl (fails_first draft [])

-- memory ran out after all calls
pub fails_late : (IsAsked : List Call → Type 0) (old new : Draft) → MakesSome IsAsked old new → FailsInSome IsAsked old new
fails_late IsAsked old new made = inr (record { calls = made.calls; asked = made.asked; fails = fails_after old new made.calls made.makes })

-- ---- calls that are noted

exact_of : (copy : Copy) (area : State) (changed : Bool) → IsChangeMark copy area changed → IsExact copy area changed
exact_of None area changed is = tt
exact_of (Some copy) area changed is = is

-- what is exact of a text is so of the same text
exact_there : (copy : Copy) (old new : State) (was changed : Bool) → new.document.text ≡ old.document.text → changed ≡ was → IsExact copy old was → IsExact copy new changed
exact_there None old new was changed text same is = tt
exact_there (Some copy) old new was changed text same is =
    let rows = ap (λ (t : List Symbol). lines t) text in
    ((λ h. rows ∙ is.0 (sym same ∙ h)), (λ h. same ∙ is.1 (sym rows ∙ h)))

pub mark_compared_after : (was may : Bool) (new : Draft) → may ≡ true → IsChangeMark new.saved new.area new.is_changed → IsMarkAfter was may new
mark_compared_after was may new is mark = subst (λ (b : Bool). IsMarkAfter was b new) (sym is) mark

pub mark_stays_after : (was may : Bool) (new : Draft) → may ≡ false → new.is_changed ≡ was → IsMarkAfter was may new
mark_stays_after was may new is same = subst (λ (b : Bool). IsMarkAfter was b new) (sym is) same

-- a draft whose calls were made is noted: some of them may have changed the text, or none
pub record IsNoted (left : Draft) (may : Bool) (new : Draft) : Type 0 where
  pub same : new ≡ record left { is_changed = new.is_changed }
  pub mark : IsMarkAfter left.is_changed may new

noted_exact : (left new : Draft) (may : Bool) → IsNoted left may new → (text : State) → (may ≡ false → left.area.document.text ≡ text.document.text)
    → IsExact left.saved text left.is_changed → IsExact left.saved new.area new.is_changed
noted_exact left new true note text keeps was =
    subst (λ (c : Copy). IsExact c new.area new.is_changed) (ap (λ (d : Draft). d.saved) note.same) (exact_of new.saved new.area new.is_changed note.mark)
noted_exact left new false note text keeps was =
    exact_there left.saved text new.area left.is_changed new.is_changed (ap (λ (d : Draft). d.area.document.text) note.same ∙ keeps refl) note.mark was

noted_alone : (left new : Draft) (may : Bool) → IsNoted left may new → (text : State) → (may ≡ false → left.area.document.text ≡ text.document.text)
    → left.saved ≡ None → new.is_changed ≡ false → (left.is_changed ≡ false) × (new.area.document.text ≡ text.document.text)
noted_alone left new true note text keeps none is =
    let changed : IsChangeMark None new.area new.is_changed = subst (λ (c : Copy). IsChangeMark c new.area new.is_changed) (ap (λ (d : Draft). d.saved) note.same ∙ none) note.mark in
    absurd (false≢true (sym is ∙ changed))
noted_alone left new false note text keeps none is =
    (sym note.mark ∙ is, ap (λ (d : Draft). d.area.document.text) note.same ∙ keeps refl)

noted_honest : (old left new : Draft) (may : Bool) → left.saved ≡ old.saved → left.is_changed ≡ old.is_changed → (may ≡ false → left.area.document.text ≡ old.area.document.text)
    → IsNoted left may new → IsHonest old new
noted_honest old left new may copy same keeps note =
    let kept = ap (λ (d : Draft). d.saved) note.same in
    record {
      kept = kept ∙ copy;
      exact = λ was.
          subst (λ (c : Copy). IsExact c new.area new.is_changed) (sym kept)
          (noted_exact left new may note old.area keeps
          (subst (λ (c : Copy). IsExact c old.area left.is_changed) (sym copy) (subst (λ (b : Bool). IsExact old.saved old.area b) (sym same) was)));
      alone = λ none is.
          let both = noted_alone left new may note old.area keeps (copy ∙ none) is in
          (sym same ∙ both.0, both.1);
    }

-- the calls were made
pub noted_made : (old left new : Draft) (calls : List Call) (may : Bool) → left.saved ≡ old.saved → left.is_changed ≡ old.is_changed → may ≡ list_any edits calls → AllMade old.area calls left.area
    → IsNoted left (may || false) new → Makes old calls new
noted_made old left new calls may copy same edit led note = record {
  made = subst (λ (s : State). AllMade old.area calls s) (sym (ap (λ (d : Draft). d.area) note.same)) led;
  honest = noted_honest old left new (may || false) copy same (λ none. led.text (sym edit ∙ (or_parts may false none).0)) note;
}

-- memory ran out in them
pub noted_failed : (old left new : Draft) (calls : List Call) (may : Bool) → left.saved ≡ old.saved → left.is_changed ≡ old.is_changed → OneRunsOut old.area calls left.area
    → IsNoted left (may || true) new → FailsIn old calls new
noted_failed old left new calls may copy same ran note = record {
  short = subst (λ (s : State). RunsShort old.area calls s) (sym (ap (λ (d : Draft). d.area) note.same))
      (record { index = ran.index; within = omega (arith, ran.ran_out.within); made = inr ran.ran_out });
  honest = noted_honest old left new (may || true) copy same (λ none. absurd (false≢true (sym (or_parts may true none).1))) note;
}

-- of either result
pub makes_noted : {E : Type 0} (result made : Result Bool E) (old left new : Draft) (calls : List Call) (may : Bool) → result ≡ made → left.saved ≡ old.saved → left.is_changed ≡ old.is_changed
    → IsNoted left (may || is_err made) new → may ≡ list_any edits calls → OnOk made (AllMade old.area calls left.area) → OnOk result (Makes old calls new)
makes_noted {E} result made old left new calls may is copy same note edit led =
    subst (λ (r : Result Bool E). OnOk r (Makes old calls new)) (sym is) (by_result made note led)
  where
    by_result : (made : Result Bool E) → IsNoted left (may || is_err made) new → OnOk made (AllMade old.area calls left.area) → OnOk made (Makes old calls new)
    by_result (Err error) note led = tt
    by_result (Ok found) note led = noted_made old left new calls may copy same edit led note

pub fails_noted : {E : Type 0} (result made : Result Bool E) (old left new : Draft) (calls : List Call) (may : Bool) → result ≡ made → left.saved ≡ old.saved → left.is_changed ≡ old.is_changed
    → IsNoted left (may || is_err made) new → OnErr made (OneRunsOut old.area calls left.area) → OnErr result (FailsIn old calls new)
fails_noted {E} result made old left new calls may is copy same note ran =
    subst (λ (r : Result Bool E). OnErr r (FailsIn old calls new)) (sym is) (by_result made note ran)
  where
    by_result : (made : Result Bool E) → IsNoted left (may || is_err made) new → OnErr made (OneRunsOut old.area calls left.area) → OnErr made (FailsIn old calls new)
    by_result (Ok found) note ran = tt
    by_result (Err error) note ran = noted_failed old left new calls may copy same ran note

-- whether the draft then counts as changed
pub mark_noted : {E : Type 0} (result made : Result Bool E) (left new : Draft) (calls : List Call) (may : Bool) → result ≡ made → IsMarkAfter left.is_changed (may || is_err made) new
    → may ≡ list_any edits calls → OnOk result (IsMarkAfter left.is_changed (list_any edits calls) new)
mark_noted {E} result made left new calls may is mark edit =
    subst (λ (r : Result Bool E). OnOk r (IsMarkAfter left.is_changed (list_any edits calls) new)) (sym is) (by_result made mark)
  where
    by_result : (made : Result Bool E) → IsMarkAfter left.is_changed (may || is_err made) new → OnOk made (IsMarkAfter left.is_changed (list_any edits calls) new)
    by_result (Err error) mark = tt
    by_result (Ok found) mark = subst (λ (b : Bool). IsMarkAfter left.is_changed b new) (or-false may ∙ edit) mark

-- ---- results

pub on_err : {T E P : Type 0} (result : Result T E) → P → OnErr result P
on_err (Ok value) holds = tt
on_err (Err error) holds = holds
