-- The course of inputs after others.
use Rattle.std.proofs.Common.{◌≡◌, ℕ, ◌+◌, Bool, true, false, List, [], ◌∷◌, ◌++◌, ap, refl, sym, ◌∙◌, append_assoc, append-nil, arith}
use Rattle.std.proofs.lemmas.Bool.{false≢true}
use Rattle.textarea_data.specs.declared.input.Input.{Input}
use Rattle.textarea_calls.specs.declared.call.Call.{Call}
use Rattle.textarea_modal.specs.Course.{Course, before, course, stays, unless}
use Rattle.textarea_modal.specs.Table.{Step, step}
use Rattle.textarea_modal.specs.declared.mode.Mode.{Mode}

-- the later course after the earlier one
abbrev pub joined : Course → Course → Course
joined earlier later = record {
  calls = earlier.calls ++ later.calls;
  mode = later.mode;
  taken = earlier.taken + later.taken;
  quits = later.quits;
}

abbrev course_of : List Call → Mode → ℕ → Bool → Course
course_of calls mode taken quits = record { calls = calls; mode = mode; taken = taken; quits = quits }

same_course : (calls other : List Call) (mode : Mode) (taken number : ℕ) (quits : Bool) → calls ≡ other → taken ≡ number → course_of calls mode taken quits ≡ course_of other mode number quits
same_course calls other mode taken number quits e f = rw (e, f) refl

joined_before : (this : Step) (earlier later : Course) → before this (joined earlier later) ≡ joined (before this earlier) later
joined_before this earlier later =
    same_course _ _ later.mode _ _ later.quits (sym (append_assoc this.calls earlier.calls later.calls)) (omega arith)

unless_joined : (quits : Bool) (this : Step) (earlier later whole : Course) → (unless quits this.mode earlier).quits ≡ false → (earlier.quits ≡ false → whole ≡ joined earlier later)
    → before this (unless quits this.mode whole) ≡ joined (before this (unless quits this.mode earlier)) later
unless_joined true this earlier later whole continues same = absurd (false≢true (sym continues))
unless_joined false this earlier later whole continues same =
    ap (before this) (same continues) ∙ joined_before this earlier later

continues_unless : (quits : Bool) (mode : Mode) (earlier : Course) → (unless quits mode earlier).quits ≡ false → earlier ≡ unless quits mode earlier
continues_unless true mode earlier continues = absurd (false≢true (sym continues))
continues_unless false mode earlier continues = refl

-- if no earlier input quits, the later inputs follow
pub course-append : (mode : Mode) (earlier later : List Input) → (course mode earlier).quits ≡ false → course mode (earlier ++ later) ≡ joined (course mode earlier) (course (course mode earlier).mode later)
course-append mode [] later continues = same_course _ _ _ _ _ _ refl (omega arith)
course-append mode (input ∷ earlier) later continues =
    let this = step mode input in
    let rest = course this.mode earlier in
    unless_joined this.quits this rest (course (unless this.quits this.mode rest).mode later) (course this.mode (earlier ++ later)) continues
    (λ on. course-append this.mode earlier later on ∙ ap (λ (c : Course). joined rest (course c.mode later)) (continues_unless this.quits this.mode rest continues))

unless_same : (quits : Bool) (this : Step) (whole rest_of_course : Course) → (unless quits this.mode rest_of_course).quits ≡ true → (rest_of_course.quits ≡ true → whole ≡ rest_of_course)
    → before this (unless quits this.mode whole) ≡ before this (unless quits this.mode rest_of_course)
unless_same true this whole rest_of_course ends same = refl
unless_same false this whole rest_of_course ends same = ap (before this) (same ends)

-- no input is used after one that quits
pub course-end : (mode : Mode) (earlier later : List Input) → (course mode earlier).quits ≡ true → course mode (earlier ++ later) ≡ course mode earlier
course-end mode [] later ends = absurd (false≢true ends)
course-end mode (input ∷ earlier) later ends =
    let this = step mode input in
    unless_same this.quits this (course this.mode (earlier ++ later)) (course this.mode earlier) ends (course-end this.mode earlier later)

-- the course of one input with this step
abbrev pub single_step : Step → Course
single_step this = record { calls = this.calls; mode = this.mode; taken = 1; quits = this.quits }

before_none : (quits : Bool) (this : Step) → this.quits ≡ quits → before this (unless quits this.mode (stays this.mode false)) ≡ single_step this
before_none true this is =
    rw is (same_course _ _ this.mode _ _ true (append-nil this.calls) (omega arith))
before_none false this is =
    rw is (same_course _ _ this.mode _ _ false (append-nil this.calls) (omega arith))

-- the course of inputs and one more input
pub course-more : (mode : Mode) (earlier : List Input) (input : Input) → (course mode earlier).quits ≡ false → course mode (earlier ++ input ∷ []) ≡ joined (course mode earlier) (single_step (step (course mode earlier).mode input))
course-more mode earlier input continues =
    let this = step (course mode earlier).mode input in
    course-append mode earlier (input ∷ []) continues ∙ ap (joined (course mode earlier)) (before_none this.quits this refl)
