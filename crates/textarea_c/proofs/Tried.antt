-- What calls that may run out of memory leave, with the status of each.
use Rattle.std.proofs.Common.{◌≡◌, ℕ, Bool, true, false, Option, Some, None, Result, Ok, Err, is_some, ap, refl, subst, sym, arith}
use Rattle.std.specs.Result.{IfOk, IsOk, OnErr, OnOk}
use Rattle.std.specs.Prelude.{IfSome, IsSomeAnd, if◌then◌else◌}
use Rattle.textarea_data.specs.declared.range.AtomicRange.{AtomicRange}
use Rattle.tui_textarea.specs.State.{State}
use Rattle.textarea_c.specs.declared.editor.Editor.{Editor}
use Rattle.tui_textarea.specs.Selection.{IsInsertOutOfMemory}
use Rattle.textarea_c.specs.Calls.{Calls, Inserts, Replaces, Tells, Tries, TriesToInsert, with_area}
use Rattle.textarea_c_data.specs.Ranges.{IsRangeOut}
use Rattle.textarea_c_data.specs.declared.range.CRange.{CRange}
use Rattle.textarea_util.proofs.Options.{none_of_test}

-- a call that returns whether there was something to do
pub tried : {E : Type 0} (answer : Result Bool E) (status : ℕ) (found : Bool) (area new : State) (a : Editor)
    → IfOk answer (λ removed. removed ≡ found) → OnOk answer (new ≡ area) → OnErr answer (new ≡ a.area) → (found ≡ false → IsOk answer)
    → IfOk answer (λ flag. status ≡ (if flag then 0 else 1)) → OnErr answer (status ≡ 2)
    → Tries found area status a (with_area a new)
tried (Ok true) status found area new a removed ok err nothing said refused =
    ((λ _. ap (with_area a) ok), (λ more. absurd (omega arith)), ((λ _. sym removed), (λ one. absurd (omega arith)), (λ none more. omega arith)))
tried (Ok false) status found area new a removed ok err nothing said refused =
    ((λ _. ap (with_area a) ok), (λ more. absurd (omega arith)), ((λ none. absurd (omega arith)), (λ _. sym removed), (λ none more. omega arith)))
tried (Err e) status found area new a removed ok err nothing said refused = (
  (λ less. absurd (omega arith)),
  (λ _. (refused, ap (with_area a) err)),
  ((λ none. absurd (omega arith)), (λ one. absurd (omega arith)), (λ none more. let never : false ≡ true = nothing none in cc)),
)

-- one that may need memory to know it
pub replaced : {E : Type 0} (answer : Result Bool E) (status : ℕ) (found : Bool) (area new : State) (a : Editor)
    → IfOk answer (λ removed. removed ≡ found) → OnOk answer (new ≡ area) → OnErr answer (new ≡ a.area)
    → IfOk answer (λ flag. status ≡ (if flag then 0 else 1)) → OnErr answer (status ≡ 2)
    → Replaces found area status a (with_area a new)
replaced (Ok true) status found area new a removed ok err said refused = ((λ _. ap (with_area a) ok), (λ more. absurd (omega arith)), (λ _. sym removed), (λ one. absurd (omega arith)))
replaced (Ok false) status found area new a removed ok err said refused = ((λ _. ap (with_area a) ok), (λ more. absurd (omega arith)), (λ none. absurd (omega arith)), (λ _. sym removed))
replaced (Err e) status found area new a removed ok err said refused =
    ((λ less. absurd (omega arith)), (λ _. (refused, ap (with_area a) err)), (λ none. absurd (omega arith)), (λ one. absurd (omega arith)))

-- an insertion
pub inserted : {T E : Type 0} (answer : Result T E) (status : ℕ) (area new : State) (a : Editor)
    → OnOk answer (new ≡ area) → OnErr answer (IsInsertOutOfMemory a.area new) → OnOk answer (status ≡ 0) → OnErr answer (status ≡ 2)
    → Inserts area status a (with_area a new)
inserted (Ok value) status area new a ok err said refused = ((λ _. ap (with_area a) ok), (λ more. absurd (more said)))
inserted (Err e) status area new a ok err said refused = ((λ none. absurd (omega (arith, none, refused))), (λ _. (refused, err, refl)))

-- an insertion that returns whether there was something to insert
pub tried_insertion : {E : Type 0} (answer : Result Bool E) (status : ℕ) (found does : Bool) (area new : State) (a : Editor)
    → IfOk answer (λ inserted. inserted ≡ found) → OnOk answer (new ≡ area) → OnErr answer (IsInsertOutOfMemory a.area new) → (does ≡ false → IsOk answer)
    → IfOk answer (λ flag. status ≡ (if flag then 0 else 1)) → OnErr answer (status ≡ 2)
    → TriesToInsert found does area status a (with_area a new)
tried_insertion (Ok true) status found does area new a made ok err nothing said refused =
    ((λ _. ap (with_area a) ok), (λ more. absurd (omega arith)), (λ _. sym made), (λ one. absurd (omega arith)), (λ none more. omega arith))
tried_insertion (Ok false) status found does area new a made ok err nothing said refused =
    ((λ _. ap (with_area a) ok), (λ more. absurd (omega arith)), (λ none. absurd (omega arith)), (λ _. sym made), (λ none more. omega arith))
tried_insertion (Err e) status found does area new a made ok err nothing said refused = (
  (λ less. absurd (omega arith)),
  (λ _. (refused, err, refl)),
  (λ none. absurd (omega arith)),
  (λ one. absurd (omega arith)),
  (λ none more. let never : false ≡ true = nothing none in cc),
)

-- the status of a range that was found, or not
pub range_tells : (found : Option AtomicRange) (status : ℕ) (range : CRange) → IsRangeOut found status range → Tells (is_some found) status
range_tells None status range is = ((λ none. absurd (omega arith)), (λ _. refl), (λ none more. omega arith))
range_tells (Some hit) status range is = ((λ _. refl), (λ one. absurd (omega (arith, is.0))), (λ none more. omega (arith, is.0)))

-- a range that was found is removed
found_range_removed : (found : Option AtomicRange) (status : ℕ) (range : CRange) (area : State) (a : Editor) (new : State)
    → new ≡ area → IsRangeOut found status range → Tries (is_some found) area status a (with_area a new)
found_range_removed None status range area a new ok is = ((λ _. ap (with_area a) ok), (λ more. absurd (omega arith)), range_tells None status range is)
found_range_removed (Some hit) status range area a new ok is = ((λ _. ap (with_area a) ok), (λ more. absurd (omega arith)), range_tells (Some hit) status range is)

pub range_removed : (found hit : Option AtomicRange) (status : ℕ) (range : CRange) (area : State) (a : Editor) (new : State)
    → found ≡ hit → new ≡ area → IsRangeOut found status range → Tries (is_some hit) area status a (with_area a new)
range_removed found hit status range area a new same ok is =
    subst (λ (h : Option AtomicRange). Tries (is_some h) area status a (with_area a new)) same (found_range_removed found status range area a new ok is)

-- out of memory it stays
pub range_left : (hit : Option AtomicRange) (area : State) (a : Editor) (new : State) → new ≡ a.area → (hit ≡ None → false ≡ true) → Tries (is_some hit) area 2 a (with_area a new)
range_left hit area a new err nothing = (
  (λ less. absurd (omega arith)),
  (λ _. (refl, ap (with_area a) err)),
  ((λ none. absurd (omega arith)), (λ one. absurd (omega arith)), (λ none more. let never : false ≡ true = nothing (none_of_test hit none) in cc)),
)

-- what holds of the editor that was taken and the one that is put back
pub lifted : (content after : Option Editor) (status : ℕ) (P : Editor → Editor → Type 0) (a b seen : Editor) → Some a ≡ content → seen ≡ a → after ≡ Some b → P seen b → Calls content status after P
lifted content after status P a b seen taken same put holds =
    subst (λ (o : Option Editor). Calls o status after P) taken (subst (λ (o : Option Editor). IsSomeAnd o (P a)) (sym put) (subst (λ (s : Editor). P s b) same holds))

pub seen_in : (content : Option Editor) (P : Editor → Type 0) (a seen : Editor) → Some a ≡ content → seen ≡ a → P seen → IfSome content P
seen_in content P a seen taken same holds = subst (λ (o : Option Editor). IfSome o P) taken (subst P same holds)
