-- The states after a rejected pattern and after rejected atomic ranges.
use Rattle.std.proofs.Common.{◌≡◌, ◌≢◌, ℕ, List, [], ◌∷◌, Some, Result, Ok, Err, IfErr, IfOk, IsOk, true, false, refl, subst, sym}
use Rattle.textarea_data.specs.declared.range.AtomicRange.{AtomicRange}
use Rattle.textarea_data.specs.declared.range.RejectedAtomicRange.{RejectedAtomicRange}
use Rattle.textarea_search.specs.PatternErrors.{IsErrorFor, IsPatternFailure}
use Rattle.textarea_search.specs.declared.error.SearchError.{SearchError}
use Rattle.textarea_search.specs.declared.error.SearchError.TheVariants.{Memory, Pattern}
use Rattle.tui_textarea.specs.State.{State}
use Rattle.tui_textarea.specs.Calls.{with_ranges_if}
use Rattle.tui_textarea.specs.Outcomes.{IsPatternCallResult}
use Rattle.tui_textarea.specs.Patterns.{IsNewFailure, IsPatternResult}
use Rattle.tui_textarea.specs.CallResults.{call_result}
use Rattle.textarea_calls.specs.declared.answer.Answer.{Answer}

-- if ranges are rejected, none is set
pub with_rejected : (rejected : List RejectedAtomicRange) (state : State) (ranges : List AtomicRange) → rejected ≢ [] → with_ranges_if rejected state ranges ≡ state
with_rejected [] state ranges some = absurd (some refl)
with_rejected (range ∷ rejected) state ranges some = refl

-- the result of setting a pattern is one that the call may return
pub pattern_result_is : {T E : Type 0} (state : State) (text : List ℕ) (outcome : Result T SearchError) (result_is : Result Answer E)
    → IsPatternResult outcome result_is → (text ≡ [] → IsOk outcome) → (state.pattern ≡ Some text → IsOk outcome)
    → IfErr outcome (IsPatternFailure text) → IfErr outcome (IsErrorFor text)
    → IfOk result_is (λ answer. IsPatternCallResult state text (call_result answer))
pattern_result_is state text outcome (Err error) is empty present ran_out carried = tt
pattern_result_is state text (Ok set) (Ok answer) is empty present ran_out carried =
    subst (IsPatternCallResult state text) (sym is.1) refl
pattern_result_is state text (Err (Memory error)) (Ok answer) is empty present ran_out carried =
    let never : false ≡ true = is in cc
pattern_result_is state text (Err (Pattern error)) (Ok answer) is empty present ran_out carried =
    subst (IsPatternCallResult state text) (sym is.1) (record {
      is_new = record {
        some = λ none. let never : false ≡ true = empty none in cc;
        other = λ same. let never : false ≡ true = present same in cc;
      };
      error = error;
      because = ran_out;
      carried = carried;
    })

-- the same for the pattern of a plain text
pub text_result_is : {T E : Type 0} (state : State) (pattern : List ℕ) (outcome : Result T SearchError) (result_is : Result Answer E)
    → IsPatternResult outcome result_is → IfErr outcome (IsNewFailure state pattern)
    → IfErr outcome (IsPatternFailure pattern) → IfErr outcome (IsErrorFor pattern)
    → IfOk result_is (λ answer. IsPatternCallResult state pattern (call_result answer))
text_result_is state pattern outcome (Err error) is fresh because carried = tt
text_result_is state pattern (Ok set) (Ok answer) is fresh because carried = subst (IsPatternCallResult state pattern) (sym is.1) refl
text_result_is state pattern (Err (Memory error)) (Ok answer) is fresh because carried = let never : false ≡ true = is in cc
text_result_is state pattern (Err (Pattern error)) (Ok answer) is fresh because carried =
    subst (IsPatternCallResult state pattern) (sym is.1)
    (record { is_new = fresh error refl; error = error; because = because; carried = carried })
