-- Why a call that sets a pattern may fail.
use Rattle.std.specs.Prelude.{◌≡◌, ◌≢◌, ℕ, List, [], Some, Result, Ok, Err, IfOk, IsOk, IsErr}
use Rattle.regex.specs.declared.error.Error.{Error}
use Rattle.textarea_search.specs.PatternErrors.{IsErrorFor, IsPatternFailure}
use Rattle.textarea_search.specs.declared.error.SearchError.{SearchError}
use Rattle.textarea_search.specs.declared.error.SearchError.TheVariants.{Memory, Pattern}
use Rattle.tui_textarea.specs.CallResults.{call_result, Done, PatternRejected}
use Rattle.textarea_calls.specs.declared.answer.Answer.{Answer}
use Rattle.tui_textarea.specs.State.{State}

-- the text is neither empty nor the present pattern, so a pattern has to be built
pub record IsNewPattern (state : State) (text : List ℕ) : Type 0 where
  pub some : text ≢ []
  pub other : state.pattern ≢ Some text

-- `regex` may reject the text as a pattern: it has an error for it, and a syntax error only if the
-- text is no pattern or nests too deep
pub record MayRejectPattern (state : State) (text : List ℕ) : Type 0 where
  pub is_new : IsNewPattern state text
  pub error : Error
  pub because : IsPatternFailure text (Pattern error)
  pub carried : IsErrorFor text (Pattern error)

-- an error of `regex` comes only if a pattern has to be built
abbrev pub IsNewFailure : State → List ℕ → SearchError → Type 0
IsNewFailure state text error = (e : Error) → error ≡ Pattern e → IsNewPattern state text

-- how the result of setting a pattern is converted: done if it was set; rejected if `regex`
-- returned an error; and out of memory if that was the reason
abbrev pub IsPatternResult : {T E : Type 0} → Result T SearchError → Result Answer E → Type 0
IsPatternResult (Ok set) reported = IsOk reported × IfOk reported (λ returned. call_result returned ≡ Done)
IsPatternResult (Err (Pattern error)) reported = IsOk reported × IfOk reported (λ returned. call_result returned ≡ PatternRejected)
IsPatternResult (Err (Memory error)) reported = IsErr reported
