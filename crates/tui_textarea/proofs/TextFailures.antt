-- Why the pattern of a plain text is not set.
use Rattle.std.proofs.Common.{◌≡◌, ◌≢◌, ℕ, Bool, List, [], true, false, Result, Ok, Err, IfErr, IsOk, Option, Some, ap, refl, subst, ◌∙◌}
use Rattle.textarea_search.specs.PatternErrors.{IsNoPattern, IsNoSyntaxError, IsPatternFailure}
use Rattle.textarea_search.specs.PlainTexts.{text_pattern}
use Rattle.textarea_search.specs.declared.error.SearchError.{SearchError}
use Rattle.tui_textarea.specs.Patterns.{IsNewFailure}
use Rattle.tui_textarea.specs.State.{State}

-- the empty text has no pattern, and others have one of the grammar
pub no_syntax : {T : Type 0} (text : List ℕ) (pattern : List ℕ) (result : Result T SearchError) → (text ≡ [] → pattern ≡ []) → (text ≢ [] → ¬ (IsNoPattern pattern)) →
    (pattern ≡ [] → IsOk result) → IfErr result (IsPatternFailure pattern) → IfErr result IsNoSyntaxError
no_syntax text pattern (Ok set) none some empty failed = tt
no_syntax text pattern (Err error) none some empty failed =
    let filled : text ≢ [] = λ e. (let never : false ≡ true = empty (none e) in cc) in
    λ e same. some filled (failed e same)

pub new_failure : {T : Type 0} (state : State) (pattern : List ℕ) (result : Result T SearchError) → (pattern ≡ [] → IsOk result) → (state.pattern ≡ Some pattern → IsOk result) →
    IfErr result (IsNewFailure state pattern)
new_failure state pattern (Ok set) empty present = tt
new_failure state pattern (Err error) empty present = λ e same. record {
  some = λ none. let never : false ≡ true = empty none in cc;
  other = λ is. let never : false ≡ true = present is in cc;
}

pub pattern_of_empty : (text : List ℕ) (ignore_case whole_word : Bool) → text ≡ [] → text_pattern text ignore_case whole_word ≡ []
pattern_of_empty text ignore_case whole_word e = ap (λ t. text_pattern t ignore_case whole_word) e
