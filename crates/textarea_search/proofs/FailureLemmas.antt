-- What an error of `Regex::new` implies about the text.
use Rattle.std.proofs.lemmas.Grind.{common_steps}
use Rattle.std.proofs.lemmas.Bool.Decides.{nat_tests}
use Rattle.std.proofs.Common.{arith, ◌≡◌, ◌≢◌, ◌≤◌, ◌<◌, ◌⊎◌, ℕ, List, length, Option, None, Some, IsSomeAnd, subst, sym, inl, inr}
use Rattle.std.specs.Prelude.{Result, Ok, Err, IfOk, IfErr, IfSome, alloc_error}
use Rattle.regex_hir.specs.Re.{Re}
use Rattle.regex_syntax.specs.Brackets.{Nested}
use Rattle.regex_syntax.specs.Captures.{SameCaptures}
use Rattle.regex_syntax.specs.Grammar.{Names, group_count}
use Rattle.regex_syntax.specs.Verdict.{Reads, Refuses}
use Rattle.regex_syntax.specs.declared.error.Error as parser
use Rattle.regex_syntax.specs.declared.error.ErrorKind.TheVariants.{OutOfMemory}
use Rattle.regex.specs.Patterns.{default_config}
use Rattle.regex.specs.Sources.{IsRefusal}
use Rattle.regex.specs.Failures.{IsRightKind, HasSpanIn}
use Rattle.regex.specs.declared.error.Error.{Error}
use Rattle.regex.specs.declared.error.Error.TheVariants.{Syntax, Internal}
use Rattle.textarea_search.specs.declared.error.SearchError.TheVariants.{Memory, Pattern}
use Rattle.textarea_search.specs.declared.error.SearchError.{SearchError}
use Rattle.regex.specs.Strings.{IsDefaultFailure, IsReadFromSource, regex_source, regex_config}
use Rattle.regex.specs.declared.string.regex.Regex.{Regex}
use Rattle.textarea_search.specs.PatternErrors.{IsNoPattern, IsPatternFailure, IsErrorFor, IsOwnFailure}

no_pattern : (text : List ℕ) (e : parser.Error) → Refuses default_config text e.kind → e.kind ≢ OutOfMemory → IsNoPattern text
unfolding Refuses
no_pattern text e pattern_failure other = grind (arith, common_steps, nat_tests)

pub IsPatternFailure-of_regex : (text : List ℕ) (error : Error) → IsRefusal default_config text error → IsRightKind default_config text error →
    IsPatternFailure text (Pattern error)
IsPatternFailure-of_regex text error pattern_failure right e supplied =
    let same : error ≡ Syntax e = cc in
    let P : Error → Type 0 = IsRightKind default_config text in
    no_pattern text e (pattern_failure e same) (subst P same right)

pub IsErrorFor-of_regex : (text : List ℕ) (error : Error) → IsDefaultFailure text error → error ≢ Internal → IsErrorFor text (Pattern error)
IsErrorFor-of_regex text error failure sound e supplied =
    let same : error ≡ e = cc in
    subst (λ x. IsDefaultFailure text x × (x ≢ Internal)) same (failure, sound)

-- ---- the result of `of_built` for a result of `Regex::new`

module _ {P : Type 0} (Q : SearchError → Type 0) (q_of_memory : Q (Memory alloc_error)) where
  own_error : (result : Result P SearchError) → IfErr result (λ e. e ≡ Memory alloc_error) → IfErr result Q
  own_error (Ok p) own = tt
  own_error (Err e) own = subst Q (sym own) q_of_memory

pub failure_of_built : {P : Type 0} (text : List ℕ) (built : Result Regex Error) (result : Result P SearchError) →
    IfErr built (IsRefusal default_config text) → IfErr built (IsRightKind default_config text) →
    IfOk built (λ _. IfErr result (λ e. e ≡ Memory alloc_error)) → IfErr built (λ error. result ≡ Err (Pattern error)) →
    IfErr result (IsPatternFailure text)
failure_of_built text (Ok regex) result pattern_failure right own carried = own_error (IsPatternFailure text) (λ e is. cc) result own
failure_of_built text (Err error) result pattern_failure right own carried =
    subst (λ r. IfErr r (IsPatternFailure text)) (sym carried) (IsPatternFailure-of_regex text error pattern_failure right)

pub carried_of_built : {P : Type 0} (text : List ℕ) (built : Result Regex Error) (result : Result P SearchError) →
    IfErr built (IsRefusal default_config text) → IfErr built (IsRightKind default_config text) → IfErr built (HasSpanIn text) →
    IfErr built (λ error. error ≢ Internal) →
    IfOk built (λ _. IfErr result (λ e. e ≡ Memory alloc_error)) → IfErr built (λ error. result ≡ Err (Pattern error)) →
    IfErr result (IsErrorFor text)
carried_of_built text (Ok regex) result pattern_failure right span sound own carried = own_error (IsErrorFor text) (λ e is. cc) result own
carried_of_built text (Err error) result pattern_failure right span sound own carried =
    subst (λ r. IfErr r (IsErrorFor text)) (sym carried) (IsErrorFor-of_regex text error (pattern_failure, right, span) sound)

-- a text that was read is a pattern
no_failure : (o : Option (Nested Re × Names)) (most : ℕ) (tree : Re) (names : Names) →
    IsSomeAnd o (λ (re, found). (re.depth ≤ most) × SameCaptures tree re.value × (names ≡ found) × (group_count tree ≤ length names)) →
    (o ≡ None) ⊎ IfSome o (λ (found, _). most < found.depth) → ⊥
no_failure None most tree names read failed = absurd read
no_failure (Some found) most tree names read failed = elim failed [ inl none ↦ cc | inr deep ↦ omega (arith, read.0, deep) ]

is_pattern : (regex : Regex) (text : List ℕ) → regex_source regex ≡ text → regex_config regex ≡ default_config → IsReadFromSource regex → IsNoPattern text → ⊥
unfolding Reads
is_pattern regex text source config read failed =
    no_failure _ _ _ _ (rw config at read) (subst IsNoPattern (sym source) failed)

pub own_of_built : {P : Type 0} (text : List ℕ) (built : Result Regex Error) (result : Result P SearchError) →
    IfOk built (λ regex. regex_source regex ≡ text) → IfOk built (λ regex. regex_config regex ≡ default_config) → IfOk built IsReadFromSource →
    IfOk built (λ _. IfErr result (λ e. e ≡ Memory alloc_error)) → IfErr built (λ error. result ≡ Err (Pattern error)) →
    IfErr result (IsOwnFailure text)
own_of_built text (Ok regex) result source config read own carried = own_error (IsOwnFailure text) (λ e is. is_pattern regex text source config read) result own
own_of_built text (Err error) result source config read own carried =
    subst (λ r. IfErr r (IsOwnFailure text)) (sym carried) (λ e is. cc)
