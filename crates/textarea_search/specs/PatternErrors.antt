-- The errors for a text that is rejected as a pattern.
use Rattle.std.specs.Prelude.{◌≡◌, ◌≢◌, ◌⊎◌, ◌<◌, ℕ, List, None, IfSome}
use Rattle.std.specs.declared.alloc.AllocError.{AllocError}
use Rattle.std.specs.Str.{chars}
use Rattle.regex_syntax.specs.Grammar.{read}
use Rattle.regex.specs.Patterns.{default_config}
use Rattle.regex.specs.Strings.{IsDefaultFailure, IsReadFromSource, regex_config}
use Rattle.regex.specs.declared.string.regex.Regex.{Regex}
use Rattle.regex.specs.declared.error.Error.{Error}
use Rattle.regex.specs.declared.error.Error.TheVariants.{Syntax, Internal}
use Rattle.regex_syntax.specs.declared.error.Error as parser
use Rattle.textarea_search.specs.declared.error.SearchError.{SearchError}
use Rattle.textarea_search.specs.declared.error.SearchError.TheVariants.{Memory, Pattern}

-- the text is no pattern of the grammar, or one that is nested too deeply
abbrev pub IsNoPattern : List ℕ → Type 0
IsNoPattern text =
    (read default_config (chars text) ≡ None)
    ⊎ IfSome (read default_config (chars text)) (λ (found, _). default_config.nest_limit < found.depth)

-- a syntax error comes only for such a text; out of memory may come for any
abbrev pub IsPatternFailure : List ℕ → SearchError → Type 0
IsPatternFailure text error = (e : parser.Error) → error ≡ Pattern (Syntax e) → IsNoPattern text

-- the error isn't one of syntax
abbrev pub IsNoSyntaxError : SearchError → Type 0
IsNoSyntaxError error = (e : parser.Error) → error ≢ Pattern (Syntax e)

-- an error of `regex` is one that `regex` returns for this text, and not an internal failure
abbrev pub IsErrorFor : List ℕ → SearchError → Type 0
IsErrorFor text error = (e : Error) → error ≡ Pattern e → IsDefaultFailure text e × (e ≢ Internal)

-- out of memory for sharing a compiled pattern comes only for a text that `regex` can compile
abbrev pub IsOwnFailure : List ℕ → SearchError → Type 0
IsOwnFailure text error = (e : AllocError) → error ≡ Memory e → ¬ IsNoPattern text

-- the regex was compiled under the default options, and is the reading of its own text
abbrev pub IsBuiltByDefault : Regex → Type 0
IsBuiltByDefault regex = (regex_config regex ≡ default_config) × ∥ IsReadFromSource regex ∥₁
