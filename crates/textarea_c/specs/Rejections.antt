-- Rejected patterns.
use Rattle.textarea_search.specs.declared.error.SearchError.{SearchError}
use Rattle.textarea_search.specs.declared.error.SearchError.TheVariants.{Memory, Pattern}

-- `regex` has an error for the pattern
abbrev pub IsRejection : SearchError → Type 0
IsRejection (Pattern error) = Unit {0}
IsRejection (Memory error) = ⊥
