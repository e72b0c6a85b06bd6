-- An edit, followed by its inverse.
use Rattle.std.specs.Prelude.{◌≡◌, List}
use Rattle.textarea_text.specs.Text.{Symbol}
use Rattle.textarea_text.specs.Splice.{Splice, Fits, applied, inverse}

-- the inverse fits the text after the edit, and gives back the text
pub record IsUndone (text : List Symbol) (splice : Splice) : Type 0 where
  pub fits : Fits (applied text splice) (inverse splice)
  pub back : applied (applied text splice) (inverse splice) ≡ text
