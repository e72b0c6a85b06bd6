-- A run of typing: the character of an edit that can be in it, and the run with one more edit.
use Rattle.std.specs.Prelude.{ℕ, List, [], ◌∷◌, ◌++◌, Option, Some, None, if◌then◌else◌}
use Rattle.textarea_text.specs.Text.{Symbol, Character}
use Rattle.textarea_text.specs.Splice.{Splice}

-- the character, if it is the only symbol
abbrev pub character_of : List Symbol → Option ℕ
character_of (Character c ∷ []) = Some c
character_of symbols = None

-- the run and the edit as one splice
abbrev pub merged : Splice → Splice → Splice
merged run edit = record {
  place = if run.inserts then run.place else edit.place;
  symbols = if run.inserts then run.symbols ++ edit.symbols else edit.symbols ++ run.symbols;
  inserts = run.inserts;
}
