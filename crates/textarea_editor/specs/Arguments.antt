-- The arguments of the program.
use Rattle.std.specs.Prelude.{◌≡◌, ◌≢◌, ◌==◌, ℕ, true, false, List, [], ◌∷◌, Option, None, Some, String, codes, slice_get, string_bytes}
use Rattle.std.specs.Bool.{MatchBool}
use Rattle.std.specs.Borrow.{Bor}
use Rattle.std.specs.declared.alloc.Global.{Global}
use Rattle.textarea_editor.specs.Positions.{IsPosition}
use Rattle.textarea_editor.specs.declared.arguments.Arguments.{Arguments}
use Rattle.textarea_editor.specs.declared.arguments.Word.{Word}
use Rattle.textarea_editor.specs.declared.arguments.Word.TheVariants as word

-- ---- what a word asks for

-- a word that begins with a minus
pub record IsOption (text : List ℕ) (kind : Word) : Type 0 where
  pub modal : text ≡ codes "--modal" → kind ≡ word.Modal
  pub no_final_newline : text ≡ codes "--no-final-newline" → kind ≡ word.NoFinalNewline
  pub no_indent : text ≡ codes "--no-indent" → kind ≡ word.NoIndent
  pub restore : text ≡ codes "--restore" → kind ≡ word.Restore
  pub unnamed : text ≡ codes "--unnamed" → kind ≡ word.Unnamed
  pub end : text ≡ codes "--" → kind ≡ word.End
  pub other :
      text ≢ codes "--modal" → text ≢ codes "--no-final-newline" → text ≢ codes "--no-indent" → text ≢ codes "--restore" → text ≢ codes "--unnamed" → text ≢ codes "--" → kind ≡ word.Unknown

abbrev pub position_word : Option (ℕ × ℕ) → Word
position_word (Some position) = word.Position position
position_word None = word.Unknown

-- a word that begins with a plus
pub record IsPositionWord (text : List ℕ) (kind : Word) : Type 0 where
  pub position : Option (ℕ × ℕ)
  pub found : IsPosition text position
  pub kind_is : kind ≡ position_word position

-- a word by its first byte: a minus is 45, a plus is 43
abbrev pub IsWordBy : Option ℕ → List ℕ → Word → Type 0
IsWordBy None text kind = kind ≡ word.Name
IsWordBy (Some first) text kind =
    MatchBool (first == 45) (IsOption text kind) (MatchBool (first == 43) (IsPositionWord text kind) (kind ≡ word.Name))

abbrev pub IsWord : List ℕ → Word → Type 0
IsWord text kind = IsWordBy (slice_get text 0) text kind

-- ---- the arguments

-- the name is this word
abbrev pub IsName : String Global → Option (Bor (List ℕ)) → Type 0
IsName name None = ⊥
IsName name (Some found) = found.now ≡ string_bytes name

-- as read before, but with this word as the name
abbrev pub IsWithName : Arguments → String Global → Option Arguments → Type 0
IsWithName read name None = ⊥
IsWithName read name (Some found) = (found ≡ record read { name = found.name }) × IsName name found.name

-- the words after the options: none, or the name of a file
abbrev pub IsNamed : Arguments → List (String Global) → Option Arguments → Type 0
IsNamed read [] found = found ≡ Some read
IsNamed read (name ∷ []) found = IsWithName read name found
IsNamed read names found = found ≡ None

-- what follows a word of this kind; options may follow an option
abbrev pub IsAfterWord : Word → Arguments → List (String Global) → List (String Global) → (Arguments → Type 0) → Option Arguments → Type 0
IsAfterWord word.Modal read words rest Later found = Later (record read { is_modal = true })
IsAfterWord word.NoFinalNewline read words rest Later found = Later (record read { closes_last = false })
IsAfterWord word.NoIndent read words rest Later found = Later (record read { keeps_indent = false })
IsAfterWord word.Restore read words rest Later found = Later (record read { restores = true })
IsAfterWord word.Unnamed read words rest Later found = Later (record read { is_unnamed = true })
IsAfterWord (word.Position position) read words rest Later found = Later (record read { position = Some position })
IsAfterWord word.End read words rest Later found = IsNamed read rest found
IsAfterWord word.Name read words rest Later found = IsNamed read words found
IsAfterWord word.Unknown read words rest Later found = found ≡ None

-- further words, after those that are read
abbrev pub IsReadOn : Arguments → List (String Global) → Option Arguments → Type 0
IsReadOn read [] found = found ≡ Some read
IsReadOn read (first ∷ rest) found =
    (kind : Word) × IsWord (string_bytes first) kind
    × IsAfterWord kind read (first ∷ rest) rest (λ more. IsReadOn more rest found) found

-- without arguments: the keys of the text area, a line end after the last line of a new file, indents
-- that Enter keeps, a question about a journal, no position and no name
abbrev pub nothing_read : Arguments
nothing_read = record { is_modal = false; closes_last = true; keeps_indent = true; restores = false; is_unnamed = false; position = None; name = None }

abbrev pub AreArguments : List (String Global) → Option Arguments → Type 0
AreArguments words found = IsReadOn nothing_read words found
