-- An edit: what it inserts or removes, and between which positions.
use Rattle.std.specs.Prelude.{◌≡◌, ℕ, ◌<◌, ◌≤◌, ◌-◌, Bool, true, false, cond, List, [], ◌∷◌, length, reverse, Option, Some, None, IfSome, string_len, string_capacity}
use Rattle.std.specs.Arc.{arc_value}
use Rattle.textarea_text.specs.Text.{Symbol, Character, Break, characters, characters_of, joined, lines_of}
use Rattle.textarea_text.specs.Place.{Place, end}
use Rattle.textarea_text.specs.Splice.{Splice}
use Rattle.textarea_history.specs.declared.edit.EditKind.{EditKind}
use Rattle.textarea_history.specs.declared.edit.EditKind.TheVariants.{InsertChar, DeleteChar, InsertNewline, DeleteNewline, InsertStr, DeleteStr, InsertChunk, DeleteChunk}
use Rattle.textarea_history.specs.declared.edit.Content.{Content}
use Rattle.textarea_history.specs.declared.edit.Content.TheVariants as content

-- the symbols that an edit of the kind inserts or removes: one character, one break, the characters
-- of a text (a line feed in it is a character), or lines with a break between each two
abbrev pub symbols_of : EditKind → List Symbol
symbols_of (InsertChar c) = Character c ∷ []
symbols_of (DeleteChar c) = Character c ∷ []
symbols_of InsertNewline = Break ∷ []
symbols_of DeleteNewline = Break ∷ []
symbols_of (InsertStr s) = characters (characters_of s)
symbols_of (DeleteStr s) = characters (characters_of s)
symbols_of (InsertChunk fragment_lines) = joined (lines_of fragment_lines.items)
symbols_of (DeleteChunk fragment_lines) = joined (lines_of fragment_lines.items)

abbrev pub inserts_of : EditKind → Bool
inserts_of (InsertChar c) = true
inserts_of (DeleteChar c) = false
inserts_of InsertNewline = true
inserts_of DeleteNewline = false
inserts_of (InsertStr s) = true
inserts_of (DeleteStr s) = false
inserts_of (InsertChunk fragment_lines) = true
inserts_of (DeleteChunk fragment_lines) = false

-- the number of lines of a fragment
abbrev pub line_count_of : EditKind → Option ℕ
line_count_of (InsertChunk fragment_lines) = Some (length fragment_lines.items)
line_count_of (DeleteChunk fragment_lines) = Some (length fragment_lines.items)
line_count_of kind = None

-- a copy of a kind is of the same variant, with the same character, or the same characters in its
-- text or in each of its lines
abbrev pub IsCopyOfKind : EditKind → EditKind → Type 0
IsCopyOfKind (InsertChar c) (InsertChar copy) = copy ≡ c
IsCopyOfKind (DeleteChar c) (DeleteChar copy) = copy ≡ c
IsCopyOfKind InsertNewline InsertNewline = Unit {0}
IsCopyOfKind DeleteNewline DeleteNewline = Unit {0}
IsCopyOfKind (InsertStr s) (InsertStr copy) = characters_of copy ≡ characters_of s
IsCopyOfKind (DeleteStr s) (DeleteStr copy) = characters_of copy ≡ characters_of s
IsCopyOfKind (InsertChunk fragment_lines) (InsertChunk copy) = lines_of copy.items ≡ lines_of fragment_lines.items
IsCopyOfKind (DeleteChunk fragment_lines) (DeleteChunk copy) = lines_of copy.items ≡ lines_of fragment_lines.items
IsCopyOfKind kind copy = ⊥

-- the splice, from the cursor's positions before and after it: an insertion is at the first one, a
-- removal at the second
abbrev pub splice_of : EditKind → Place → Place → Splice
splice_of kind before after = record {
  place = cond (inserts_of kind) before after;
  symbols = symbols_of kind;
  inserts = inserts_of kind;
}

-- the position that is passed as the end of the symbols
abbrev pub end_of_kind : EditKind → Place → Place → Place
end_of_kind kind before after = cond (inserts_of kind) after before

-- an edit as others see it: its splice, the position passed as the end of its symbols, the number
-- of lines of a fragment, how a run of typing can grow in it, and, in a history, whether it is in
-- one group with the edit before it
pub record Stored : Type 0 where
  pub splice : Splice
  pub end : Place
  pub fragment_lines : Option ℕ
  pub grows : Bool
  pub spare : ℕ
  pub grouped : Bool

-- an edit is well formed if it has symbols, if a fragment has at least two lines (and so a break),
-- and if the positions passed are the two ends of its symbols
pub record IsWellFormed (edit : Stored) : Type 0 where
  pub some : 0 < length edit.splice.symbols
  pub fragment_lines : IfSome edit.fragment_lines (λ n. 2 ≤ n)
  pub ends : edit.end ≡ end edit.splice.place edit.splice.symbols

-- the splice with its own direction: as the edit is made, or undone
abbrev pub directed : Splice → Bool → Splice
directed splice inserts = record splice { inserts = inserts }

-- the cursor's positions before and after the edit, as they were passed
abbrev pub before_of : Stored → Place
before_of edit = cond edit.splice.inserts edit.splice.place edit.end

abbrev pub after_of : Stored → Place
after_of edit = cond edit.splice.inserts edit.end edit.splice.place

-- a copy of an edit is the same to others, except for the memory that it has to grow
pub record IsCopyOfEdit (edit copy : Stored) : Type 0 where
  pub splice : copy.splice ≡ edit.splice
  pub end : copy.end ≡ edit.end
  pub fragment_lines : copy.fragment_lines ≡ edit.fragment_lines
  pub grows : copy.grows ≡ edit.grows
  pub grouped : copy.grouped ≡ edit.grouped

-- ---- as an `Edit` stores it

-- the symbols, for an insertion or a removal: typed text is stored in the order of typing
abbrev pub symbols_in : Bool → Content → List Symbol
symbols_in inserts (content.Character c) = Character c ∷ []
symbols_in inserts (content.Text s) = characters (characters_of s)
symbols_in inserts (content.Typed s) = characters (cond inserts (characters_of s) (reverse (characters_of s)))
symbols_in inserts content.Break = Break ∷ []
symbols_in inserts (content.Lines fragment_lines) = joined (lines_of fragment_lines.items)
symbols_in inserts (content.Shared fragment_lines) = joined (lines_of (arc_value fragment_lines).items)

abbrev pub line_count_in : Content → Option ℕ
line_count_in (content.Lines fragment_lines) = Some (length fragment_lines.items)
line_count_in (content.Shared fragment_lines) = Some (length (arc_value fragment_lines).items)
line_count_in other = None

-- whether it can grow as a run
abbrev pub grows_of : Content → Bool
grows_of (content.Character c) = true
grows_of (content.Typed s) = true
grows_of other = false

-- the number of bytes by which the run can grow without allocating
abbrev pub spare_of : Content → ℕ
spare_of (content.Typed s) = string_capacity s - string_len s
spare_of other = 0

abbrev pub stored_of : Content → Bool → Place → Place → Bool → Stored
stored_of stored_content inserts start to grouped = record {
  splice = record { place = start; symbols = symbols_in inserts stored_content; inserts = inserts };
  end = to;
  fragment_lines = line_count_in stored_content;
  grows = grows_of stored_content;
  spare = spare_of stored_content;
  grouped = grouped;
}

-- a copy of a content has the same symbols in either direction
pub record IsCopyOfContent (stored_content copy : Content) : Type 0 where
  pub symbols : (inserts : Bool) → symbols_in inserts copy ≡ symbols_in inserts stored_content
  pub fragment_lines : line_count_in copy ≡ line_count_in stored_content
  pub grows : grows_of copy ≡ grows_of stored_content
