-- The lines of a script, and the result of reading them.
use Rattle.std.specs.Prelude.{◌≡◌, ℕ, ◌≤◌, ◌<◌, ◌-◌, ◌==◌, Bool, true, if◌then◌else◌, List, [], ◌∷◌, length, count_by, filter, map, take, nat_lt, slice_index_or, string_bytes, vec_len, Option, Some, None, is_some, Result, Ok, Err}
use Rattle.std.specs.Coded.{le_prop, Unit-prop}
use Rattle.std.specs.Duration.{as_nanos}
use Rattle.std.specs.List.{list_all, slice_split}
use Rattle.std.specs.Str.{is_utf8}
use Rattle.textarea_calls.specs.Possible.{CanBeMade, CanBeMade-prop}
use Rattle.textarea_calls.specs.declared.call.Call.{Call}
use Rattle.textarea_calls.specs.declared.call.Call.TheVariants as call
use Rattle.textarea_script_syntax.specs.declared.commands.CommandContent.{CommandContent}
use Rattle.textarea_script_syntax.specs.Arguments.{sides_of_area}
use Rattle.textarea_script_syntax.specs.Commands.{line_meaning}
use Rattle.textarea_script_syntax.specs.Meaning as meaning
use Rattle.textarea_script_syntax.specs.Meaning.{Meaning}
use Rattle.textarea_script_syntax.specs.declared.commands.CommandContent.TheVariants.{Plain, InsertStr, InsertPasted, SetYankText, TrySetAtomicRanges, SetLines, SetSearchPattern, ReplaceRange, Input, SetSearchText, ReplaceMatch, ReplaceAll}
use Rattle.textarea_script_syntax.specs.declared.commands.ReadError.{ReadError}
use Rattle.textarea_script_syntax.specs.declared.commands.ReadError.TheVariants.{Line, Memory}

-- the lines of a text, separated by line feeds
abbrev pub lines_of_script : List ℕ → List (List ℕ)
lines_of_script script = slice_split (λ byte. byte == 10) script

abbrev pub is_filled_line : List ℕ → Bool
is_filled_line line = nat_lt 0 (length line)

-- the number of lines that are not empty
abbrev pub filled_lines : List (List ℕ) → ℕ
filled_lines lines = count_by (λ line. is_filled_line line) lines

-- the meaning of a line, which has to be UTF-8
unfoldable pub meaning_of_line : List ℕ → Option Meaning
meaning_of_line line = if is_utf8 line then line_meaning line else None

-- the meanings of the lines that are not empty
abbrev pub meanings_of_lines : List (List ℕ) → List (Option Meaning)
meanings_of_lines lines = map meaning_of_line (filter (λ line. is_filled_line line) lines)

-- the number, counted from 1, is that of a line that is not empty
pub record IsFilledLine (script : List ℕ) (number : ℕ) : Type 0 where
  pub from_one : 1 ≤ number
  pub within : number ≤ length (lines_of_script script)
  pub filled : 0 < length (slice_index_or (lines_of_script script) (number - 1) [])

-- the line of this number has no meaning, and each earlier line that is not empty has one
pub record IsFirstUnparsed (script : List ℕ) (number : ℕ) : Type 0 where
  pub unread : meaning_of_line (slice_index_or (lines_of_script script) (number - 1) []) ≡ None
  pub first : list_all (λ one_meaning. is_some one_meaning) (meanings_of_lines (take (number - 1) (lines_of_script script))) ≡ true

-- the error names the first line of the script that is not empty and is unread
abbrev pub NamesLine : List ℕ → ReadError → Type 0
NamesLine script (Line number) = IsFilledLine script number × IsFirstUnparsed script number
NamesLine script Memory = Unit {0}

-- the error names this line, or is that memory ran out
abbrev pub IsAtLine : ℕ → ReadError → Type 0
IsAtLine number (Line named) = named ≡ number
IsAtLine number Memory = Unit {0}

-- the call of a content can be made
abbrev pub IsCallReady : CommandContent → Type 0
IsCallReady (Plain call) = CanBeMade call
IsCallReady (InsertStr text) = Unit {0}
IsCallReady (InsertPasted text) = Unit {0}
IsCallReady (SetYankText text) = Unit {0}
IsCallReady (TrySetAtomicRanges ranges) = Unit {0}
IsCallReady (SetSearchPattern text) = Unit {0}
IsCallReady (SetSearchText text ignore_case whole_word) = Unit {0}
IsCallReady (SetLines lines cursor) = 0 < vec_len lines
IsCallReady (ReplaceRange from to text) = Unit {0}
IsCallReady (ReplaceMatch text) = Unit {0}
IsCallReady (ReplaceAll text) = Unit {0}
IsCallReady (Input input) = Unit {0}

pub IsReady-prop : (content : CommandContent) → IsProp (IsCallReady content)
IsReady-prop (Plain call) = CanBeMade-prop call
IsReady-prop (InsertStr text) = Unit-prop
IsReady-prop (InsertPasted text) = Unit-prop
IsReady-prop (SetYankText text) = Unit-prop
IsReady-prop (TrySetAtomicRanges ranges) = Unit-prop
IsReady-prop (SetSearchPattern text) = Unit-prop
IsReady-prop (SetSearchText text ignore_case whole_word) = Unit-prop
IsReady-prop (SetLines lines cursor) = le_prop
IsReady-prop (ReplaceRange from to text) = Unit-prop
IsReady-prop (ReplaceMatch text) = Unit-prop
IsReady-prop (ReplaceAll text) = Unit-prop
IsReady-prop (Input input) = Unit-prop

-- the meaning of a command's content
abbrev pub meaning_of : CommandContent → Meaning
meaning_of (Plain (call.SetNow time)) = meaning.SetNow (as_nanos time)
meaning_of (Plain (call.Render area)) = meaning.Render (sides_of_area area)
meaning_of (Plain plain) = meaning.Plain plain
meaning_of (InsertStr text) = meaning.InsertStr (string_bytes text)
meaning_of (InsertPasted text) = meaning.InsertPasted (string_bytes text)
meaning_of (SetYankText text) = meaning.SetYankText (string_bytes text)
meaning_of (TrySetAtomicRanges ranges) = meaning.TrySetAtomicRanges ranges.items
meaning_of (SetSearchPattern text) = meaning.SetSearchPattern (string_bytes text)
meaning_of (SetSearchText text ignore_case whole_word) = meaning.SetSearchText (string_bytes text) ignore_case whole_word
meaning_of (SetLines lines cursor) = meaning.SetLines (map string_bytes lines.items) cursor
meaning_of (ReplaceRange from to text) = meaning.ReplaceRange from to (string_bytes text)
meaning_of (ReplaceMatch text) = meaning.ReplaceMatch (string_bytes text)
meaning_of (ReplaceAll text) = meaning.ReplaceAll (string_bytes text)
meaning_of (Input input) = meaning.Press input

-- an unread line has no meaning
abbrev pub IsUnparsedLine : Option Meaning → ReadError → Type 0
IsUnparsedLine one_meaning (Line number) = one_meaning ≡ None
IsUnparsedLine one_meaning Memory = Unit {0}

-- a line that is read is a command with the line's meaning
abbrev pub IsCommandOf : {C : Type 0} → (C → CommandContent) → Option Meaning → Result C ReadError → Type 0
IsCommandOf content_of one_meaning (Ok command) = one_meaning ≡ Some (meaning_of (content_of command))
IsCommandOf content_of one_meaning (Err error) = IsUnparsedLine one_meaning error

-- the call of a command's content: the stored call, or one that borrows the content's values
abbrev pub IsCallOf : CommandContent → Call → Type 0
IsCallOf (Plain plain) made = made ≡ plain
IsCallOf (InsertStr text) (call.InsertStr borrowed) = borrowed.now ≡ string_bytes text
IsCallOf (InsertPasted text) (call.InsertPasted borrowed) = borrowed.now ≡ string_bytes text
IsCallOf (SetYankText text) (call.SetYankText borrowed) = borrowed.now ≡ string_bytes text
IsCallOf (TrySetAtomicRanges ranges) (call.TrySetAtomicRanges borrowed) = borrowed.now ≡ ranges.items
IsCallOf (SetSearchPattern text) (call.SetSearchPattern borrowed) = borrowed.now ≡ string_bytes text
IsCallOf (SetSearchText text ignore_case whole_word) (call.SetSearchText borrowed ignores_case wants_words) =
    (borrowed.now ≡ string_bytes text) × (ignores_case ≡ ignore_case) × (wants_words ≡ whole_word)
IsCallOf (SetLines lines cursor) (call.SetLines borrowed place) = (borrowed.now ≡ lines.items) × (place ≡ cursor)
IsCallOf (ReplaceRange start stop text) (call.ReplaceRange from to borrowed) =
    (from ≡ start) × (to ≡ stop) × (borrowed.now ≡ string_bytes text)
IsCallOf (ReplaceMatch text) (call.ReplaceMatch borrowed) = borrowed.now ≡ string_bytes text
IsCallOf (ReplaceAll text) (call.ReplaceAll borrowed) = borrowed.now ≡ string_bytes text
IsCallOf (Input input) (call.Input borrowed) = borrowed.now ≡ input
IsCallOf content other = ⊥

-- the calls of the commands with these contents, one by one
abbrev pub AreCallsOf : List CommandContent → List Call → Type 0
AreCallsOf [] [] = Unit {0}
AreCallsOf (content ∷ contents) (made ∷ rest) = IsCallOf content made × AreCallsOf contents rest
AreCallsOf contents made = ⊥
