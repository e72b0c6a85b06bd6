-- How the arguments of a command are read. A reading takes a text, a list of bytes, and gives the
-- value that it writes, or none.
use Rattle.std.specs.Prelude.{ℕ, ℤ, pos, neg_ℤ, ◌+◌, ◌-◌, ◌^◌, ◌==◌, min, Bool, true, false, ◌&&◌, if◌then◌else◌, nat_lt, List, [], ◌∷◌, length, drop, slice_index, bytes_eq, codes, Option}
use Rattle.std.specs.Prelude.{Some, None, option_map, option_and_then, Result, Ok, Err, ◌≡◌}
use Rattle.std.specs.Char.{is_ascii_digit}
use Rattle.std.specs.List.{after_first, before_first, list_all, position_or_len}
use Rattle.std.specs.Option.{option_zip}
use Rattle.std.specs.Str.Parse.{digits_value}
use Rattle.textarea_change.specs.declared.change.ChangeUnit.{ChangeUnit}
use Rattle.textarea_change.specs.declared.change.ChangeUnit.TheVariants as unit
use Rattle.textarea_data.specs.declared.cursor.CursorMove.{CursorMove}
use Rattle.textarea_data.specs.declared.cursor.CursorMove.TheVariants as move
use Rattle.textarea_data.specs.declared.cursor.CursorUnit.{CursorUnit}
use Rattle.textarea_data.specs.declared.cursor.CursorUnit.TheVariants as cursor_unit
use Rattle.textarea_data.specs.declared.scroll.Scrolling.{Scrolling}
use Rattle.textarea_data.specs.declared.scroll.Scrolling.TheVariants as scrolling
use Rattle.textarea_screen.specs.declared.screen.rect.Rect.{Rect}
use Rattle.textarea_script_syntax.specs.declared.arguments.Unparsed.{Unparsed}
use Rattle.textarea_script_syntax.specs.declared.arguments.Unparsed.TheVariants.{NoCommand, Memory}
use Rattle.textarea_wrap.specs.declared.wrap.WrapMode.{WrapMode}
use Rattle.textarea_wrap.specs.declared.wrap.WrapMode.TheVariants as mode

-- the value of a name in a table, if the table has the name
abbrev pub named : {A : Type 0} → List (List ℕ × A) → List ℕ → Option A
named [] name = None
named (row ∷ rows) name = if bytes_eq name row.0 then Some row.1 else named rows name

abbrev pub is_separator : ℕ → Bool
is_separator byte = byte == 32

-- whether there is a space in the text
abbrev pub has_space : List ℕ → Bool
has_space text = nat_lt (position_or_len is_separator text) (length text)

-- the text before the first space and the text after it; none where there is no space
abbrev pub split_first : List ℕ → Option (List ℕ × List ℕ)
split_first text = if has_space text then Some (before_first is_separator text, after_first is_separator text) else None

-- two arguments, separated by one space, each read in its own way
abbrev pub both : {A B : Type 0} → (List ℕ → Option A) → (List ℕ → Option B) → List ℕ → Option (A × B)
both first second text = option_and_then (λ p. option_zip (first p.0) (second p.1)) (split_first text)

abbrev pub truths : List (List ℕ × Bool)
truths = (codes "true", true) ∷ (codes "false", false) ∷ []

abbrev pub truth : List ℕ → Option Bool
truth = named truths

-- the text has only digits, and at least one; the first may be 0
abbrev pub is_number : List ℕ → Bool
is_number text = nat_lt 0 (length text) && list_all (λ byte. is_ascii_digit byte) text

-- the decimal number, if it is less than the bound
unfoldable pub number_below : ℕ → List ℕ → Option ℕ
number_below bound text =
    if is_number text && nat_lt (digits_value 10 text) bound then Some (digits_value 10 text) else None

-- numbers of 64, 16 and 8 bits
abbrev pub number : List ℕ → Option ℕ
number = number_below (2 ^ 64)

-- one of 64 bits, or none, which has a name
abbrev pub number_or_none : List ℕ → Option (Option ℕ)
number_or_none text = if bytes_eq text (codes "None") then Some None else option_map Some (number text)

abbrev pub short_number : List ℕ → Option ℕ
short_number = number_below (2 ^ 16)

abbrev pub byte_number : List ℕ → Option ℕ
byte_number = number_below (2 ^ 8)

-- a number of 16 bits; a negative number has a `-` before its digits
unfoldable pub signed_number : List ℕ → Option ℤ
signed_number text =
    if slice_index text 0 == 45
    then option_map (λ n. neg_ℤ (pos n)) (number_below (2 ^ 15 + 1) (drop 1 text))
    else option_map pos (number_below (2 ^ 15) text)

abbrev pub two_short_numbers : List ℕ → Option (ℕ × ℕ)
two_short_numbers = both short_number short_number

abbrev pub two_numbers : List ℕ → Option (ℕ × ℕ)
two_numbers = both number number

-- two positions, each a row and a column
abbrev pub two_places : List ℕ → Option ((ℕ × ℕ) × (ℕ × ℕ))
two_places text = option_map (λ p. ((p.0, p.1.0), p.1.1)) (both number (both number two_numbers) text)

-- an area: its left column, top row, width and height, clipped so that it ends at 65535 or before
abbrev pub Sides : Type 0
Sides = ℕ × ℕ × ℕ × ℕ

abbrev pub sides_of : ℕ × (ℕ × (ℕ × ℕ)) → Sides
sides_of p = (p.0, p.1.0, min p.1.1.0 (65535 - p.0), min p.1.1.1 (65535 - p.1.0))

abbrev pub sides : List ℕ → Option Sides
sides text = option_map sides_of (both short_number (both short_number two_short_numbers) text)

abbrev pub sides_of_area : Rect → Sides
sides_of_area area = (area.x, area.y, area.width, area.height)

-- the amounts of a scroll: rows, then columns
abbrev pub scroll_amounts : List ℕ → Option Scrolling
scroll_amounts text = option_map (λ p. scrolling.Delta p.0 p.1) (both signed_number signed_number text)

abbrev pub pages : List (List ℕ × Scrolling)
pages =
    (codes "PageDown", scrolling.PageDown)
    ∷ (codes "PageUp", scrolling.PageUp)
    ∷ (codes "HalfPageDown", scrolling.HalfPageDown)
    ∷ (codes "HalfPageUp", scrolling.HalfPageUp)
    ∷ []

abbrev pub page : List ℕ → Option Scrolling
page = named pages

-- the moves by their names; `Jump` has its own command
abbrev pub moves : List (List ℕ × CursorMove)
moves =
    (codes "Forward", move.Forward)
    ∷ (codes "Back", move.Back)
    ∷ (codes "Up", move.Up)
    ∷ (codes "Down", move.Down)
    ∷ (codes "Head", move.Head)
    ∷ (codes "End", move.End)
    ∷ (codes "Top", move.Top)
    ∷ (codes "Bottom", move.Bottom)
    ∷ (codes "WordForward", move.WordForward)
    ∷ (codes "WordEnd", move.WordEnd)
    ∷ (codes "WordBack", move.WordBack)
    ∷ (codes "ParagraphForward", move.ParagraphForward)
    ∷ (codes "ParagraphBack", move.ParagraphBack)
    ∷ (codes "InViewport", move.InViewport)
    ∷ []

abbrev pub move_named : List ℕ → Option CursorMove
move_named = named moves

abbrev pub change_units : List (List ℕ × Option ChangeUnit)
change_units =
    (codes "Characters", Some unit.Characters)
    ∷ (codes "Bytes", Some unit.Bytes)
    ∷ (codes "Utf16", Some unit.Utf16)
    ∷ (codes "None", None)
    ∷ []

abbrev pub change_unit_named : List ℕ → Option (Option ChangeUnit)
change_unit_named = named change_units

abbrev pub cursor_unit_names : List (List ℕ × CursorUnit)
cursor_unit_names = (codes "Character", cursor_unit.Character) ∷ (codes "Cluster", cursor_unit.Cluster) ∷ []

abbrev pub cursor_unit_named : List ℕ → Option CursorUnit
cursor_unit_named = named cursor_unit_names

abbrev pub modes : List (List ℕ × WrapMode)
modes =
    (codes "None", mode.None)
    ∷ (codes "Word", mode.Word)
    ∷ (codes "Glyph", mode.Glyph)
    ∷ (codes "WordOrGlyph", mode.WordOrGlyph)
    ∷ []

abbrev pub mode_named : List ℕ → Option WrapMode
mode_named = named modes

-- why a value is unread: the text writes no value, or memory ran out
abbrev pub IsUnparsedAs : {B : Type 0} → Option B → Unparsed → Type 0
IsUnparsedAs meaning NoCommand = meaning ≡ None
IsUnparsedAs meaning Memory = Unit {0}

-- a value that is read is the one that the text writes
abbrev pub IsReadAs : {A B : Type 0} → (A → B) → Option B → Result A Unparsed → Type 0
IsReadAs view meaning (Ok read) = meaning ≡ Some (view read)
IsReadAs view meaning (Err unread) = IsUnparsedAs meaning unread
