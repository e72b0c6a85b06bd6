-- The classes of characters, and where words begin and end in a line.
--
-- A line is the list of its characters' codes, and a column is an index of that list. A word is a
-- longest sequence of characters of one class other than Space.
use Rattle.std.specs.Prelude.{ℕ, ◌+◌, ◌-◌, Bool, true, false, ◌&&◌, ◌||◌, not, ◌==◌, nat_lt, nat_le, List, length, slice_index, Option, if◌then◌else◌}
use Rattle.std.specs.Char.{is_whitespace, is_ascii_punctuation}
use Rattle.textarea_text.specs.Nearest.{least_below, greatest_below}
use Rattle.textarea_text.specs.declared.word.CharKind.{CharKind}
use Rattle.textarea_text.specs.declared.word.CharKind.TheVariants.{Space, Punct, Other}
use Rattle.textarea_text.specs.declared.word.Edge.{Edge}
use Rattle.textarea_text.specs.declared.word.Edge.TheVariants.{Start, Past}

-- the class of a character, given by its code: 95 is the `_`
unfoldable pub class_of : ℕ → CharKind
class_of c =
    if is_whitespace c then Space else (if is_ascii_punctuation c && not (c == 95) then Punct else Other)

abbrev pub is_space_class : CharKind → Bool
is_space_class Space = true
is_space_class Punct = false
is_space_class Other = false

abbrev pub is_same_class : CharKind → CharKind → Bool
is_same_class Space Space = true
is_same_class Punct Punct = true
is_same_class Other Other = true
is_same_class _ _ = false

-- a word begins at a character of the second class after one of the first
abbrev pub begins : CharKind → CharKind → Bool
begins before kind = not (is_space_class kind) && not (is_same_class before kind)

-- a word ends at a character of the first class before one of the second
abbrev pub ends : CharKind → CharKind → Bool
ends kind after = not (is_space_class kind) && not (is_same_class kind after)

-- the class of the character at a column within the line
abbrev pub class_at : List ℕ → ℕ → CharKind
class_at line e = class_of (slice_index line e)

-- a word begins at column `e`
abbrev pub is_word_start : List ℕ → ℕ → Bool
is_word_start line e =
    nat_lt e (length line)
    && (not (is_space_class (class_at line e)) && (e == 0 || not (is_same_class (class_at line (e - 1)) (class_at line e))))

-- a word's last character is at column `e`
abbrev pub is_word_last : List ℕ → ℕ → Bool
is_word_last line e =
    nat_lt e (length line)
    && (not (is_space_class (class_at line e)) && (e + 1 == length line || not (is_same_class (class_at line e) (class_at line (e + 1)))))

-- column `e` has a character, and a word ends right before it
abbrev pub is_past_word : List ℕ → ℕ → Bool
is_past_word line e =
    nat_lt e (length line) && (nat_lt 0 e && ends (class_at line (e - 1)) (class_at line e))

-- column `e` has this edge of a word; `lies_between` tests the classes around the edge
abbrev pub is_edge : Edge → List ℕ → ℕ → Bool
is_edge Start line e = is_word_start line e
is_edge Past line e = is_past_word line e

abbrev pub lies_between : Edge → CharKind → CharKind → Bool
lies_between Start before kind = begins before kind
lies_between Past before kind = ends before kind

-- ---- what the four searches look for from a column, `start`

-- column `e` is after `start`, and has this edge of a word
abbrev pub is_later_edge : Edge → List ℕ → ℕ → ℕ → Bool
is_later_edge edge line start e = nat_lt start e && is_edge edge line e

-- column `e` is after `start`, and a word begins there
abbrev pub is_later_word_start : List ℕ → ℕ → ℕ → Bool
is_later_word_start line start e = nat_lt start e && is_word_start line e

-- column `e` is after `start`, and right after a word's last character
abbrev pub is_later_past_word : List ℕ → ℕ → ℕ → Bool
is_later_past_word line start e = nat_lt start e && is_past_word line e

-- column `e` is `start` or after it, and has a word's last character
abbrev pub is_word_last_from : List ℕ → ℕ → ℕ → Bool
is_word_last_from line start e = nat_le start e && is_word_last line e

-- column `e` is before `start`, and a word begins there
abbrev pub is_earlier_word_start : List ℕ → ℕ → ℕ → Bool
is_earlier_word_start line start e = nat_lt e start && is_word_start line e

-- ---- the results of the searches

abbrev pub next_edge : Edge → List ℕ → ℕ → Option ℕ
next_edge edge line start = least_below (is_later_edge edge line start) (length line)

abbrev pub next_word_start : List ℕ → ℕ → Option ℕ
next_word_start line start = least_below (is_later_word_start line start) (length line)

abbrev pub next_past_word : List ℕ → ℕ → Option ℕ
next_past_word line start = least_below (is_later_past_word line start) (length line)

abbrev pub next_word_last : List ℕ → ℕ → Option ℕ
next_word_last line start = least_below (is_word_last_from line start) (length line)

abbrev pub previous_word_start : List ℕ → ℕ → Option ℕ
previous_word_start line start = greatest_below (is_earlier_word_start line start) (length line)
