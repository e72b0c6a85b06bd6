-- The grapheme clusters whose columns terminals don't agree on, or that a terminal may join with one beside them.
use Rattle.std.specs.Prelude.{ℕ, Bool, ◌||◌, ◌&&◌, ◌==◌, ◌++◌, nat_lt, List, [], ◌∷◌, chars, encode_utf8, count_by, if◌then◌else◌}
use Rattle.std.specs.Int.{is_in_range}
use Rattle.std.specs.List.{list_any}
use Rattle.textarea_paint.specs.Columns.{char_columns}

abbrev pub is_jamo : ℕ → Bool
is_jamo c = is_in_range 0x1100 0x11FF c || is_in_range 0xA960 0xA97F c || is_in_range 0xD7B0 0xD7FF c

-- a selector of one of a character's forms
abbrev pub is_selector : ℕ → Bool
is_selector c = is_in_range 0xFE00 0xFE0F c || is_in_range 0xE0100 0xE01EF c || is_in_range 0x180B 0x180F c

-- a letter of a flag, or a skin tone
abbrev pub is_part_of_emoji : ℕ → Bool
is_part_of_emoji c = is_in_range 0x1F1E6 0x1F1FF c || is_in_range 0x1F3FB 0x1F3FF c

-- a sign that is written before the number or the letter that follows it
abbrev pub is_prefix_sign : ℕ → Bool
is_prefix_sign c =
    is_in_range 0x0600 0x0605 c || (c == 0x06DD) || (c == 0x070F) || is_in_range 0x0890 0x0891 c || (c == 0x08E2) || (c == 0x0D4E) || (c == 0x110BD) || (c == 0x110CD)

-- terminals differ in what they do at the character: they count it as a column or not, or join it with
-- those before or after it
abbrev pub is_joining : ℕ → Bool
is_joining c = (c == 0x200D) || is_selector c || is_part_of_emoji c || is_jamo c || is_prefix_sign c

abbrev pub has_columns : ℕ → Bool
has_columns c = nat_lt 0 (char_columns c)

-- The cluster's columns are disputed: it has several characters with columns, or one that joins. A
-- character of ambiguous width counts as one column, which isn't disputed.
unfoldable pub is_disputed : List ℕ → Bool
is_disputed text = list_any is_joining (chars text) || nat_lt 1 (count_by has_columns (chars text))

-- ---- clusters that a terminal may show in more columns than we count

-- the selector of a character's form as an emoji
abbrev pub is_emoji_selector : ℕ → Bool
is_emoji_selector c = c == 0xFE0F

abbrev pub is_one_column : ℕ → Bool
is_one_column c = char_columns c == 1

-- some terminals give an emoji two columns whose character has one
unfoldable pub can_widen : List ℕ → Bool
can_widen text = list_any is_emoji_selector (chars text) && list_any is_one_column (chars text)

-- the bytes of the characters before the first such selector
abbrev pub before_selector : List ℕ → List ℕ
before_selector [] = []
before_selector (c ∷ cs) = if is_emoji_selector c then [] else encode_utf8 c ++ before_selector cs
