-- The text on the screen for a segment of a row.
use Rattle.std.specs.Prelude.{◌≡◌, ℕ, ◌-◌, Bool, not, ◌==◌, if◌then◌else◌, List, [], ◌∷◌, ◌++◌, map, take, drop, replicate, filter, Option, None, Some, chars, encode_utf8_all}
use Rattle.textarea_wrap.specs.Columns.{next_stop, column_after}

abbrev pub is_tab : ℕ → Bool
is_tab c = c == 9

-- the text for a character that begins at this column: for a tab, spaces up to the next stop
abbrev pub display_char : ℕ → ℕ → ℕ → List ℕ
display_char tab_len column c = if is_tab c then replicate (next_stop tab_len column - column) 32 else c ∷ []

-- the text with spaces for each tab
abbrev pub with_spaces : ℕ → ℕ → List ℕ → List ℕ
with_spaces tab_len column [] = []
with_spaces tab_len column (c ∷ cs) = display_char tab_len column c ++ with_spaces tab_len (column_after tab_len column c) cs

-- the text without its tabs, except one at its very start
abbrev pub without_tabs : List ℕ → List ℕ
without_tabs cs = take 1 cs ++ filter (λ c. not (is_tab c)) (drop 1 cs)

-- The text for a segment that begins at this column: with a mask, the mask character for each, tabs
-- too; with tab length 0, no tab except one at the very start; else spaces for each tab.
abbrev pub display_text : Option ℕ → ℕ → ℕ → List ℕ → List ℕ
display_text (Some mask) tab_len column cs = map (λ _. mask) cs
display_text None tab_len column cs = if tab_len == 0 then without_tabs cs else with_spaces tab_len column cs

-- the bytes that are shown for the bytes of a segment, and whether these are the segment's own
abbrev pub display_bytes : Option ℕ → ℕ → ℕ → List ℕ → List ℕ
display_bytes mask tab_len column segment = encode_utf8_all (display_text mask tab_len column (chars segment))

abbrev pub IsDisplayedAsItIs : Option ℕ → ℕ → ℕ → List ℕ → Type 0
IsDisplayedAsItIs mask tab_len column segment =
    (mask ≡ None) × (display_text mask tab_len column (chars segment) ≡ chars segment)
