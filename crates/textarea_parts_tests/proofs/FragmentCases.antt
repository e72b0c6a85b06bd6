-- Worked cases of the definitions.
use Rattle.std.proofs.Common.{◌≡◌, [], ◌∷◌, refl}
use Rattle.textarea_text.specs.Prelude.{Character, Break, fragment_symbols, fragment_text, symbols_between, clip, width_of}
use Rattle.unicode_width.specs.Width.{char_width}

-- "a\r\nb\r"
fragment_with_return : fragment_symbols (97 ∷ 13 ∷ 10 ∷ 98 ∷ 13 ∷ []) ≡ Character 97 ∷ Break ∷ Character 98 ∷ Character 13 ∷ []
fragment_with_return = refl

-- "a\r\r\nb": one carriage return is dropped
fragment_with_two_returns : fragment_symbols (97 ∷ 13 ∷ 13 ∷ 10 ∷ 98 ∷ []) ≡ Character 97 ∷ Character 13 ∷ Break ∷ Character 98 ∷ []
fragment_with_two_returns = refl

fragment_none : fragment_symbols [] ≡ []
fragment_none = refl

-- "\n\n"
fragment_breaks : fragment_symbols (10 ∷ 10 ∷ []) ≡ Break ∷ Break ∷ []
fragment_breaks = refl

written_break : fragment_text (Character 97 ∷ Break ∷ Break ∷ Character 13 ∷ []) ≡ 97 ∷ 10 ∷ 10 ∷ 13 ∷ []
written_break = refl

-- "ab", "cd": from after the a to after the c
between_two_lines : symbols_between (Character 97 ∷ Character 98 ∷ Break ∷ Character 99 ∷ Character 100 ∷ []) (0, 1) (1, 1) ≡ Character 98 ∷ Break ∷ Character 99 ∷ []
between_two_lines = refl

clip_row : clip ((97 ∷ 98 ∷ []) ∷ (99 ∷ []) ∷ []) (7, 2) ≡ (1, 1)
clip_row = refl

clip_column : clip ((97 ∷ 98 ∷ []) ∷ (99 ∷ []) ∷ []) (0, 7) ≡ (0, 2)
clip_column = refl

clip_none : clip ((97 ∷ 98 ∷ []) ∷ (99 ∷ []) ∷ []) (0, 1) ≡ (0, 1)
clip_none = refl

-- "a", a tab, "b"
width_of_tab : width_of (97 ∷ 9 ∷ 98 ∷ []) ≡ 2
unfolding char_width
width_of_tab = refl
