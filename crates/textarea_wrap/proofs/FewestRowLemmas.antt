-- A line has the fewest visual rows that its mode allows.
use Rattle.std.proofs.lemmas.Grind.{common_steps}
use Rattle.std.proofs.Common.{◌≡◌, ℕ, suc, ◌+◌, ◌<◌, List, [], ◌∷◌, length, refl, ap, arith}
use Rattle.textarea_wrap.specs.Prelude.{WrapMode, ranges_from, IsWrapping, IsWrapped, HasFewestRows}
use Rattle.textarea_wrap.specs.declared.wrap.WrapMode.TheVariants as mode
use Rattle.textarea_wrap.proofs.BlankLemmas.{AreBlanksClusters-line_units}
use Rattle.textarea_wrap.proofs.FewestLemmas.{HasFewestGlyphRows-wrapping}
use Rattle.textarea_wrap.proofs.FewestWordLemmas.{HasFewestWordRows-wrapping}

pub length-ranges_from : (at : ℕ) (texts : List (List ℕ)) → length (ranges_from at texts) ≡ length texts
length-ranges_from at [] = refl
length-ranges_from at (text ∷ texts) = ap suc (length-ranges_from (at + length text) texts)

HasFewestRows-wrapping : (mode : WrapMode) (t w : ℕ) (line : List ℕ) (texts : List (List ℕ)) → IsWrapping mode t w line texts → HasFewestRows mode t w line (length texts)
HasFewestRows-wrapping mode.None t w line texts wrapped = ap length wrapped
HasFewestRows-wrapping mode.Word t w line texts wrapped = HasFewestWordRows-wrapping t w line texts (AreBlanksClusters-line_units line) wrapped
HasFewestRows-wrapping mode.Glyph t w line texts wrapped = HasFewestGlyphRows-wrapping t w line texts wrapped
HasFewestRows-wrapping mode.WordOrGlyph t w line texts wrapped = HasFewestWordRows-wrapping t w line texts (AreBlanksClusters-line_units line) wrapped

pub HasFewestRows-wrapped : (mode : WrapMode) (t w : ℕ) (line : List ℕ) (ranges : List (ℕ × ℕ)) → 0 < length line → IsWrapped mode t w line ranges
    → HasFewestRows mode t w line (length ranges)
HasFewestRows-wrapped mode t w [] ranges some wrapped = absurd (omega arith)
HasFewestRows-wrapped mode t w (byte ∷ line) ranges some wrapped =
    grind (arith, common_steps, length-ranges_from, HasFewestRows-wrapping mode t w (byte ∷ line) wrapped.texts wrapped.wrapped)
