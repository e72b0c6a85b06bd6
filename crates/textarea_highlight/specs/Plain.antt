-- Plain characters: two of them side by side are in two grapheme clusters.
use Rattle.std.specs.Prelude.{ℕ, Bool, true, false, ◌&&◌}
use Rattle.ucd_breaks.specs.GraphemeClusterBreak.{grapheme_cluster_break}
use Rattle.ucd_breaks.specs.declared.GraphemeClusterBreak.{GraphemeClusterBreak}
use Rattle.ucd_breaks.specs.declared.GraphemeClusterBreak.TheVariants.{Lv, Lvt, Other}
use Rattle.ucd_derived.specs.IndicConjunctBreak.{indic_conjunct_break}
use Rattle.ucd_derived.specs.declared.IndicConjunctBreak.{IndicConjunctBreak}
use Rattle.ucd_derived.specs.declared.IndicConjunctBreak.TheVariants.{Consonant, None}

-- most characters, and Hangul syllables, which are joined with single jamo only; no mark, joiner,
-- half of a flag or control character, such as the tab
abbrev pub is_single : GraphemeClusterBreak → Bool
is_single Other = true
is_single Lv = true
is_single Lvt = true
is_single _ = false

-- a consonant after the character isn't joined with it
abbrev pub ends_conjunct : IndicConjunctBreak → Bool
ends_conjunct None = true
ends_conjunct Consonant = true
ends_conjunct _ = false

abbrev pub is_plain : ℕ → Bool
is_plain c = is_single (grapheme_cluster_break c) && ends_conjunct (indic_conjunct_break c)
