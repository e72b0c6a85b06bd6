use Rattle.textarea_wrap.specs.declared.wrap.WrapMode.TheVariants as mode
use Rattle.textarea_wrap.proofs.FewestRowLemmas.{HasFewestRows-wrapped}
use Rattle.textarea_wrap.proofs.laws.fewest_rows.Goals as goal

pub returns-clause-glyphs : goal.returns-clause-glyphs
returns-clause-glyphs c = HasFewestRows-wrapped mode.Glyph

pub returns-clause-words : goal.returns-clause-words
returns-clause-words c = HasFewestRows-wrapped mode.Word

pub returns-clause-words_or_glyphs : goal.returns-clause-words_or_glyphs
returns-clause-words_or_glyphs c = HasFewestRows-wrapped mode.WordOrGlyph
