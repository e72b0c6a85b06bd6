use Rattle.std.proofs.Common.{refl}
use Rattle.std.specs.Fmt.{digits}
use Rattle.textarea_wrap.specs.declared.wrap.WrapMode.TheVariants as mode
use Rattle.textarea_tests.proofs.WrappedLines.{nine_holds}
use Rattle.textarea_tests.proofs.wrapped_lines.tenth_line_wraps_all.Goals as goal

pub returns-clause-width : goal.returns-clause-width
unfolding digits
returns-clause-width c = nine_holds mode.Glyph 11 _ (λ style drawing. refl)

pub returns-clause-narrower : goal.returns-clause-narrower
unfolding digits
returns-clause-narrower c = nine_holds mode.Glyph 11 _ (λ style drawing. refl)

pub returns-clause-all : goal.returns-clause-all
unfolding digits
returns-clause-all c = nine_holds mode.Glyph 11 _ (λ style drawing. refl)

pub returns-clause-undone : goal.returns-clause-undone
unfolding digits
returns-clause-undone c = nine_holds mode.Glyph 11 _ (λ style drawing. refl)
