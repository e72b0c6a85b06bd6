use Rattle.std.proofs.Common.{refl}
use Rattle.std.specs.Fmt.{digits}
use Rattle.textarea_wrap.specs.declared.wrap.WrapMode.TheVariants as mode
use Rattle.textarea_tests.proofs.WrappedLines.{nine_holds}
use Rattle.textarea_tests.proofs.wrapped_lines.tenth_line_wraps_itself.Goals as goal

pub returns-clause-narrow : goal.returns-clause-narrow
unfolding digits
returns-clause-narrow c = nine_holds mode.Glyph 3 _ (λ style drawing. refl)

pub returns-clause-whole : goal.returns-clause-whole
returns-clause-whole c = nine_holds mode.None 11 _ (λ style drawing. refl)
