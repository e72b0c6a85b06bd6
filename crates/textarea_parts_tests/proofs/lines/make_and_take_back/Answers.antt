use Rattle.std.proofs.Common.{ap, subst, sym}
use Rattle.textarea_text.specs.Splice.{Fits, applied, inverse}
use Rattle.textarea_text.proofs.TextPlaces.{takes_back}
use Rattle.textarea_lines.specs.TextLayout.{TextAndLayout}
use Rattle.textarea_parts_tests.proofs.lines.make_and_take_back.Goals as goal

-- an edit that was made can be undone
pub take_back-requires-clause-fits : goal.take_back-requires-clause-fits
take_back-requires-clause-fits c =
    let text = c.args.text_layout.now.text in
    let splice = c.args.edit.now.splice in
    let back = subst (λ s. Fits (applied text s) (inverse splice)) (sym c.change.ensures) (takes_back text splice c.requires.fits).fits in
    let text_is = sym (ap (λ (l : TextAndLayout). l.text) c.in_ok-apply.ensures.ok) in
    subst (λ t. Fits t (inverse splice)) text_is back
