use Rattle.std.proofs.Common.{ap, arith, length, subst, sym}
use Rattle.textarea_text.specs.Place.{IsPlace}
use Rattle.textarea_text.proofs.StringRows.{row_within, rows_place}
use Rattle.textarea_lines.specs.TextLayout.{TextAndLayout}
use Rattle.textarea_lines.proofs.text_layout.TextLayout.mark.Goals as goal

pub extend-requires-clause-row : goal.extend-requires-clause-row
extend-requires-clause-row c =
    let items = c.self.inside.lines.items in
    let here = rows_place items c.args.place c.self.invariant.contents.stored.some (subst (λ (l : TextAndLayout). IsPlace l.text c.args.place) (sym c.self.view_is) c.requires) in
    omega (arith, row_within items c.args.place here, ap length c.as_slice.ensures.value)
