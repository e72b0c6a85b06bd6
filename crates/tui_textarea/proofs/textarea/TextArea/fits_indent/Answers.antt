use Rattle.std.proofs.Common.{◌≤◌, ◌^◌, None, ap, arith, length}
use Rattle.tui_textarea.proofs.Fitting.{line_stretches-le, product-le}
use Rattle.tui_textarea.proofs.textarea.TextArea.fits_indent.Goals as goal
use Rattle.tui_textarea.proofs.textarea.TextArea.fits_indent.Goals.{then-self, else-self}

pub overflow_mul-len : goal.overflow_mul-len
overflow_mul-len c =
    let small : c.from.result ≤ 255 = elim c.if-self.branch [
      | then-self w ↦ omega (arith, c.from.ensures, w.columns-is)
      | else-self w ↦ omega (arith, c.from.ensures, w.columns-is, w.layout_settings.type_inv.1)
    ] in
    let few : c.len.result ≤ 2 ^ 48 = omega (arith, c.len.ensures, ap length c.in_ok-stretches.ensures, line_stretches-le c.self.inside.document None, c.lines_are_few.ensures) in
    omega (arith, product-le c.len.result c.from.result few small)
