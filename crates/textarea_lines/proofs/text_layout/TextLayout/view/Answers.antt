use Rattle.std.proofs.Common.{subst, sym}
use Rattle.textarea_screen_map.specs.BorrowedLines.{BorrowedRows}
use Rattle.textarea_lines.specs.View.{IsViewOf}
use Rattle.textarea_lines.proofs.Widths.{is_view}
use Rattle.textarea_lines.proofs.text_layout.TextLayout.view.Goals as goal

pub returns : goal.returns
returns c =
    let inside = c.self.inside in
    subst (λ (v : BorrowedRows). IsViewOf c.args.self.now v) (sym c.new.ensures)
    (is_view inside.settings inside.lines.items c.as_slice.result.now inside.size inside.count inside.map c.args.self.now (record { rows = c.self.invariant.contents; is = c.self.view_is }) c.as_slice.ensures.value)
