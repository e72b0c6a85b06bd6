use Rattle.std.proofs.Common.{◌≡◌, ◌+◌, ◌-◌, ◌*◌, ◌&&◌, true, false, sym, ap, ◌∙◌, arith}
use Rattle.textarea_terminal.specs.PaintCells.{begins_empty, cell_in, cells_at, is_half}
use Rattle.textarea_terminal.proofs.PaintFill.{begins_empty-next}
use Rattle.textarea_terminal.proofs.output.frame.are_empty.Goals as goal

pub returns-then-not-is_empty : goal.returns-then-not-is_empty
returns-then-not-is_empty c =
    let index = c.loop-index.index in
    let size = c.args.area.height * c.args.area.width in
    let end = c.args.from + c.args.count in
    let rest = begins_empty (end - (index + 1)) (cells_at c.args.area c.args.buffer.now (index + 1) (size - (index + 1))) in
    let half : is_half (cell_in c.args.area c.args.buffer.now index) ≡ false =
    ap (λ p. is_half (cell_in c.args.area c.args.buffer.now p)) (sym c.new-spot.ensures.index) ∙ ap is_half (sym c.source_at.ensures) ∙ sym c.if-not-is_empty.ensures in
    sym (sym c.loop-index.invariant ∙ begins_empty-next c.args.area c.args.buffer.now index end size (omega arith) c.requires ∙ ap (λ b. b && rest) half)

pub loop-index-preserved : goal.loop-index-preserved
loop-index-preserved c =
    let index = c.loop-index.index in
    let size = c.args.area.height * c.args.area.width in
    let end = c.args.from + c.args.count in
    let rest = begins_empty (end - (index + 1)) (cells_at c.args.area c.args.buffer.now (index + 1) (size - (index + 1))) in
    let half : is_half (cell_in c.args.area c.args.buffer.now index) ≡ true =
    ap (λ p. is_half (cell_in c.args.area c.args.buffer.now p)) (sym c.new-spot.ensures.index) ∙ ap is_half (sym c.source_at.ensures) ∙ sym c.if-not-is_empty.ensures in
    sym (begins_empty-next c.args.area c.args.buffer.now index end size (omega arith) c.requires ∙ ap (λ b. b && rest) half) ∙ c.loop-index.invariant
