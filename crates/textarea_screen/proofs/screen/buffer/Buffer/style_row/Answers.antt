use Rattle.std.proofs.Common.{◌+◌, refl, ap, ◌∙◌, arith}
use Rattle.textarea_screen.specs.Cell.{cell_view, styled}
use Rattle.textarea_screen.specs.declared.screen.cell.Cell.{Cell}
use Rattle.textarea_screen.proofs.BufferLemmas.{Changes-next, change_between-none, contains_right, in_row, place-right}
use Rattle.textarea_screen.proofs.ChangeLemmas.{Changes-none}
use Rattle.textarea_screen.proofs.screen.buffer.Buffer.style_row.Goals as goal

pub loop-x-init : goal.loop-x-init
loop-x-init c = Changes-none c.args.self.now _ (λ x y cell. change_between-none c.args.row c.args.area.x (λ u. styled c.args.style) x y cell)

pub loop-x-preserved : goal.loop-x-preserved
loop-x-preserved c =
    let x = c.loop-x.x in
    let row = c.args.row in
    let area = c.args.area in
    let whole = c.args.self.now.area in
    let first = c.requires.inside area.x row (in_row area row area.x c.requires.row.0 c.requires.row.1 (omega arith) (omega arith)) in
    let here = c.requires.inside x row (in_row area row x c.requires.row.0 c.requires.row.1 (omega arith) (omega arith)) in
    Changes-next c.args.self.now c.loop-x.self _ row area.x x (c.place-place.result + c.from.result) (λ u. styled c.args.style) c.index_mut.result.now c.set_style.new.self c.loop-x.invariant
    first (omega arith) (contains_right whole x row here) (omega arith) refl refl
    (c.set_style.ensures ∙ ap (λ (cell : Cell). styled c.args.style (cell_view cell)) c.index_mut.ensures.value)

pub index_mut-requires : goal.index_mut-requires
index_mut-requires c =
    let x = c.loop-x.x in
    let row = c.args.row in
    let area = c.args.area in
    let first = c.requires.inside area.x row (in_row area row area.x c.requires.row.0 c.requires.row.1 (omega arith) (omega arith)) in
    let here = c.requires.inside x row (in_row area row x c.requires.row.0 c.requires.row.1 (omega arith) (omega arith)) in
    place-right c.args.self.now c.loop-x.self row area.x x _ c.loop-x.invariant.area first (omega arith) (contains_right c.args.self.now.area x row here) (omega arith)
