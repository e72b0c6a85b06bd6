use Rattle.std.proofs.Common.{ℕ, ◌+◌, ◌-◌, List, [], ◌∷◌, length, get_or, refl, ap, ap₂, ◌∙◌, arith, rules}
use Rattle.textarea_screen.specs.Cell.{with_symbol, cell_view}
use Rattle.textarea_screen.specs.declared.screen.cell.Cell.{Cell}
use Rattle.textarea_screen.proofs.BufferLemmas.{Changes-next, Changes-clipped, Changes-apart, place-right, slice_range-one}
use Rattle.textarea_screen.proofs.screen.buffer.Buffer.put_ascii.Goals as goal

pub loop-column-preserved : goal.loop-column-preserved
loop-column-preserved c =
    let x = c.args.x in
    let text = c.args.text.now in
    let style = c.args.style in
    let column = c.loop-column.column in
    record {
      written = Changes-next c.args.self.now c.loop-column.self _ c.args.y c.max-first.result column (c.place-place.result + c.from-right.result) (λ u. with_symbol (get_or text (u - x) 0 ∷ []) style)
          c.index_mut-cell.result.now c.put_inline.new.self c.loop-column.invariant.written (search rules) (omega arith) (omega arith) (omega arith) refl refl
          (c.put_inline.ensures
          ∙ ap₂ (λ (t : List ℕ) (cell : Cell). with_symbol t style (cell_view cell))
          (c.range.ensures.value ∙ slice_range-one text c.from-at.result (omega arith) ∙ ap (λ n. get_or text n 0 ∷ []) (omega arith)) c.index_mut-cell.ensures.value);
      after = omega arith;
    }

pub returns-after-loop-column : goal.returns-after-loop-column
returns-after-loop-column c =
    let text = c.args.text.now in
    Changes-clipped c.args.self.now _ c.args.y c.args.x (c.args.x + length text) c.max-first.result c.min-end.result c.loop-column.column
    (λ u. with_symbol (get_or text (u - c.args.x) 0 ∷ []) c.args.style) c.loop-column.invariant.written (omega arith) (omega arith) (omega arith) (omega arith) (omega arith)

pub returns-else-contains : goal.returns-else-contains
returns-else-contains c =
    let text = c.args.text.now in
    Changes-apart c.args.self.now c.args.y c.args.x (c.args.x + length text) c.max-first.result c.min-end.result
    (λ u. with_symbol (get_or text (u - c.args.x) 0 ∷ []) c.args.style) (omega arith) (omega arith) (λ some. search rules)

pub index_mut-cell-requires : goal.index_mut-cell-requires
index_mut-cell-requires c =
    place-right c.args.self.now c.loop-column.self c.args.y c.max-first.result c.loop-column.column _ c.loop-column.invariant.written.area (search rules) (omega arith) (omega arith) (omega arith)
