use Rattle.std.proofs.Common.{refl, ap, ◌∙◌, arith, rules}
use Rattle.textarea_screen.specs.Cell.{with_symbol, cell_view, styled}
use Rattle.textarea_screen.specs.declared.screen.cell.Cell.{Cell}
use Rattle.textarea_screen.proofs.BufferLemmas.{Changes-set, Changes-outside}
use Rattle.textarea_screen.proofs.screen.buffer.Buffer.put.Goals as goal

pub returns-in_ok-set_symbol-clause-ok : goal.returns-in_ok-set_symbol-clause-ok
returns-in_ok-set_symbol-clause-ok c =
    Changes-set c.args.self.now _ c.args.x c.args.y c.place-place.result (with_symbol c.args.text.now c.args.style) c.index_mut-cell.result.now c.set_style.new.self
    (search rules) c.place-place.ensures.value (omega (arith, c.args.self.now.full, c.args.self.now.cells.ok.0)) refl refl
    (c.set_style.ensures ∙ ap (styled c.args.style) c.in_ok-set_symbol.ensures.ok
    ∙ ap (λ (cell : Cell). with_symbol c.args.text.now c.args.style (cell_view cell)) c.index_mut-cell.ensures.value)

pub returns-else-contains-clause-ok : goal.returns-else-contains-clause-ok
returns-else-contains-clause-ok c =
    Changes-outside c.args.self.now c.args.x c.args.y (with_symbol c.args.text.now c.args.style) (search rules)
