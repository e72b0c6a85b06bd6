use Rattle.std.proofs.Common.{ℕ, ◌+◌, List, eqb, refl, sym, ap, ap₂, ◌∙◌, arith, rules}
use Rattle.std.proofs.lemmas.Bool.Decides.{nat_tests}
use Rattle.textarea_screen.specs.Buffer.{wide_symbol}
use Rattle.textarea_screen.specs.Cell.{CellView, cell_view, styled, with_symbol}
use Rattle.textarea_screen.specs.declared.screen.cell.Cell.{Cell}
use Rattle.textarea_screen.proofs.BufferLemmas.{change_between, change_between-none, Changes-next, Changes-clipped, Changes-apart, place-right}
use Rattle.textarea_screen.proofs.ChangeLemmas.{Changes-none}
use Rattle.textarea_screen.proofs.screen.buffer.Buffer.put_wide.Goals as goal
use Rattle.textarea_screen.proofs.screen.buffer.Buffer.put_wide.Goals.{then-is_whole+then-x-start+in_ok-set_symbol, else-is_whole, else-is_whole-via-then-is_whole+else-x-start}
use Rattle.textarea_screen.proofs.screen.buffer.Buffer.put_wide.Goals.{else-is_whole-via-else-is_whole, else-start-end-via-then-start-end+else-contains, else-start-end-via-else-start-end}

pub loop-column-init : goal.loop-column-init
loop-column-init c =
    let start = c.max-start.result in
    let symbols : ℕ → CellView → CellView = λ u. with_symbol (wide_symbol c.args.is_whole (eqb u c.args.x) c.args.text.now) c.args.style in
    let none = Changes-none c.args.self.now (change_between c.args.y start start symbols) (λ u v cell. change_between-none c.args.y start symbols u v cell) in
    elim c.if-is_whole.branch [
      | then-is_whole+then-x-start+in_ok-set_symbol w ↦
          record {
            written = rw (w.self-is, w.next-is) (Changes-next c.args.self.now c.args.self.now _ c.args.y start start c.place-place.result symbols w.index_mut-cell.result.now w.set_style.new.self
                none (search rules) (omega arith) (omega arith) (omega arith) refl refl
                (w.set_style.ensures ∙ ap (styled c.args.style) w.in_ok-set_symbol.ensures.ok
                ∙ ap₂ (λ (t : List ℕ) (cell : Cell). with_symbol t c.args.style (cell_view cell)) (grind (arith, nat_tests)) w.index_mut-cell.ensures.value));
            past = λ whole. omega (arith, w.next-is, w.if-x-start.true);
            begun = omega (arith, w.next-is);
            after = omega (arith, w.next-is);
          }
      | else-is_whole w ↦
          record {
            written = rw (w.self-is, w.next-is) none;
            past = λ whole. elim w.else-is_whole.branch [
              | else-is_whole-via-then-is_whole+else-x-start v ↦ omega (arith, w.next-is, v.if-x-start.false, c.max-start.ensures)
              | else-is_whole-via-else-is_whole v ↦ absurd (grind (arith, nat_tests))
            ];
            begun = omega (arith, w.next-is);
            after = omega (arith, w.next-is);
          }
    ]

pub index_mut-cell-requires-in-loop-column : goal.index_mut-cell-requires-in-loop-column
index_mut-cell-requires-in-loop-column c =
    place-right c.args.self.now c.loop-column.self c.args.y c.max-start.result c.loop-column.column _ c.loop-column.invariant.written.area (search rules) c.loop-column.invariant.begun (omega arith) (omega arith)

pub loop-column-preserved : goal.loop-column-preserved
loop-column-preserved c =
    let x = c.args.x in
    let column = c.loop-column.column in
    let i = c.loop-column.invariant in
    record {
      written = Changes-next c.args.self.now c.loop-column.self _ c.args.y c.max-start.result column (c.place-place.result + c.from-right.result)
          (λ u. with_symbol (wide_symbol c.args.is_whole (eqb u x) c.args.text.now) c.args.style)
          c.index_mut-cell-in-loop-column.result.now c.fill.new.self i.written (search rules) i.begun (omega arith) (omega arith) refl refl
          (c.fill.ensures ∙ ap₂ (λ (t : List ℕ) (cell : Cell). with_symbol t c.args.style (cell_view cell)) (grind (arith, nat_tests, i.past)) c.index_mut-cell-in-loop-column.ensures.value);
      past = λ whole. omega (arith, i.past whole);
      begun = omega (arith, i.begun);
      after = omega arith;
    }

pub returns-after-loop-column-clause-ok : goal.returns-after-loop-column-clause-ok
returns-after-loop-column-clause-ok c =
    let i = c.loop-column.invariant in
    Changes-clipped c.args.self.now _ c.args.y c.args.x c.args.end c.max-start.result c.min-end.result c.loop-column.column
    (λ u. with_symbol (wide_symbol c.args.is_whole (eqb u c.args.x) c.args.text.now) c.args.style) i.written (omega arith) (omega arith) i.begun (omega arith) (omega (arith, i.after))

pub returns-else-start-end-clause-ok : goal.returns-else-start-end-clause-ok
returns-else-start-end-clause-ok c =
    Changes-apart c.args.self.now c.args.y c.args.x c.args.end c.max-start.result c.min-end.result
    (λ u. with_symbol (wide_symbol c.args.is_whole (eqb u c.args.x) c.args.text.now) c.args.style) (omega arith) (omega arith)
    (λ some. elim c.else-start-end.branch [
      | else-start-end-via-then-start-end+else-contains w ↦ sym w.contains.ensures ∙ w.if-contains.false
      | else-start-end-via-else-start-end w ↦ absurd (omega (arith, some, w.if-start-end.false))
    ])
