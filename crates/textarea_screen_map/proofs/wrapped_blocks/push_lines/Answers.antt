use Rattle.std.proofs.lemmas.Grind.{common_steps}
use Rattle.std.proofs.Common.{◌≡◌, ◌+◌, ◌-◌, ◌++◌, ◌∙◌, List, ap, arith, drop, length, subst, sym, take, ℕ}
use Rattle.std.proofs.lemmas.List.{append_assoc, length-drop, length-take-le, map-append}
use Rattle.std.proofs.Math.Seq.{take-add}
use Rattle.textarea_text.specs.Text.{characters_of, lines_of}
use Rattle.textarea_wrap.specs.RowsView.{RowsView}
use Rattle.textarea_blocks.specs.Blocks.{all_rows}
use Rattle.textarea_screen_map.specs.LineRows.{AreRowsOf, ticks_after, ticks_of}
use Rattle.textarea_blocks.proofs.InBlocks.{block_pushed}
use Rattle.textarea_screen_map.proofs.Layouts.{AreRowsOf-append, ticks_append}
use Rattle.textarea_screen_map.proofs.wrapped_blocks.push_lines.Goals as goal

ticks_further :
    (ticks before more : List ℕ) (start count done size all : ℕ) → before ≡ ticks ++ ticks_after start done → count ≡ start + done
    → more ≡ ticks_after count size → done + size ≡ all → before ++ more ≡ ticks ++ ticks_after start all
ticks_further ticks before more start count done size all first at next sum =
    grind (arith, common_steps, append_assoc ticks (ticks_after start done) more, ticks_append start done size)

pub wraps-preserved : goal.wraps-preserved
wraps-preserved c =
    let items = c.args.lines.now in
    let from = c.wraps.from in
    let to = c.min-to.result in
    let segment = take (to - from) (drop from items) in
    let old = all_rows c.wraps.blocks.blocks in
    let rows = c.in_ok-rows.rows.items in
    let size : from + (to - from) ≡ to = omega (arith, c.min-to.ensures, c.wraps-test.true) in
    let lines : take from items ++ segment ≡ take to items = sym (take-add from (to - from) items) ∙ ap (λ n. take n items) size in
    let count : from + length segment ≡ to = omega (arith, size, c.min-to.ensures, length-take-le (to - from) (drop from items) (omega (arith, length-drop from items, c.min-to.ensures)), length-drop from items) in
    let now : all_rows c.push.new.self.blocks ≡ old ++ rows = ap all_rows c.in_ok-push.ensures ∙ block_pushed c.wraps.blocks.blocks rows in (
      omega (arith, c.min-to.ensures),
      omega (arith, c.in_ok-rows.ensures.counted, c.wraps.invariant.1, count),
      λ before h.
          subst (λ (t : List RowsView). AreRowsOf c.args.wrapping (before ++ lines_of (take to items)) t) (sym now)
          (subst (λ (t : List (List ℕ)). AreRowsOf c.args.wrapping t (old ++ rows))
          (append_assoc before (lines_of (take from items)) (lines_of segment) ∙ ap (λ t. before ++ t) (sym (map-append characters_of (take from items) segment) ∙ ap lines_of lines))
          (AreRowsOf-append c.args.wrapping (before ++ lines_of (take from items)) (lines_of segment) old rows (c.wraps.invariant.2 before h) c.in_ok-rows.ensures.rows)),
      ap ticks_of now ∙ map-append (λ (r : RowsView). r.tick) old rows
          ∙ ticks_further (ticks_of (all_rows c.args.blocks.now.blocks)) (ticks_of old) (ticks_of rows) c.args.count.now c.wraps.count from (length segment) to c.wraps.invariant.3 c.wraps.invariant.1 c.in_ok-rows.ensures.ticks count,
    )
