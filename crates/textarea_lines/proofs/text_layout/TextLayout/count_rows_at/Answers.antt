use Rattle.std.proofs.lemmas.Grind.{common_steps}
use Rattle.std.proofs.Common.{arith, refl}
use Rattle.textarea_lines.proofs.Stores.{lines_stored}
use Rattle.textarea_lines.proofs.Widths.{next_wrap}
use Rattle.textarea_lines.proofs.text_layout.TextLayout.count_rows_at.Goals as goal

pub invariant_of-self-in-Ok : goal.invariant_of-self-in-Ok
invariant_of-self-in-Ok c =
    let inside = c.self.inside in
    record {
      contents = c.self.invariant.contents;
      measured = c.self.invariant.measured;
      cached = next_wrap inside.settings inside.lines.items inside.count inside.map.rows _ c.args.wrapping c.in-Ok.wraps c.self.invariant.contents.stored.some refl c.in-Ok.ensures;
      place = c.self.invariant.place;
      marked = c.self.invariant.marked;
    }

pub returns-in-Err-clause-rows : goal.returns-in-Err-clause-rows
returns-in-Err-clause-rows c = grind (arith, common_steps, lines_stored)
