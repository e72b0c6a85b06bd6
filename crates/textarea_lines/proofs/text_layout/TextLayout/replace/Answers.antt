use Rattle.std.proofs.Common.{arith, List, ap, length, ◌∙◌}
use Rattle.std.proofs.lemmas.Grind.{common_steps}
use Rattle.textarea_util.specs.Replaced.{replaced}
use Rattle.textarea_text.specs.Text.{lines_of}
use Rattle.textarea_lines.specs.TextLayout.{origins_of}
use Rattle.textarea_lines.proofs.Stores.{count_stored}
use Rattle.textarea_lines.proofs.Positions.{located_first}
use Rattle.textarea_lines.proofs.Changes.{Replacing, holds_replaced, layout_replaced, some_now}
use Rattle.textarea_lines.proofs.text_layout.TextLayout.replace.Goals as goal
use Rattle.textarea_lines.proofs.text_layout.TextLayout.replace.Goals.{After-replace}

steps : (c : After-replace) → Replacing c.self.inside.lines.items c.replace_in.new.lines.items c.args.replacement.lines.items c.args.replacement.row c.args.replacement.count
steps c = record {
  some = c.self.invariant.contents.stored.some;
  now_is = c.replace_in.ensures ∙ ap (λ (t : List _). replaced t c.args.replacement.row c.args.replacement.count c.args.replacement.lines.items) c.in_ok-prepared.ensures.same_lines;
  within = omega (arith, rw (← c.self.view_is) at c.requires.within, count_stored c.self.inside.lines.items c.self.invariant.contents.stored.some);
  new_some = omega (arith, c.requires.some, c.args.replacement.lines.ok.0);
}

pub prepare_rows_for-requires : goal.prepare_rows_for-requires
prepare_rows_for-requires c = record {
  rows = c.self.invariant.contents.text_layout;
  wrapping = c.self.invariant.contents.wrapping_is;
  within = omega (arith, rw (← c.self.view_is) at c.requires.within, count_stored c.self.inside.lines.items c.self.invariant.contents.stored.some);
  few = grind (arith, common_steps);
}

pub invariant_of-self-2 : goal.invariant_of-self-2
invariant_of-self-2 c =
    let known = steps (goal.at.invariant_of-self-2 c).After-replace in
    record {
      contents =
          holds_replaced _ _ _ _ _ _ _ _ _ known c.args.replacement.lines.ok.0 (c.replace.ensures.wrapping ∙ c.in_ok-prepared.ensures.ready.wrapping)
          (rw (c.replace.ensures.wrapping, c.replace.ensures.rows) c.in_ok-prepared.ensures.ready.rows) (rw (← c.self.view_is) at c.requires.size)
          c.requires.limit;
      measured = tt;
      cached = rw c.drop_measured.ensures tt;
      place = located_first c.replace_in.new.lines.items c.new-self-inside.result c.new-self-inside.ensures (some_now _ _ _ _ _ known);
      marked = c.clear.ensures.right (lines_of c.replace_in.new.lines.items);
    }

pub returns-clause-ok : goal.returns-clause-ok
returns-clause-ok c =
    rw (← c.self.view_is)
    (layout_replaced _ _ _ _ _ _ _ _ _ _ _ (steps (goal.at.returns-clause-ok c).After-replace) c.args.replacement.lines.ok.0 (rw (c.replace.ensures.rows, ← c.in_ok-prepared.ensures.same) (c.in_ok-prepared.ensures.ready.layout (origins_of c.self.inside.origins))))

pub replace_in-requires-clause-within : goal.replace_in-requires-clause-within
replace_in-requires-clause-within c =
    omega (arith, rw (← c.self.view_is) at c.requires.within, count_stored c.self.inside.lines.items c.self.invariant.contents.stored.some, c.prepare_rows_for.new.lines.ok.0, ap length c.in_ok-prepared.ensures.same_lines)
