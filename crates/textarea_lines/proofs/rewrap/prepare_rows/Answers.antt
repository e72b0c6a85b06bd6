use Rattle.std.proofs.lemmas.Grind.{common_steps}
use Rattle.std.proofs.Common.{◌≡◌, ◌-◌, ◌+◌, ◌∙◌, ap, sym, arith, length}
use Rattle.std.proofs.lemmas.List.{length-map}
use Rattle.textarea_text.specs.Text.{characters_of, lines_of}
use Rattle.textarea_screen_map.proofs.Layouts.{length-AreRowsOf}
use Rattle.textarea_lines.specs.Wrappings.{is_same_wrapping, wrapping_for}
use Rattle.textarea_lines.specs.TextLayout.{count_after}
use Rattle.textarea_lines.proofs.Preparing.{all_ready, some_ready}
use Rattle.textarea_lines.proofs.SameWraps.{AreRowsOf-same}
use Rattle.textarea_lines.proofs.rewrap.prepare_rows.Goals as goal
use Rattle.textarea_lines.proofs.rewrap.prepare_rows.Goals.{After-is_same}

long : (c : After-is_same) → length c.args.map.now.rows ≡ length c.args.lines.now
long c = length-AreRowsOf c.args.map.now.wrapping (lines_of c.args.lines.now) c.args.map.now.rows c.requires.rows ∙ length-map c.args.lines.now characters_of

after : (c : After-is_same) → c.wrapping_for-after.result ≡ wrapping_for c.args.settings (count_after (length c.args.lines.now) c.args.replacement.now)
after c = c.wrapping_for-after.ensures ∙ ap (λ n. wrapping_for c.args.settings (length c.args.lines.now - c.args.replacement.now.count + n)) c.as_slice-new.ensures.len

test : (c : After-is_same) → is_same_wrapping c.wrapping_for-after.result c.args.map.now.wrapping ≡ c.is_same.result
test c = ap (is_same_wrapping c.wrapping_for-after.result) (sym c.wrapping-before.ensures) ∙ sym c.is_same.ensures

pub prepare_lines-requires-clause-rows : goal.prepare_lines-requires-clause-rows
prepare_lines-requires-clause-rows c =
    AreRowsOf-same c.wrapping_for-after.result c.args.map.now.wrapping (lines_of c.args.lines.now) c.args.map.now.rows (test (goal.at.prepare_lines-requires-clause-rows c).After-is_same ∙ c.if-is_same.true) c.requires.rows

pub make_room-requires : goal.make_room-requires
make_room-requires c = omega (arith, long (goal.at.make_room-requires c).After-is_same)

pub returns-then-is_same-clause-ready : goal.returns-then-is_same-clause-ready
returns-then-is_same-clause-ready c = grind (arith, common_steps, some_ready, after, test)

pub returns-clause-ready : goal.returns-clause-ready
returns-clause-ready c = grind (arith, common_steps, all_ready, after, test)
