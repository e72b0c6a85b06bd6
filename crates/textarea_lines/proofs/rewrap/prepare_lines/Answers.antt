use Rattle.std.proofs.Common.{◌≡◌, ◌∙◌, arith, length}
use Rattle.std.proofs.lemmas.List.{length-map}
use Rattle.textarea_text.specs.Text.{characters_of, lines_of}
use Rattle.textarea_screen_map.proofs.Holding.{wrapped_line}
use Rattle.textarea_screen_map.proofs.Layouts.{length-AreRowsOf}
use Rattle.textarea_lines.proofs.rewrap.prepare_lines.Goals as goal
use Rattle.textarea_lines.proofs.rewrap.prepare_lines.Goals.{After-as_slice-new}

long : (c : After-as_slice-new) → length c.args.map.now.rows ≡ length c.args.lines.now
long c = length-AreRowsOf c.args.wrapping (lines_of c.args.lines.now) c.args.map.now.rows c.requires.rows ∙ length-map c.args.lines.now characters_of

pub prepare-requires : goal.prepare-requires
prepare-requires c = omega (arith, c.requires.within, long (goal.at.prepare-requires c).After-as_slice-new)

pub prepare_changed-requires-clause-within : goal.prepare_changed-requires-clause-within
prepare_changed-requires-clause-within c = omega (arith, c.requires.within, c.if-replacement-ne1.false, long (goal.at.prepare_changed-requires-clause-within c).After-as_slice-new)

pub prepare_changed-requires-clause-wrapped : goal.prepare_changed-requires-clause-wrapped
prepare_changed-requires-clause-wrapped c =
    (wrapped_line c.args.wrapping c.args.lines.now c.args.map.now.rows c.args.replacement.now.row c.index-lines-row.result c.as_str.result.now c.requires.rows
    (omega (arith, c.requires.within, c.if-replacement-ne1.false)) c.index-lines-row.is c.as_str.ensures.value).0

pub prepare_changed-requires-clause-marked : goal.prepare_changed-requires-clause-marked
prepare_changed-requires-clause-marked c =
    (wrapped_line c.args.wrapping c.args.lines.now c.args.map.now.rows c.args.replacement.now.row c.index-lines-row.result c.as_str.result.now c.requires.rows
    (omega (arith, c.requires.within, c.if-replacement-ne1.false)) c.index-lines-row.is c.as_str.ensures.value).1
