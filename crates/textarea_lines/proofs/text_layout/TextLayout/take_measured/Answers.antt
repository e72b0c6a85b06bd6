use Rattle.std.proofs.Common.{Some, rules}
use Rattle.textarea_lines.proofs.Widths.{whole_measured}
use Rattle.textarea_lines.proofs.text_layout.TextLayout.take_measured.Goals as goal

pub returns-clause-cached : goal.returns-clause-cached
returns-clause-cached c =
    let inside = c.self.inside in
    whole_measured inside.settings inside.lines.items inside.count inside.map.rows c.args.self.now c.args.wrapping inside.cached
    (Some c.in_ok-wraps.wraps) c.self.invariant.contents.stored.some c.self.view_is c.self.invariant.cached (search rules) (search rules)
