use Rattle.std.proofs.Common.{◌∙◌}
use Rattle.textarea_text.proofs.Copies.{lines_copied}
use Rattle.textarea_lines.proofs.HeldOnce.{numbered_is}
use Rattle.textarea_lines.proofs.text_layout.TextLayout.numbered.Goals as goal

pub returns : goal.returns
returns c =
    let inside = c.self.inside in
    let copies = c.in_ok-lines.lines in
    c.set_origins.ensures
    ∙ numbered_is inside.settings inside.lines.items copies.items inside.count c.new.result c.len.result inside.map.rows c.args.self.now c.in_ok-copy.copy c.in_ok-origins.origins.items
    c.self.invariant.contents.stored.some c.self.view_is (lines_copied inside.lines.items copies.items c.in_ok-lines.ensures.cases.0) c.new.ensures c.in_ok-copy.ensures (c.len.ensures ∙ copies.ok.0) c.in_ok-origins.ensures
