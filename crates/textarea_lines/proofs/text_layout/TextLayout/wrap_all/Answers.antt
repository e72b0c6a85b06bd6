use Rattle.std.proofs.Common.{◌∙◌, ◌+◌, ap, length}
use Rattle.textarea_screen_map.specs.LineRows.{ticks_after}
use Rattle.textarea_lines.proofs.Widths.{whole_wrap}
use Rattle.textarea_lines.proofs.text_layout.TextLayout.wrap_all.Goals as goal

pub returns : goal.returns
returns c =
    let inside = c.self.inside in
    let borrowed_lines = c.as_slice.result.now in
    let made = c.in_ok-map.ensures in
    let count_is = c.in_ok-count.ensures.cases in
    whole_wrap inside.settings inside.lines.items borrowed_lines inside.count c.new.new.counter inside.map.rows c.in_ok-map.map c.args.self.now
    c.args.wrapping c.self.invariant.contents.stored.some c.self.view_is c.as_slice.ensures.value made.wrapping made.rows
    (made.ticks ∙ ap (λ n. ticks_after n (length borrowed_lines)) count_is) (made.counted ∙ ap (λ n. n + length borrowed_lines) count_is)
