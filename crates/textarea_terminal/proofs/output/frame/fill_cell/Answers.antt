use Rattle.std.proofs.Common.{◌*◌, sym, ◌∙◌, arith}
use Rattle.textarea_terminal.proofs.PaintFill.{fill-visible, fill-blank}
use Rattle.textarea_terminal.proofs.output.frame.fill_cell.Goals as goal

pub returns-in_ok-left : goal.returns-in_ok-left
returns-in_ok-left c =
    fill-visible c.args.colors c.args.area c.args.buffer.now c.args.spot.index c.args.halves (c.args.area.height * c.args.area.width) c.source_at-source.result.look c.shown_look-look.result
    c.source_at-source.result.symbol.now c.cluster_columns-columns.result c.in_ok-left.left _ c.requires.index (omega arith) c.source_at-source.ensures c.shown_look-look.ensures
    c.cluster_columns-columns.ensures.value c.in_ok-left.ensures.view c.in_ok-left.ensures.left (sym c.can_show.ensures ∙ c.if-can_show.true)

pub returns-in_ok-show_blank : goal.returns-in_ok-show_blank
returns-in_ok-show_blank c =
    fill-blank c.args.colors c.args.area c.args.buffer.now c.args.spot.index c.args.halves (c.args.area.height * c.args.area.width) c.source_at-source.result.look c.shown_look-look.result
    c.source_at-source.result.symbol.now c.cluster_columns-columns.result _ c.requires.index (omega arith) c.source_at-source.ensures c.shown_look-look.ensures
    c.cluster_columns-columns.ensures.value c.in_ok-show_blank.ensures (sym c.can_show.ensures ∙ c.if-can_show.false)
