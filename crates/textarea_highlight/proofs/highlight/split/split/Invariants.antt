use Rattle.std.proofs.Common.{map}
use Rattle.textarea_screen.specs.Text.{span_view}
use Rattle.textarea_highlight.proofs.SplitLemmas.{IsSplitSoFar}
use Rattle.textarea_highlight.proofs.highlight.split.split.Given as goal

abbrev pub invariant-loop-border : goal.invariant-loop-border
invariant-loop-border l =
    IsSplitSoFar l.row l.borders l.fn.base l.fn.display.tab_len l.fn.display.mask (map span_view l.fn.spans.items)
    l.fn.from l.border-index l.start l.display l.styles (map span_view l.spans.items)
