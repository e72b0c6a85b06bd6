use Rattle.textarea_highlight.proofs.PartLemmas.{part_between-is, shows_between}
use Rattle.textarea_highlight.proofs.highlight.highlighter.LineHighlighter.show_between_in.Goals as goal

pub show_part_in-requires : goal.show_part_in-requires
show_part_in-requires c =
    part_between-is c.args.self.now c.args.left c.args.right c.part_between-part.result c.part_between-part.ensures.text c.part_between-part.ensures.part

pub returns-clause-displayed : goal.returns-clause-displayed
returns-clause-displayed c =
    let part = c.part_between-part in
    shows_between c.args.self.now c.args.left c.args.right part.result _ part.ensures.text part.ensures.placed part.ensures.part c.in_ok-show_part_in.ensures.displayed
