use Rattle.std.proofs.Common.{ap, ◌∙◌, ◌++◌, ◌∷◌, [], arith}
use Rattle.textarea_terminal.proofs.PenLemmas.{pen-bytes-one, pen-bytes-two}
use Rattle.textarea_terminal.proofs.output.controls.write_pen.Goals.{then-count-in_foreground+in_ok-write_background, else-count-in_foreground+in_ok-begin_background}
use Rattle.textarea_terminal.proofs.output.controls.write_pen.Goals as goal

pub returns : goal.returns
returns c = elim c.if-count-in_foreground.branch [
  | then-count-in_foreground+in_ok-write_background w ↦
      pen-bytes-one c.args.look _ _ _ _ _ _ _ _ _ c.in_ok-extend_from_slice.ensures.items c.in_ok-count.ensures.wrote c.in_ok-write_foreground.ensures
      w.in_ok-write_background.ensures (c.in_ok-push.ensures.items ∙ ap (λ bytes. bytes.items ++ 109 ∷ []) w.bytes-is)
      c.in_ok-count.ensures.count c.parameters-in_foreground.ensures.fg c.parameters-in_background.ensures.bg (omega arith)
  | else-count-in_foreground+in_ok-begin_background w ↦
      pen-bytes-two c.args.look _ _ _ _ _ _ _ _ _ c.in_ok-extend_from_slice.ensures.items c.in_ok-count.ensures.wrote c.in_ok-write_foreground.ensures
      w.in_ok-begin_background.ensures (c.in_ok-push.ensures.items ∙ ap (λ bytes. bytes.items ++ 109 ∷ []) w.bytes-is)
      c.in_ok-count.ensures.count c.parameters-in_foreground.ensures.fg c.parameters-in_background.ensures.bg (omega arith)
]
