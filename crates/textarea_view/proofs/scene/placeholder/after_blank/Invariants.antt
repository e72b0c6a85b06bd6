use Rattle.std.proofs.Common.{◌≡◌, ◌∷◌, map, take}
use Rattle.textarea_view.specs.Prelude.{span_view, blank, borrowed_span}
use Rattle.textarea_view.proofs.scene.placeholder.after_blank.Given as goal

abbrev pub invariant-loop-span : goal.invariant-loop-span
invariant-loop-span l = map span_view l.spans.items ≡ blank l.fn.style ∷ map borrowed_span (map span_view (take l.span-index l.line.spans.items))
