use Rattle.std.proofs.Common.{◌≡◌, drop}
use Rattle.std.specs.Arc.{arc_value}
use Rattle.textarea_document.specs.Prelude.{as_nanos, text_of}
use Rattle.textarea_document.specs.Replacing.{each_replaced}
use Rattle.textarea_document.proofs.document.Document.replace_each.Given as goal

abbrev pub invariant-loop-stretch : goal.invariant-loop-stretch
invariant-loop-stretch l =
    let symbols = text_of (arc_value l.fragment_lines).items in
    each_replaced l.self l.passed (drop l.stretch-index l.stretches) symbols (as_nanos l.now) ≡ each_replaced l.fn.self 0 l.stretches symbols (as_nanos l.now)
