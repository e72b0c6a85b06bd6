use Rattle.std.proofs.Common.{◌≡◌, drop, map}
use Rattle.textarea_disk.specs.Recovery.{text_after}
use Rattle.textarea_disk.specs.TextChange.{with_change}
use Rattle.textarea_disk.proofs.text_change.after_changes.Given as goal

-- the text so far and the changes that are left give the text after all
abbrev pub invariant-loop-payload : goal.invariant-loop-payload
invariant-loop-payload l =
    text_after with_change l.text.items (map (λ payload. payload.now) (drop l.payload-index l.changes)) ≡ text_after with_change l.fn.bytes (map (λ payload. payload.now) l.fn.changes)
