use Rattle.std.proofs.Common.{◌≡◌, ◌+◌, ◌-◌, ◌≤◌, ◌^◌, drop, length, map, min}
use Rattle.textarea_disk.specs.Journal.{journal_of}
use Rattle.textarea_disk.proofs.text_change.size_of_records.Given as goal

-- the size so far and that of the records that are left give the size after all
abbrev pub invariant-loop-payload : goal.invariant-loop-payload
invariant-loop-payload l =
    (l.size ≤ 2 ^ 64 - 1)
    × (min (l.size + length (journal_of (map (λ payload. payload.now) (drop l.payload-index l.payloads)))) (2 ^ 64 - 1)
    ≡ min (length (journal_of (map (λ payload. payload.now) l.fn.payloads))) (2 ^ 64 - 1))
