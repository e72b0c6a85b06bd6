use Rattle.std.proofs.Common.{◌≡◌, drop}
use Rattle.textarea_disk.specs.ContentHash.{hash_from}
use Rattle.textarea_disk.proofs.content_hash.hash_with.Given as goal

-- the hash so far and the rest give the hash of all
abbrev pub invariant-loop-byte : goal.invariant-loop-byte
invariant-loop-byte l = hash_from l.hash (drop l.byte-index l.bytes) ≡ hash_from l.fn.hash l.fn.bytes
