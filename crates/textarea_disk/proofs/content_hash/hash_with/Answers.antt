use Rattle.std.proofs.Common.{◌≡◌, ◌+◌, ◌*◌, ◌^◌, ◌%◌, ◌<◌, ◌∙◌, ℕ, suc, List, length, drop, get_or, sym, ap, add-one, drop-cons}
use Rattle.std.proofs.lemmas.List.{drop_all}
use Rattle.std.specs.Prelude.{bit_xor}
use Rattle.textarea_disk.specs.ContentHash.{hash_from}
use Rattle.textarea_disk.proofs.content_hash.hash_with.Goals as goal

-- the hash of what is left, by its first byte
hashed_byte : (hash : ℕ) (bytes : List ℕ) (i byte : ℕ) → i < length bytes → byte ≡ get_or bytes i 0 → hash_from ((bit_xor hash byte * 1099511628211) % 2 ^ 64) (drop (i + 1) bytes) ≡ hash_from hash (drop i bytes)
hashed_byte hash bytes i byte h e =
    ap (λ (k : ℕ). hash_from ((bit_xor hash byte * 1099511628211) % 2 ^ 64) (drop k bytes)) (add-one i)
    ∙ ap (λ (b : ℕ). hash_from ((bit_xor hash b * 1099511628211) % 2 ^ 64) (drop (suc i) bytes)) e
    ∙ sym (ap (hash_from hash) (drop-cons bytes i 0 h))

pub loop-byte-preserved : goal.loop-byte-preserved
loop-byte-preserved c =
    hashed_byte c.loop-byte.hash c.args.bytes.now c.loop-byte.byte-index c.from.result c.loop-byte-test.true c.from.ensures ∙ c.loop-byte.invariant

pub returns : goal.returns
returns c =
    sym (ap (hash_from c.loop-byte.hash) (drop_all c.loop-byte.byte-index c.args.bytes.now c.loop-byte-test.false)) ∙ c.loop-byte.invariant
