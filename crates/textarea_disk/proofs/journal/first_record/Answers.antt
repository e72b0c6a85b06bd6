use Rattle.std.proofs.Common.{rules, ◌∙◌, ℕ, List, take, get_or, ap}
use Rattle.std.proofs.lemmas.List.{take_rest}
use Rattle.textarea_disk.proofs.Journals.{no_end, no_hash}
use Rattle.textarea_disk.proofs.journal.first_record.Goals as goal
use Rattle.textarea_disk.proofs.journal.first_record.Goals.{then-body-end-ne1-via-then-body-end-ne1, then-body-end-ne1-via-else-body-end-ne1+then-hash_with-hash}
use Rattle.textarea_disk.specs.Journal.{hash_of}

pub returns-then-body-end-ne1 : goal.returns-then-body-end-ne1
returns-then-body-end-ne1 c =
    let size = c.number_in-length.result in
    elim c.then-body-end-ne1.branch [
      | then-body-end-ne1-via-then-body-end-ne1 w ↦
          no_end c.args.bytes.now size (search rules) c.number_in-length.ensures
          (λ one. w.if-body-end-ne1.true (ap (λ (body : List ℕ). get_or body size 0) (take_rest c.args.bytes.now 16) ∙ one))
      | then-body-end-ne1-via-else-body-end-ne1+then-hash_with-hash w ↦
          no_hash c.args.bytes.now size c.number_in-hash.result (search rules) (search rules) c.number_in-length.ensures
          (c.number_in-hash.ensures ∙ ap (take 8) (take_rest c.args.bytes.now 8))
          (λ same. w.if-hash_with-hash.true (w.hash_with.ensures ∙ ap (λ (body : List ℕ). hash_of (take size body)) (take_rest c.args.bytes.now 16) ∙ same))
    ]
