use Rattle.std.proofs.Common.{rules, ◌≡◌, ◌++◌, ◌∙◌, List, ℕ, ap}
use Rattle.textarea_disk.proofs.JournalWrites.{first_records}
use Rattle.textarea_disk.proofs.TextChanges.{ok_so}
use Rattle.textarea_disk.proofs.journal_write.Journal.records.Goals as goal
use Rattle.textarea_disk.specs.Journal.{framed}
use Rattle.textarea_disk.specs.Recovery.{header_of}
use Rattle.textarea_disk.specs.TextChange.{with_change}

pub returns : goal.returns
returns c =
    let text = c.args.self.now.text.items in
    let payload = c.in_ok-payload.payload.items in
    let leads : with_change text payload ≡ c.args.text.now = search rules in
    let last : c.in_ok-last.last.items ≡ framed payload = search rules in
    ok_so c.with_header.result
    (λ made is.
    first_records c.args.self.now.is_begun text c.args.text.now payload made.items c.if-self.false (search rules) leads
    (is ∙ ap (λ (b : List ℕ). framed (header_of b) ++ c.as_slice-record.result.now) c.as_slice-old.ensures.value ∙ ap (λ (b : List ℕ). framed (header_of text) ++ b) (c.as_slice-record.ensures.value ∙ last)))
    c.with_header.ensures
