use Rattle.std.proofs.Common.{◌≡◌, ◌++◌, ◌∙◌, List, ℕ, [], ◌∷◌, map, Bor, ap, subst, sym}
use Rattle.std.proofs.lemmas.List.{map-append}
use Rattle.textarea_disk.proofs.Journals.{IsReadUpTo, read_all, read_more}
use Rattle.textarea_disk.proofs.journal.records_in.Goals as goal

abbrev bytes_of : List (Bor (List ℕ)) → List (List ℕ)
bytes_of payloads = map (λ (payload : Bor (List ℕ)). payload.now) payloads

pub loop-payload-preserved : goal.loop-payload-preserved
loop-payload-preserved c =
    let pushed : bytes_of c.push.new.self.items ≡ bytes_of c.loop-payload.payloads.items ++ c.in-Some.payload.now ∷ [] =
    ap bytes_of c.in_ok-push.ensures.items ∙ map-append (λ (payload : Bor (List ℕ)). payload.now) c.loop-payload.payloads.items (c.in-Some.payload ∷ []) in
    subst (λ (payloads : List (List ℕ)). IsReadUpTo payloads c.in-Some.after.now c.args.journal.now) (sym pushed)
    (read_more (bytes_of c.loop-payload.payloads.items) c.in-Some.payload.now c.in-Some.after.now c.loop-payload.rest.now c.args.journal.now c.in-Some.ensures c.loop-payload.invariant)

pub returns : goal.returns
returns c =
    read_all (bytes_of c.loop-payload.payloads.items) c.loop-payload.rest.now c.args.journal.now c.in_default.ensures c.loop-payload.invariant
