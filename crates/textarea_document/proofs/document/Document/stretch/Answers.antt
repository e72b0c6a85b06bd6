use Rattle.std.proofs.Common.{◌≤◌, List, ℕ, subst, sym}
use Rattle.textarea_document.specs.Prelude.{IsPlace, IsPlaceOf, Place, index_of}
use Rattle.textarea_document.proofs.Replacing.{ends_are_places, ends_in_order}
use Rattle.textarea_document.proofs.document.Document.stretch.Goals as goal

one_is : (c : goal.After-in_order) → IsPlace c.args.self.now.text c.clip-one.result
one_is c = subst (λ (r : List (List ℕ)). IsPlaceOf r c.clip-one.result) c.lines-lines.ensures.lines c.clip-one.ensures.is_place

other_is : (c : goal.After-in_order) → IsPlace c.args.self.now.text c.clip-other.result
other_is c = subst (λ (r : List (List ℕ)). IsPlaceOf r c.clip-other.result) c.lines-lines.ensures.lines c.clip-other.ensures.is_place

pub returns-clause-start_place : goal.returns-clause-start_place
returns-clause-start_place c =
    subst (λ (p : Place × Place). IsPlace c.args.self.now.text p.0) (sym c.in_order.ensures)
    (ends_are_places c.args.self.now.text c.clip-one.result c.clip-other.result (one_is c) (other_is c)).0

pub returns-clause-end_place : goal.returns-clause-end_place
returns-clause-end_place c =
    subst (λ (p : Place × Place). IsPlace c.args.self.now.text p.1) (sym c.in_order.ensures)
    (ends_are_places c.args.self.now.text c.clip-one.result c.clip-other.result (one_is c) (other_is c)).1

pub returns-clause-ordered : goal.returns-clause-ordered
returns-clause-ordered c =
    subst (λ (p : Place × Place). index_of c.args.self.now.text p.0 ≤ index_of c.args.self.now.text p.1) (sym c.in_order.ensures)
    (ends_in_order c.args.self.now.text c.clip-one.result c.clip-other.result (one_is c) (other_is c))
