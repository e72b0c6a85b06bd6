use Rattle.std.proofs.Common.{◌≡◌, ◌∙◌, ap, subst, sym}
use Rattle.std.proofs.lemmas.Option.{IfSome_then}
use Rattle.textarea_document.specs.Prelude.{IfSome, Place, lines, range_at_place, AreValid}
use Rattle.textarea_document.proofs.Ranges.{IsStoredRange, range_starts_before, range_ends_after, range_is_stored}
use Rattle.textarea_document.proofs.document.Document.range_at_cursor.Goals as goal

known : (c : goal.After-range_at_place) → IfSome c.range_at_place.result (IsStoredRange c.args.self.now.text)
known c =
    subst (λ o. IfSome o (IsStoredRange c.args.self.now.text)) (sym c.range_at_place.ensures) (range_is_stored c.args.self.now.text c.ranges-stored.result.now c.cursor.result c.args.direction c.ranges-stored.ensures.valid)

pub returns-clause-start : goal.returns-clause-start
returns-clause-start c = IfSome_then c.range_at_place.result (known c) (λ range h. h.start_is)

pub returns-clause-end : goal.returns-clause-end
returns-clause-end c = IfSome_then c.range_at_place.result (known c) (λ range h. h.end_is)

pub returns-clause-ordered : goal.returns-clause-ordered
returns-clause-ordered c = IfSome_then c.range_at_place.result (known c) (λ range h. h.ordered)

range_is : (c : goal.After-range_at_place) → c.range_at_place.result ≡ range_at_place c.args.self.now.ranges c.args.self.now.cursor c.args.direction
range_is c = c.range_at_place.ensures ∙ ap (λ r. range_at_place r c.cursor.result c.args.direction) c.ranges-stored.ensures.value ∙ ap (λ (p : Place). range_at_place c.args.self.now.ranges p c.args.direction) c.cursor.ensures.value

pub returns-clause-before : goal.returns-clause-before
returns-clause-before c = λ backward.
    range_starts_before c.args.self.now.text c.args.self.now.ranges c.args.self.now.cursor c.range_at_place.result (sym (range_is c ∙ ap (range_at_place c.args.self.now.ranges c.args.self.now.cursor) backward))

pub returns-clause-after : goal.returns-clause-after
returns-clause-after c = λ forward.
    range_ends_after c.args.self.now.text c.args.self.now.ranges c.args.self.now.cursor c.range_at_place.result
    (subst (AreValid (lines c.args.self.now.text)) c.ranges-stored.ensures.value c.ranges-stored.ensures.valid) (sym (range_is c ∙ ap (range_at_place c.args.self.now.ranges c.args.self.now.cursor) forward))
