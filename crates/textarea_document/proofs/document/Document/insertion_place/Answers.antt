use Rattle.std.proofs.Common.{All, subst, sym}
use Rattle.textarea_document.specs.Prelude.{lines, IsInside, IsPlace, DocumentState}
use Rattle.textarea_document.proofs.document.Document.insertion_place.Goals as goal

pub returns-clause-small : goal.returns-clause-small
returns-clause-small c =
    c.places_are_small.ensures c.move_out.result
    (subst (λ (s : DocumentState). IsPlace s.text c.move_out.result) (sym c.self.view_is) (c.move_out.ensures.place (lines c.args.self.now.text) c.ranges-stored.ensures.valid c.cursor.ensures.place))

pub returns-clause-outside : goal.returns-clause-outside
returns-clause-outside c =
    subst (All (λ range. ¬ IsInside c.move_out.result range)) c.ranges-stored.ensures.value (c.move_out.ensures.outside (lines c.args.self.now.text) c.ranges-stored.ensures.valid)
