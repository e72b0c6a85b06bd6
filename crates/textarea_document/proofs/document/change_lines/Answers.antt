use Rattle.std.proofs.Common.{◌≡◌, List, ap, arith, subst, sym}
use Rattle.textarea_document.specs.Prelude.{Symbol, IsPlace, TextAndLayout, applied, place_after}
use Rattle.textarea_text.proofs.TextPlaces.{takes_back}
use Rattle.textarea_document.proofs.document.change_lines.Goals as goal

pub returns-clause-small : goal.returns-clause-small
returns-clause-small c =
    let splice = c.args.change in
    let text = c.args.text_layout.now.text in
    let text_is : c.apply.new.self.text ≡ applied text splice = ap (λ (l : TextAndLayout). l.text) c.in_ok-apply.ensures.ok in
    let small = c.places_are_small.ensures (place_after splice) (subst (λ (t : List Symbol). IsPlace t (place_after splice)) (sym text_is) (takes_back text splice c.requires).is_place) in
    (omega (arith, small.0), small.1)
