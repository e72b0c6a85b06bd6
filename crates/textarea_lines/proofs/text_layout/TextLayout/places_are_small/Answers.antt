use Rattle.std.proofs.Common.{sym, subst}
use Rattle.textarea_text.specs.Place.{IsPlace}
use Rattle.textarea_lines.specs.TextLayout.{TextAndLayout}
use Rattle.textarea_lines.proofs.Stores.{small_place}
use Rattle.textarea_lines.proofs.text_layout.TextLayout.places_are_small.Goals as goal

pub returns : goal.returns
returns c = λ place h.
    small_place c.self.inside.lines.items c.self.inside.size place c.self.invariant.contents.stored (subst (λ (s : TextAndLayout). IsPlace s.text place) (sym c.self.view_is) h)
