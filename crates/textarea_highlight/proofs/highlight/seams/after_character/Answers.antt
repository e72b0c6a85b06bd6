use Rattle.std.proofs.Common.{Bool, true, ◌&&◌, ap, arith, ◌∙◌, List, ℕ, get_or, subst, sym}
use Rattle.std.specs.List.{list_all}
use Rattle.std.proofs.lemmas.Str.{len_utf8_bounds}
use Rattle.textarea_wrap.specs.Columns.{IsVisible}
use Rattle.textarea_highlight.specs.Plain.{is_plain}
use Rattle.textarea_highlight.specs.Seams.{BeginsWith}
use Rattle.textarea_highlight.proofs.SeamLemmas.{plain_between, segment_of_first, visible_between}
use Rattle.textarea_highlight.proofs.highlight.seams.after_character.Goals as goal

pub returns-then-is_visible-clause-plain : goal.returns-then-is_visible-clause-plain
returns-then-is_visible-clause-plain c = λ _.
    visible_between c.args.row.now c.args.tab_len c.args.at c.after_visible.result c.utf8.row c.requires.known c.after_visible.ensures.known c.after_visible.ensures.offset c.requires.inside
    (subst (λ (bytes : List ℕ). IsVisible (get_or bytes c.args.at.offset 0)) c.as_bytes.ensures.value (c.if-is_visible.ensures.0 cc))

pub returns-clause-plain : goal.returns-clause-plain
returns-clause-plain c = λ plain.
    let at = c.args.at in
    let end = c.after_other-next.result.offset in
    plain_between c.args.row.now c.args.tab_len at c.after_other-next.result c.utf8.row c.requires.known c.after_other-next.ensures.known (omega (arith, c.after_other-next.ensures.next, len_utf8_bounds c.first_character-c.result))
    (ap (list_all is_plain) (segment_of_first c.args.row.now at.offset end c.first_character-c.result c.utf8.row c.requires.known.boundary
    (subst (λ (text : List ℕ). BeginsWith text c.first_character-c.result) c.range_from.ensures.value c.first_character-c.ensures) c.after_other-next.ensures.next)
    ∙ ap (λ (b : Bool). b && true) (sym c.is_plain.ensures ∙ plain))
