use Rattle.std.proofs.Common.{◌≡◌, ◌∙◌, None, ap, sym, subst}
use Rattle.std.proofs.lemmas.Result.{on_ok_weaker}
use Rattle.std.specs.Arc.{arc_value}
use Rattle.textarea_document.specs.Prelude.{as_nanos, text_of, DocumentState, IsChangedFrom, after_move, lines_numbered, text_and_layout, wrapped_at_once}
use Rattle.textarea_document.specs.Replacing.{begun, begun_at_start, each_replaced, ended_after, replaced_in_turn}
use Rattle.textarea_document.proofs.AtOnce.{replaced_changed}
use Rattle.textarea_document.proofs.Replacing.{some_replaced}
use Rattle.textarea_document.proofs.document.Document.replace_all.Goals as goal
use Rattle.textarea_document.proofs.document.Document.replace_all.Goals.{After-end_group_of-ended}

-- the copy after the replacements
replaced : (c : After-end_group_of-ended) → c.end_group_of-ended.result ≡ replaced_in_turn (lines_numbered c.args.self.now) c.args.stretches.now (text_of (arc_value c.args.fragment_lines.now).items) (as_nanos c.args.now)
replaced c =
    let old = c.args.self.now in
    let stretches = c.args.stretches.now in
    let symbols = text_of (arc_value c.args.fragment_lines.now).items in
    let now = as_nanos c.args.now in
    let start : c.move_to.new.self ≡ begun_at_start (lines_numbered old) =
    c.move_to.ensures ∙ ap (λ (d : DocumentState). after_move d (0, 0) None) (c.begin_group.ensures ∙ ap begun c.in_ok-copy.ensures) in
    c.end_group_of-ended.ensures ∙ ap (ended_after old) (c.in_ok-replace_each.ensures ∙ ap (λ (d : DocumentState). each_replaced d 0 stretches symbols now) start)

pub put_edited-requires : goal.put_edited-requires
put_edited-requires c =
    let old = c.args.self.now in
    subst (λ (d : DocumentState). IsChangedFrom (text_and_layout old) (text_and_layout d)) (sym (replaced (goal.at.put_edited-requires c).After-end_group_of-ended))
    (replaced_changed old c.args.stretches.now (text_of (arc_value c.args.fragment_lines.now).items) (as_nanos c.args.now) c.is_sound.ensures)

pub returns-clause-ok : goal.returns-clause-ok
returns-clause-ok c =
    let old = c.args.self.now in
    on_ok_weaker c.put_edited.result
    (λ is. is ∙ ap (wrapped_at_once old) (replaced (goal.at.returns-clause-ok c).After-end_group_of-ended)
    ∙ some_replaced old c.args.stretches.now (text_of (arc_value c.args.fragment_lines.now).items) (as_nanos c.args.now) (sym c.is_empty.ensures ∙ c.if-is_empty.false))
    c.put_edited.ensures.ok
