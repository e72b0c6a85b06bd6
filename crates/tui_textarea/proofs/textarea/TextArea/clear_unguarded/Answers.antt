use Rattle.std.proofs.Common.{◌≡◌, true, ap, length, sym, ◌∙◌}
use Rattle.std.proofs.lemmas.Bool.{cond-true}
use Rattle.textarea_document.specs.Edits.{has_symbols}
use Rattle.textarea_text.specs.Place.{Place, place_of}
use Rattle.textarea_text.specs.Text.{text_of}
use Rattle.tui_textarea.specs.Removals.{yanked}
use Rattle.tui_textarea.specs.State.{State}
use Rattle.tui_textarea.proofs.Filled.{filled_unless}
use Rattle.tui_textarea.proofs.textarea.TextArea.clear_unguarded.Goals as goal

pub returns-clause-removed : goal.returns-clause-removed
returns-clause-removed c =
    sym (filled_unless c.is_empty.result c.self.inside.document.text c.is_empty.ensures c.if-is_empty.false)
    ∙ ap (λ (s : State). has_symbols s.document.text) c.self.view_is

pub returns-clause-ok : goal.returns-clause-ok
returns-clause-ok c =
    let now = c.args.self.now in
    let filled : has_symbols now.document.text ≡ true =
    sym (ap (λ (s : State). has_symbols s.document.text) c.self.view_is)
    ∙ filled_unless c.is_empty.result c.self.inside.document.text c.is_empty.ensures c.if-is_empty.false in
    let text : text_of c.lines.result.now ≡ now.document.text = c.lines.ensures.value ∙ ap (λ (s : State). s.document.text) c.self.view_is in
    c.in_ok-remove_and_yank.ensures.ok
    ∙ ap (λ (p : Place). yanked now (0, 0) p) (c.text_end-end.ensures.value ∙ ap (λ t. place_of t (length t)) text)
    ∙ sym (cond-true (has_symbols now.document.text) _ _ filled)
