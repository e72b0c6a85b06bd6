use Rattle.std.proofs.Common.{◌<◌, ◌∙◌, ℕ, ap, append-nil, subst, sym}
use Rattle.std.proofs.lemmas.List.{length-map}
use Rattle.textarea_editor.proofs.editor.parts.file_draft.Goals as goal
use Rattle.textarea_text.proofs.Splices.{lines-joined}
use Rattle.textarea_text.specs.Text.{characters_of, lines, lines_of}
use Rattle.tui_textarea.specs.State.{State}

pub returns-clause-written : goal.returns-clause-written
returns-clause-written c =
    let items = c.in_ok-lines.lines.items in
    record {
      strings = items;
      of_text = sym (ap (λ (area : State). lines area.document.text) c.in_ok-opened.ensures.area ∙ lines-joined (lines_of items) (subst (λ (n : ℕ). 0 < n) (sym (length-map items characters_of)) c.in_ok-lines.ensures.some));
      joined = sym (append-nil _ ∙ c.in_ok-lines.ensures.joined ∙ c.as_str-content.ensures.value);
    }
