use Rattle.std.proofs.Common.{◌≡◌, true, subst}
use Rattle.textarea_document.specs.Selection.{is_selected}
use Rattle.tui_textarea.specs.Guards.{is_editable}
use Rattle.tui_textarea.specs.TextAreaLaw.{PastesCopy}
use Rattle.tui_textarea.specs.State.{State}
use Rattle.tui_textarea.proofs.Copying.{ends_known, pastes_copy}
use Rattle.tui_textarea.proofs.textarea.laws.copy_then_paste.Goals as goal

pub returns : goal.returns
returns c = subst (λ (s : State). is_editable s ≡ true → is_selected s.document ≡ true → PastesCopy s) c.area.view_is
    (λ editable e.
    let found = c.filled_selection.ensures in
    let known = ends_known c.area.inside.document c.filled_selection.result e found.found found.ends found.places found.ordered in
    pastes_copy _ editable e known.0 known.1)
