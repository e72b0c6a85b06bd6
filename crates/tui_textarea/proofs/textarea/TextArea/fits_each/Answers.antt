use Rattle.std.proofs.Common.{◌≡◌, ◌∙◌, ◌-◌, ◌/◌, ap, length, sym}
use Rattle.std.specs.Prelude.{max, nat_le}
use Rattle.textarea_text.specs.Text.{text_of}
use Rattle.tui_textarea.specs.Fitting.{removed_by}
use Rattle.tui_textarea.specs.State.{State}
use Rattle.tui_textarea.proofs.Fitting.{fits_each_is}
use Rattle.tui_textarea.proofs.textarea.TextArea.fits_each.Goals as goal

pub returns : goal.returns
returns c =
    let state = c.args.self.now in
    let stretches = c.args.stretches.now in
    let symbols = text_of c.args.fragment_lines.now in
    let removed = removed_by stretches in
    let room : c.max-room.result ≡ max (c.in-Some.maximum - (length state.document.text - removed)) removed =
    cc (c.max-room.ensures, c.saturating_sub.ensures, c.saturating_sub-others.ensures, c.symbol_count.ensures, c.removed_by-removed.ensures) in
    c.has_at_most.ensures ∙ ap (λ r. nat_le (length symbols) (r / length stretches)) room
    ∙ fits_each_is state stretches symbols c.in-Some.maximum c.requires.some (sym (ap (λ (s : State). s.settings.max_chars) c.self.view_is) ∙ c.in-Some.is)
