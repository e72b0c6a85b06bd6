use Rattle.std.proofs.Common.{◌≡◌, ◌∙◌, ◌==◌, ◌||◌, ap, false, sym}
use Rattle.std.proofs.lemmas.Bool.{cond-false, ne_eqb}
use Rattle.std.proofs.lemmas.Result.{on_ok_weaker}
use Rattle.textarea_document.specs.Edits.{character_inserted}
use Rattle.tui_textarea.specs.Edits.{breaks_line, line_broken, typed_character_inserted}
use Rattle.tui_textarea.specs.State.{State}
use Rattle.tui_textarea.proofs.Lifted.{document_lifted}
use Rattle.tui_textarea.proofs.textarea.TextArea.insert_char_or_break.Goals as goal

pub returns-clause-ok : goal.returns-clause-ok
returns-clause-ok c =
    let now = c.args.self.now in
    let plain : breaks_line c.args.c ≡ false = ap (λ b. b || (c.args.c == 13)) (ne_eqb c.args.c 10 c.if-c-eq10.false) ∙ ne_eqb c.args.c 13 c.if-c-eq13.false in
    on_ok_weaker c.insert_character.result
    (λ e. e ∙ sym (cond-false (breaks_line c.args.c) (line_broken now) (typed_character_inserted now c.args.c) plain))
    (document_lifted c.insert_character.result (λ (s : State). character_inserted s.document c.args.c s.settings.undo_coalescing s.time) c.self.view_is
    c.insert_character.new.self c.insert_character.ensures.ok)
