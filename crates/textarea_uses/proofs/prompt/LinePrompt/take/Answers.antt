use Rattle.std.proofs.Common.{◌≡◌, None, arith, false, refl}
use Rattle.std.proofs.lemmas.Bool.Decides.{nat_tests}
use Rattle.tui_textarea.specs.Edits.{breaks_line}
use Rattle.tui_textarea.proofs.Ends.{on_err}
use Rattle.textarea_uses.proofs.prompt.LinePrompt.take.Goals as goal

pub returns-in_ok-insert_char-in-Char-clause-ok : goal.returns-in_ok-insert_char-in-Char-clause-ok
returns-in_ok-insert_char-in-Char-clause-ok c typed h =
    let breaks : breaks_line c.in-Char.character ≡ false = grind (arith, nat_tests, c.if-character-ne10.true, c.if-character-ne13.true) in
    rw (c.in-Char.is, breaks) (refl, c.typed_line_stays.ensures.typed c.args.self.now.area c.insert_char.new.self None typed c.in-Char.character h breaks c.in_ok-insert_char-in-Char.ensures.ok)

pub returns-in_ok-delete_char-in-Backspace-clause-ok : goal.returns-in_ok-delete_char-in-Backspace-clause-ok
returns-in_ok-delete_char-in-Backspace-clause-ok c typed h =
    rw c.in-Backspace.is (refl, c.typed_line_stays.ensures.removed c.args.self.now.area c.delete_char.new.self None typed h c.in_ok-delete_char-in-Backspace.ensures.ok)

pub returns-in_err-insert_char-in-Char-clause-err : goal.returns-in_err-insert_char-in-Char-clause-err
returns-in_err-insert_char-in-Char-clause-err c typed h =
    on_err c.from_residual.result _ (c.typed_line_stays.ensures.out_of_memory c.args.self.now.area c.insert_char.new.self None typed h c.in_err-insert_char-in-Char.ensures.err)
