use Rattle.std.proofs.Common.{arith}
use Rattle.std.proofs.lemmas.Bool.Decides.{nat_tests}
use Rattle.textarea_calls.specs.declared.action.Action.TheVariants as action
use Rattle.tui_textarea.specs.ActionTexts.{InsertsPassing}
use Rattle.tui_textarea.proofs.Ends.{either_end}
use Rattle.textarea_uses.specs.OneLine.{is_in_line}
use Rattle.textarea_uses.proofs.one_line.insert.Goals as goal

pub returns-in_err-insert_char-clause-one_line : goal.returns-in_err-insert_char-clause-one_line
returns-in_err-insert_char-clause-one_line c =
    let passes : InsertsPassing is_in_line c.args.area.now (action.InsertChar c.args.character) = grind (arith, nat_tests, c.if-character-eq10.false, c.if-character-eq13.false) in
    c.symbols_stay_or_are_inserted.ensures is_in_line c.args.area.now c.insert_char.new.self (action.InsertChar c.args.character) c.is_sound.ensures (either_end c.insert_char.result c.insert_char.ensures.ok c.insert_char.ensures.err) passes

pub returns-clause-one_line : goal.returns-clause-one_line
returns-clause-one_line c =
    let passes : InsertsPassing is_in_line c.args.area.now (action.InsertChar c.args.character) = grind (arith, nat_tests, c.if-character-eq10.false, c.if-character-eq13.false) in
    c.symbols_stay_or_are_inserted.ensures is_in_line c.args.area.now c.insert_char.new.self (action.InsertChar c.args.character) c.is_sound.ensures (either_end c.insert_char.result c.insert_char.ensures.ok c.insert_char.ensures.err) passes
