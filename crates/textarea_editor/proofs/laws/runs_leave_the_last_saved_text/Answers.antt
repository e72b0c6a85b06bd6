use Rattle.textarea_editor.proofs.ProgramRuns.{crash_after_acts, sure_after_acts, unchanged_after_acts}
use Rattle.textarea_editor.proofs.laws.runs_leave_the_last_saved_text.Goals as goal

pub returns-clause-unchanged : goal.returns-clause-unchanged
returns-clause-unchanged c = unchanged_after_acts

pub returns-clause-sure : goal.returns-clause-sure
returns-clause-sure c = sure_after_acts c.saves_are_lasting.ensures

pub returns-clause-crash : goal.returns-clause-crash
returns-clause-crash c = λ folder first last acts given file saving save plan begins are is of_file same asked can.
    crash_after_acts c.saves_are_lasting.ensures c.beside_is_old_or_new.ensures c.in_place_has_whole_text.ensures folder first last acts given file save plan begins are is of_file same can
