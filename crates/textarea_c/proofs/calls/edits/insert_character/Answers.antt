use Rattle.std.proofs.Common.{if◌then◌else◌}
use Rattle.tui_textarea.specs.Edits.{char_inserted}
use Rattle.textarea_data.specs.declared.range.AtomicCursorBias.TheVariants.{Forward}
use Rattle.tui_textarea.specs.Units.{settled}
use Rattle.tui_textarea.specs.Guards.{bars_character}
use Rattle.textarea_c.specs.Calls.{InsertsCharacter}
use Rattle.textarea_c.proofs.Tried.{inserted}
use Rattle.textarea_c.proofs.calls.edits.insert_character.Goals as goal

pub returns : goal.returns
unfolding InsertsCharacter
returns c =
    inserted c.insert_char.result c.done.result (if bars_character c.args.editor.now.area c.args.c then c.args.editor.now.area else settled Forward (char_inserted c.args.editor.now.area c.args.c)) c.insert_char.new.self c.args.editor.now
    c.insert_char.ensures.ok c.insert_char.ensures.err c.done.ensures.ok c.done.ensures.no_memory
