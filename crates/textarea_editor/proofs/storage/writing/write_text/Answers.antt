use Rattle.textarea_editor.proofs.Storages.{write_done}
use Rattle.textarea_editor.proofs.storage.writing.write_text.Goals as goal

pub returns-in-Ok-Some-clause-carried : goal.returns-in-Ok-Some-clause-carried
returns-in-Ok-Some-clause-carried g c =
    write_done g.F.CarriesOut.writes c.args.file.now c.carried.new.file c.args.journal.now c.write.new.self c.in-Ok-Some.field-0 c.in-Ok-Some.write c.carried.result c.into_bytes.result.items
    c.in-Ok-Some.ensures.some c.in-Ok-Some.field-0-is c.in-Ok-Some.ensures.text c.carried.ensures.carried
