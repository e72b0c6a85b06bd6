use Rattle.textarea_document.specs.Prelude.{lines_of}
use Rattle.textarea_document.proofs.ChangeLogs.{whole_is}
use Rattle.textarea_document.proofs.document.changes.whole_change.Goals as goal

pub returns : goal.returns
returns c =
    whole_is c.args.unit c.args.lines.now c.text_end-to.result c.place_in_unit-end.result (lines_of c.in_ok-inserted.inserted.items) (lines_of c.args.others.now)
    c.requires c.text_end-to.ensures.value c.place_in_unit-end.ensures c.in_ok-inserted.ensures.same
