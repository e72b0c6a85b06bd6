use Rattle.textarea_document.specs.Prelude.{lines_of}
use Rattle.textarea_document.proofs.ChangeLogs.{change_is, starts, stops}
use Rattle.textarea_document.proofs.document.changes.change_in.Goals as goal

pub place_in_unit-start-requires : goal.place_in_unit-start-requires
place_in_unit-start-requires c = starts c.args.lines.now c.args.change.now c.start-from.result c.requires.some c.requires.fits c.start-from.ensures

pub place_in_unit-end-requires : goal.place_in_unit-end-requires
place_in_unit-end-requires c = stops c.args.lines.now c.args.change.now c.cursor_before-to.result c.requires.some c.requires.fits c.cursor_before-to.ensures

pub returns : goal.returns
returns c =
    change_is c.args.unit c.args.lines.now c.args.change.now c.start-from.result c.cursor_before-to.result c.place_in_unit-start.result c.place_in_unit-end.result
    (lines_of c.in_ok-inserted.inserted.items) c.requires.some c.start-from.ensures c.cursor_before-to.ensures c.place_in_unit-start.ensures c.place_in_unit-end.ensures c.in_ok-inserted.ensures
