use Rattle.textarea_document.specs.Prelude.{moved_ranges, past_ranges_after, recorded}
use Rattle.textarea_document.proofs.Changing.{change_leads, lines_lead, redo_leads, undo_leads}
use Rattle.textarea_document.proofs.laws.changes_lead.Goals as goal

pub returns : goal.returns
returns c = record {
  edited = λ document splice typed now fits. change_leads document splice (recorded document.log splice typed now) (moved_ranges document.ranges splice) (past_ranges_after document splice typed now) fits;
  undone = undo_leads;
  redone = redo_leads;
  lines = lines_lead;
}
