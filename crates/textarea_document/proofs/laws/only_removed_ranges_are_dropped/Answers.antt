use Rattle.textarea_document.proofs.RangesOverSplices.{only_removed}
use Rattle.textarea_document.proofs.laws.only_removed_ranges_are_dropped.Goals as goal

pub returns : goal.returns
returns c = only_removed
