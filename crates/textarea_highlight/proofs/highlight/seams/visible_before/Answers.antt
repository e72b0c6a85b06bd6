use Rattle.textarea_highlight.proofs.SeamLemmas.{run_visible}
use Rattle.textarea_highlight.proofs.highlight.seams.visible_before.Goals as goal

pub returns-clause-visible : goal.returns-clause-visible
returns-clause-visible c = run_visible _ _ _ _ _ c.range_from.ensures.value c.requires.0 c.visible_count.ensures
