use Rattle.textarea_files.proofs.DiskLemmas.{read_on_by}
use Rattle.textarea_files.proofs.disk.hash_of_rest.Goals as goal

pub reading-preserved : goal.reading-preserved
reading-preserved g c = read_on_by _ _ _ _ _ _ c.in-Some.is c.reading.invariant c.in_ok-next.ensures
