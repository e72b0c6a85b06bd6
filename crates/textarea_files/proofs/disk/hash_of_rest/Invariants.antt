use Rattle.textarea_files.proofs.DiskLemmas.{IsReadTo}
use Rattle.textarea_files.proofs.disk.hash_of_rest.Given as goal

-- what was read so far, and its hash
abbrev pub invariant-reading : goal.invariant-reading
invariant-reading g l = IsReadTo (g.F.Read.remaining l.fn.file) (g.F.Read.remaining l.file) l.hash
