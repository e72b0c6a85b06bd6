use Rattle.std.proofs.Common.{◌≡◌, false, drop}
use Rattle.textarea_files.specs.FileText.{has_returns}
use Rattle.textarea_files.proofs.file_text.has_returns.Given as goal

-- the bytes that are left decide
abbrev pub invariant-loop-byte : goal.invariant-loop-byte
invariant-loop-byte l = has_returns l.was_return (drop l.byte-index l.text) ≡ has_returns false l.text
