use Rattle.std.proofs.Common.{◌≡◌, length}
use Rattle.std.specs.Str.{chars}
use Rattle.textarea_editor.proofs.Runs.{IsRunSoFar}
use Rattle.textarea_editor.proofs.extents.run_at.Given as goal

abbrev pub invariant-loop-c : goal.invariant-loop-c
invariant-loop-c l = record {
  count : l.count ≡ length l.yielded;
  run : IsRunSoFar (chars l.line) l.column l.count l.first l.class;
}
