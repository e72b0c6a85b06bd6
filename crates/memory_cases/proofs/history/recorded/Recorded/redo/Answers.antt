use Rattle.std.proofs.Common.{arith}
use Rattle.memory_cases.proofs.Logs.{redo_fits, sound_redo}
use Rattle.memory_cases.proofs.history.recorded.Recorded.redo.Goals as goal

pub redo-requires : goal.redo-requires
redo-requires c =
    let inside = c.self.inside in
    redo_fits inside.lines.items inside.history.log (omega (arith, inside.lines.ok, c.self.invariant.0)) c.self.invariant.1

pub invariant_of-self : goal.invariant_of-self
invariant_of-self c =
    let inside = c.self.inside in
    (c.redo.ensures.nonempty c.self.invariant.0, sound_redo c.redo.result inside.lines.items c.redo.new.lines.items inside.history.log c.redo.new.self.log c.self.invariant.1 c.redo.ensures.ok c.redo.ensures.err c.redo.ensures.lines)
