use Rattle.std.proofs.Common.{arith}
use Rattle.memory_cases.proofs.Logs.{sound_undo, undo_fits}
use Rattle.memory_cases.proofs.history.recorded.Recorded.undo.Goals as goal

pub undo-requires : goal.undo-requires
undo-requires c =
    let inside = c.self.inside in
    undo_fits inside.lines.items inside.history.log (omega (arith, inside.lines.ok, c.self.invariant.0)) c.self.invariant.1

pub invariant_of-self : goal.invariant_of-self
invariant_of-self c =
    let inside = c.self.inside in
    (c.undo.ensures.nonempty c.self.invariant.0, sound_undo c.undo.result inside.lines.items c.undo.new.lines.items inside.history.log c.undo.new.self.log c.self.invariant.1 c.undo.ensures.ok c.undo.ensures.err c.undo.ensures.lines)
