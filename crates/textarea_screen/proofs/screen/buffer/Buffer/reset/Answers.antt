use Rattle.std.proofs.Common.{refl, arith}
use Rattle.textarea_screen.proofs.FreshLemmas.{Changes-fresh}
use Rattle.textarea_screen.proofs.screen.buffer.Buffer.reset.Goals as goal

pub returns : goal.returns
returns c =
    let old = c.args.self.now in
    let new = c.make_fresh.new.cells in
    Changes-fresh old _ refl (omega (arith, old.full, old.cells.ok.0)) (omega (arith, old.full, c.make_fresh.ensures.len, new.ok.0)) c.make_fresh.ensures.fresh
