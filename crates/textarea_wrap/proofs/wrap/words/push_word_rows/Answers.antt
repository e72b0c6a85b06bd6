use Rattle.textarea_wrap.proofs.Prelude.{common_steps, drop_all}
use Rattle.std.proofs.Common.{◌≡◌, ℕ, List, [], map, ap, arith, drop, Bor}
use Rattle.textarea_wrap.proofs.WordLemmas.{IsWordWalk-start, IsWordWalk-end, IsWordWalk-later, units_at, length-units_at}
use Rattle.textarea_wrap.proofs.wrap.words.push_word_rows.Goals as goal

pub loop-i-init : goal.loop-i-init
loop-i-init c = record {
  walk = IsWordWalk-start _ _ _ _ c.requires.nonempty;
  bytes = omega arith;
  narrow = omega arith;
}

pub place_unit-requires-clause-some : goal.place_unit-requires-clause-some
place_unit-requires-clause-some c =
    (rw (units_at c.args.units.now c.loop-i.i c.loop-i-test.true) at c.loop-i.invariant.walk).some.0

pub place_unit-requires-clause-short : goal.place_unit-requires-clause-short
place_unit-requires-clause-short c = grind (arith, common_steps, length-units_at c.args.units.now c.loop-i.i c.loop-i-test.true)

pub place_unit-requires-clause-narrow : goal.place_unit-requires-clause-narrow
place_unit-requires-clause-narrow c = grind (arith, common_steps, length-units_at c.args.units.now c.loop-i.i c.loop-i-test.true)

pub loop-i-preserved : goal.loop-i-preserved
loop-i-preserved c =
    let was = c.loop-i.invariant in
    let units = c.args.units.now in
    let i = c.loop-i.i in
    let len = length-units_at units i c.loop-i-test.true in
    let placed = c.in_ok-row.ensures in
    record {
      walk = IsWordWalk-later _ _ _ _ _ _ _ _ units i (placed.placed _ _ (rw (units_at units i c.loop-i-test.true) at was.walk));
      bytes = omega (arith, was.bytes, placed.end);
      narrow = omega (arith, was.narrow, placed.near);
    }

pub returns : goal.returns
returns c =
    let none : map (λ (unit : Bor (List ℕ)). unit.now) (drop c.loop-i.i c.args.units.now) ≡ [] =
    ap (map (λ (unit : Bor (List ℕ)). unit.now)) (drop_all c.loop-i.i c.args.units.now c.loop-i-test.false) in
    IsWordWalk-end _ _ _ _ _ _ _ _ (rw none at c.loop-i.invariant.walk) _ _ c.push_nonempty.ensures.some c.push_nonempty.ensures.none
