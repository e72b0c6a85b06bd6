use Rattle.std.proofs.Common.{◌≡◌, ◌<◌, ◌+◌, ℕ, List, Some, None, arith, get_or, length, set, subst, sym, ◌∙◌}
use Rattle.textarea_ranges.specs.Prelude.{AtomicRange, IsMovable, moved_by}
use Rattle.textarea_ranges.proofs.Closing.{Closing, closing_none, closing_some, first_of_rest}
use Rattle.textarea_ranges.proofs.moved.close_up.Goals as goal
use Rattle.textarea_ranges.proofs.moved.close_up.Goals.{in-Some, in_default}

nothing : AtomicRange
nothing = record { row = 0; start_col = 0; end_col = 0 }

pub loop-index-preserved : goal.loop-index-preserved
unfolding nothing
loop-index-preserved c =
    let f = moved_by c.args.start c.args.old c.args.new in
    let all : List AtomicRange = c.args.ranges.now in
    let before : List AtomicRange = c.loop-index.ranges in
    let retained : ℕ = c.loop-index.retained in
    let index : ℕ = c.loop-index.index in
    let within : index < length before = omega arith in
    elim c.match-moved.branch [
      | in-Some w ↦
          let found : f (get_or before index nothing) ≡ Some w.in-Some.range = sym c.moved.ensures ∙ w.in-Some.is in
          let next = closing_some f IsMovable before all retained index c.args.first nothing w.in-Some.range within found c.loop-index.invariant in
          subst (λ (xs : List AtomicRange). Closing f IsMovable xs c.match-moved.retained (index + 1) c.args.first all) (sym w.ranges-is)
          (subst (λ (n : ℕ). Closing f IsMovable (set before retained w.in-Some.range) n (index + 1) c.args.first all) (sym w.retained-is) next)
      | in_default w ↦
          let found : f (get_or before index nothing) ≡ None = sym c.moved.ensures ∙ w.in_default.is in
          let next = closing_none f IsMovable before all retained index c.args.first nothing within found c.loop-index.invariant in
          subst (λ (xs : List AtomicRange). Closing f IsMovable xs c.match-moved.retained (index + 1) c.args.first all) (sym w.ranges-is)
          (subst (λ (n : ℕ). Closing f IsMovable before n (index + 1) c.args.first all) (sym w.retained-is) next)
    ]

pub moved-requires-clause-movable : goal.moved-requires-clause-movable
moved-requires-clause-movable c = first_of_rest IsMovable c.loop-index.ranges c.loop-index.index _ (omega arith) c.loop-index.invariant.each
