use Rattle.std.proofs.Common.{◌≡◌, ◌≤◌, ◌∙◌, ℕ, List, ◌++◌, All, Some, length, take, drop, filter_map, ap, arith, subst, sym}
use Rattle.std.proofs.lemmas.List.{append-nil, drop_all, take_all}
use Rattle.textarea_ranges.specs.Prelude.{AtomicRange, moved_by}
use Rattle.textarea_ranges.proofs.Closing.{All-later, closed_up}
use Rattle.textarea_ranges.proofs.Searching.{front_passes, stays_before}
use Rattle.textarea_ranges.proofs.moved.move_ranges.Goals as goal

-- a list that was changed in place
written : {X : Type 0} (items slice now : List X) (len : ℕ) → slice ≡ items → len ≡ length items → length now ≡ length slice → take len (now ++ drop (length now) items) ≡ now
written items slice now len same size long =
    let few : length items ≤ length now = omega (arith, ap length same) in
    ap (λ t. take len (now ++ t)) (drop_all (length now) items few) ∙ ap (take len) (append-nil now) ∙ take_all len now (omega (arith, ap length same))

pub returns : goal.returns
returns c =
    let f = moved_by c.args.start c.args.old c.args.new in
    let items : List AtomicRange = c.args.ranges.now.items in
    let slice : List AtomicRange = c.as_mut_slice.result.now in
    let now : List AtomicRange = c.close_up-retained.new.ranges in
    let first : ℕ = c.ended_count-first.result in
    let end : ℕ = c.max-end.result in
    let retained : ℕ = c.close_up-retained.result in
    let same : slice ≡ items = c.as_mut_slice.ensures.value in
    let Stays : AtomicRange → Type 0 = λ range. f range ≡ Some range in
    let front : All Stays (take first items) = subst (λ (xs : List AtomicRange). All Stays (take first xs)) c.as_slice-all.ensures.value
    (front_passes Stays c.as_slice-all.result.now first c.ended_count-first.ensures.within
    (λ k d low lt. stays_before c.args.start c.args.old c.args.new _ (c.ended_count-first.ensures.point.0 k d low lt))) in
    let back : All Stays (drop end items) = All-later Stays items c.moving_end.result end (omega arith)
    (subst (λ (xs : List AtomicRange). All Stays (drop c.moving_end.result xs)) c.as_slice-all.ensures.value (c.moving_end.ensures.others c.args.start)) in
    c.remove_segment.ensures
    ∙ ap (λ ws. take retained ws ++ drop end ws) (written items slice now _ same c.args.ranges.now.ok.0 c.close_up-retained.ensures.len)
    ∙ closed_up f retained end first now slice c.close_up-retained.ensures.retained c.close_up-retained.ensures.others
    (subst (λ (xs : List AtomicRange). All Stays (take first xs)) (sym same) front)
    (subst (λ (xs : List AtomicRange). All Stays (drop end xs)) (sym same) back)
    ∙ ap (filter_map f) same
