use Rattle.std.proofs.Common.{ℕ, ◌<◌, ◌≤◌, length, get_or, inl, refl, arith}
use Rattle.std.proofs.lemmas.Str.{IsCharBoundary-end}
use Rattle.textarea_highlight.specs.declared.highlight.borders.Border.{Border}
use Rattle.textarea_highlight.proofs.SplitLemmas.{next_segment, pass_more, past_end, split_more}
use Rattle.textarea_highlight.proofs.highlight.split.split.Goals as goal
use Rattle.textarea_highlight.proofs.highlight.split.split.Goals.{else-loop-border-test, then-loop-border-test+then-row-border}

pub loop-border-preserved : goal.loop-border-preserved
loop-border-preserved c =
    let i = c.loop-border.border-index in
    let next = next_segment c.args.row.now c.args.borders.now i c.loop-border.start c.max-end.result _ c.max-end.ensures c.loop-border-test.true c.requires.ordered c.requires.placed
    c.if-row-border.false c.loop-border.invariant.boundary in
    pass_more _ _ _ _ _ _ _ i _ _ _ _ _ _
    (split_more _ _ _ _ _ _ _ i _ c.max-end.result _ _ _ _ _ c.loop-border.invariant next.order next.boundary next.edge next.ahead
    c.in_ok-segment_added.ensures.added c.in_ok-segment_added.ensures.known c.in_ok-segment_added.ensures.tab c.in_ok-segment_added.ensures.masked)
    c.loop-border-test.true next.last c.in_ok-pass.ensures.base c.in_ok-pass.ensures.ok

pub returns-clause-added : goal.returns-clause-added
returns-clause-added c =
    let row = c.args.row.now in
    let borders = c.args.borders.now in
    let i = c.loop-border.border-index in
    let ahead : (k : ℕ) (e : Border) → i ≤ k → k < length borders → length row ≤ (get_or borders k e).offset =
    elim c.loop-border-test.branch [
      | else-loop-border-test w ↦ λ k e le below. absurd (omega (arith, w.loop-border-test.false))
      | then-loop-border-test+then-row-border w ↦ past_end row borders i _ w.if-row-border.true c.requires.ordered
    ] in
    let end = split_more _ _ _ _ _ _ _ i _ (length row) _ _ _ _ _ c.loop-border.invariant c.loop-border.invariant.boundary.0 (IsCharBoundary-end row) (λ more. inl refl) (λ more. ahead)
    c.in_ok-split_to.ensures.added c.in_ok-split_to.ensures.known c.in_ok-split_to.ensures.tab c.in_ok-split_to.ensures.masked in
    let split = end.split in
    record { segments = split.0; split = split.1; added = split.2 }
