use Rattle.std.proofs.Common.{◌≡◌, ◌+◌, ◌∙◌, ℕ, None, arith, true, false, rules, subst, sym}
use Rattle.std.specs.List.Sorted.{IsPartitionPoint}
use Rattle.std.proofs.lemmas.List.Sorted.{IsPartitionPoint-from_clause}
use Rattle.textarea_search.specs.Starts.{is_past}
use Rattle.textarea_search.proofs.AscendingLemmas.{found_before_point, none_before_point, partitioned_by_before}
use Rattle.textarea_search.proofs.search.line_starts.last_before.Goals as goal

pub returns-in_err-before : goal.returns-in_err-before
returns-in_err-before c =
    let test = λ (column : ℕ). is_past column c.args.at_mark c.args.mark in
    let point = IsPartitionPoint-from_clause test _ _ c.partition_point-index.ensures.partitioned
    (partitioned_by_before c.args.mark c.args.at_mark c.args.columns.now c.requires) (λ a r q k. search rules) in
    let nothing : c.from_residual.result ≡ None = search rules in
    let none : c.partition_point-index.result ≡ 0 = omega (arith, c.in_err-before.ensures) in
    nothing ∙ sym (none_before_point test c.args.columns.now
    (subst (λ (n : ℕ). IsPartitionPoint (λ x. test x ≡ true) (λ x. test x ≡ false) c.args.columns.now n) none point))

pub returns : goal.returns
returns c =
    let test = λ (column : ℕ). is_past column c.args.at_mark c.args.mark in
    let point = IsPartitionPoint-from_clause test _ _ c.partition_point-index.ensures.partitioned
    (partitioned_by_before c.args.mark c.args.at_mark c.args.columns.now c.requires) (λ a r q k. search rules) in
    let before = c.in_ok-before.before in
    let next : c.partition_point-index.result ≡ before + 1 = omega (arith, c.in_ok-before.ensures) in
    sym (found_before_point test c.args.columns.now before 0 (omega (arith, next, c.partition_point-index.ensures.bound))
    (subst (λ (n : ℕ). IsPartitionPoint (λ x. test x ≡ true) (λ x. test x ≡ false) c.args.columns.now n) next point))
