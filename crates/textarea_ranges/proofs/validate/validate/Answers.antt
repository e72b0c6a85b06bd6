use Rattle.std.proofs.Common.{◌≡◌, ◌≢◌, ◌∙◌, [], ap, arith, eqb-true, length, sym, vec_len}
use Rattle.std.proofs.lemmas.Bool.{eqb-false}
use Rattle.std.proofs.lemmas.List.{nil_from_length}
use Rattle.textarea_ranges.specs.Prelude.{lines_of, rejected_of}
use Rattle.textarea_ranges.proofs.RejectedLemmas.{AreAccepted-in_order, AreRejected-in_order}
use Rattle.textarea_ranges.proofs.validate.validate.Goals as goal

pub returns-then-is_empty : goal.returns-then-is_empty
returns-then-is_empty c =
    let rejected = c.in_ok-rejected.rejected in
    let stored = c.in_ok-ordered.ordered in
    let listed : rejected.items ≡ rejected_of (lines_of c.args.lines.now) stored.items = c.in_ok-rejected.ensures ∙ ap (rejected_of (lines_of c.args.lines.now)) c.as_slice.ensures.value in
    let empty : vec_len rejected ≡ 0 = eqb-true (vec_len rejected) 0 (sym c.is_empty.ensures ∙ c.if-is_empty.true) in
    let none : length rejected.items ≡ 0 = omega (arith, rejected.ok) in
    AreAccepted-in_order (lines_of c.args.lines.now) c.args.ranges.items stored.items rejected.items c.in_ok-ordered.ensures listed (nil_from_length rejected.items none)

pub returns-else-is_empty : goal.returns-else-is_empty
returns-else-is_empty c =
    let rejected = c.in_ok-rejected.rejected in
    let stored = c.in_ok-ordered.ordered in
    let listed : rejected.items ≡ rejected_of (lines_of c.args.lines.now) stored.items = c.in_ok-rejected.ensures ∙ ap (rejected_of (lines_of c.args.lines.now)) c.as_slice.ensures.value in
    let filled : vec_len rejected ≢ 0 = eqb-false (vec_len rejected) 0 (sym c.is_empty.ensures ∙ c.if-is_empty.false) in
    let some : rejected.items ≢ [] = λ none. filled (omega (arith, rejected.ok, ap length none)) in
    AreRejected-in_order (lines_of c.args.lines.now) c.args.ranges.items stored.items rejected.items c.in_ok-ordered.ensures listed some
