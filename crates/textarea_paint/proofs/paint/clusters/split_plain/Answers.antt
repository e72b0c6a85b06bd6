use Rattle.std.proofs.Common.{◌≤◌, ap, ◌∙◌, arith}
use Rattle.textarea_paint.specs.Plain.{plain_count}
use Rattle.textarea_paint.proofs.PrintableLemmas.{split-clusters, split-printable, split-length, plain_count-bounds}
use Rattle.textarea_paint.proofs.paint.clusters.split_plain.Goals as goal

pub returns-else-count-eq0-clause-clusters : goal.returns-else-count-eq0-clause-clusters
returns-else-count-eq0-clause-clusters c =
    split-clusters c.split_at_checked.result (λ parts. parts.0.now) (λ parts. parts.1.now) c.args.text.now c.args.most c.plain_count-count.result c.utf8.text
    (c.plain_count-count.ensures ∙ ap (plain_count c.args.most) c.as_bytes.ensures.value) c.split_at_checked.ensures.front c.split_at_checked.ensures.back

pub returns-else-count-eq0-clause-printable : goal.returns-else-count-eq0-clause-printable
returns-else-count-eq0-clause-printable c =
    split-printable c.split_at_checked.result (λ parts. parts.0.now) c.args.text.now c.args.most c.plain_count-count.result
    (c.plain_count-count.ensures ∙ ap (plain_count c.args.most) c.as_bytes.ensures.value) c.split_at_checked.ensures.front

pub returns-else-count-eq0-clause-most : goal.returns-else-count-eq0-clause-most
returns-else-count-eq0-clause-most c =
    let is = c.plain_count-count.ensures ∙ ap (plain_count c.args.most) c.as_bytes.ensures.value in
    split-length (λ n. n ≤ c.args.most) c.split_at_checked.result (λ parts. parts.0.now) c.args.text.now c.args.most c.plain_count-count.result is c.split_at_checked.ensures.front
    (omega (arith, is, (plain_count-bounds c.args.most c.args.text.now).0))
