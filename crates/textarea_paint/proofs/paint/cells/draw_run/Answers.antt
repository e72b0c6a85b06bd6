use Rattle.std.proofs.Common.{◌≡◌, ◌+◌, ◌≤◌, [], length, ap, subst, ◌∙◌, arith}
use Rattle.std.specs.List.{All}
use Rattle.std.proofs.lemmas.List.Elements.{All-head}
use Rattle.textarea_screen.specs.declared.screen.cell.TheConstants.{INLINE_BYTES}
use Rattle.textarea_paint.specs.Cells.{IsPenAt}
use Rattle.textarea_paint.specs.Clusters.{AreInline, Cluster, in_style}
use Rattle.textarea_paint.specs.LineClusters.{FitsKind, kind_clusters, run_clusters}
use Rattle.textarea_paint.specs.Plain.{IsPrintable}
use Rattle.textarea_paint.specs.Row.{clusters_width}
use Rattle.textarea_paint.proofs.PlainRowLemmas.{clusters_width-plain}
use Rattle.textarea_paint.proofs.paint.cells.draw_run.Goals as goal

pub returns-in-Plain-clause-moved : goal.returns-in-Plain-clause-moved
returns-in-Plain-clause-moved c = λ left column at.
    let run = c.args.run in
    let printable : All IsPrintable run.text.now = subst (λ kind. FitsKind kind run.columns run.text.now) c.in-Plain.is c.requires.fits in
    let width : clusters_width (run_clusters run) ≡ length run.text.now =
    ap (λ kind. clusters_width (kind_clusters kind run.style run.text.now)) c.in-Plain.is ∙ clusters_width-plain run.style run.text.now printable in
    let same : column + length run.text.now ≡ column + clusters_width (run_clusters run) = omega (arith, width) in
    subst (λ n. IsPenAt c.args.cells left n c.draw_plain.result) same (c.draw_plain.ensures.moved left column at)

pub returns-in-One-clause-inline : goal.returns-in-One-clause-inline
returns-in-One-clause-inline c = λ short.
    let run = c.args.run in
    c.draw_cluster.ensures.inline
    (All-head (λ (k : Cluster). length k.text ≤ INLINE_BYTES) (in_style run.style run.text.now) []
    (subst (λ kind. AreInline (kind_clusters kind run.style run.text.now)) c.in-One.is short))

pub returns-in-Letters-clause-inline : goal.returns-in-Letters-clause-inline
returns-in-Letters-clause-inline c = λ short.
    let run = c.args.run in
    c.draw_letters.ensures.inline (subst (λ kind. AreInline (kind_clusters kind run.style run.text.now)) c.in-Letters.is short)

pub returns-in-Units-clause-inline : goal.returns-in-Units-clause-inline
returns-in-Units-clause-inline c = λ short.
    let run = c.args.run in
    c.draw_units.ensures.inline (subst (λ kind. AreInline (kind_clusters kind run.style run.text.now)) c.in-Units.is short)
