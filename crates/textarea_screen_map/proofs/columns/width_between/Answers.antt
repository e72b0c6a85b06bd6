use Rattle.std.proofs.Common.{◌∙◌, ap, subst, sym}
use Rattle.std.specs.Str.{IsCharBoundary, IsUtf8, chars}
use Rattle.std.proofs.lemmas.Str.{IsUtf8-take}
use Rattle.textarea_text.proofs.Columns.{IsCharBoundary-column}
use Rattle.textarea_wrap.specs.Columns.{display_end_column}
use Rattle.textarea_screen_map.proofs.MarkLemmas.{column_from_mark, from_start}
use Rattle.textarea_screen_map.proofs.columns.width_between.Goals as goal

pub range-requires-clause-start_boundary : goal.range-requires-clause-start_boundary
range-requires-clause-start_boundary c = λ _.
    subst (IsCharBoundary c.args.line.now) (sym c.requires.known.offset_is) (IsCharBoundary-column c.args.line.now c.args.known.column c.utf8.line)

pub returns-then-known-end-clause-value : goal.returns-then-known-end-clause-value
returns-then-known-end-clause-value c =
    let seam = subst (IsCharBoundary c.args.line.now) (sym c.requires.known.offset_is) (IsCharBoundary-column c.args.line.now c.args.known.column c.utf8.line) in
    c.display_column_after_text.ensures.value
    ∙ column_from_mark c.args.tab_len c.args.line.now c.range.result.now c.args.known c.args.end c.utf8.line c.requires.known c.if-known-end.true c.range.ensures.value seam
    ∙ ap (λ t. display_end_column c.args.tab_len 0 (chars t)) (from_start c.args.line.now c.args.start c.args.end c.if-start-eq0.true)

pub returns-then-known-end-clause-text : goal.returns-then-known-end-clause-text
returns-then-known-end-clause-text c =
    subst IsUtf8 (from_start c.args.line.now c.args.start c.args.end c.if-start-eq0.true) (IsUtf8-take c.args.line.now c.args.end c.utf8.line c.requires.end)
