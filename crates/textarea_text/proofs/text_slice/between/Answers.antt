use Rattle.std.proofs.Common.{◌∙◌, ◌<◌, ap, arith, rules, drop, sym, take}
use Rattle.std.proofs.lemmas.Grind.{common_steps}
use Rattle.textarea_text.specs.Prelude.{chars, lines_of}
use Rattle.textarea_text.proofs.StringRows.{line_at, row_within}
use Rattle.textarea_text.proofs.BetweenLemmas.{between_from_lines, between_within, copied_between, up_to_from_index}
use Rattle.textarea_text.proofs.text_slice.between.Goals as goal

pub overflow_sub-to : goal.overflow_sub-to
overflow_sub-to c =
    (up_to_from_index (lines_of c.args.lines.now) c.args.from c.args.to c.requires.from c.requires.to c.requires.ordered).0

pub returns-then-from-to-clause-text : goal.returns-then-from-to-clause-text
returns-then-from-to-clause-text c =
    let up = up_to_from_index (lines_of c.args.lines.now) c.args.from c.args.to c.requires.from c.requires.to c.requires.ordered in
    between_from_lines c.args.lines.now c.push_line.new.fragment_lines.items c.args.from c.args.to c.requires.from c.requires.to up
    (grind (arith, common_steps, between_within, line_at c.args.lines.now c.args.from.0 c.index-lines-from.result (row_within c.args.lines.now c.args.from c.requires.from) c.index-lines-from.is))

pub slice_bounds-extend_from_slice-count : goal.slice_bounds-extend_from_slice-count
slice_bounds-extend_from_slice-count c =
    grind (arith, common_steps, up_to_from_index (lines_of c.args.lines.now) c.args.from c.args.to c.requires.from c.requires.to c.requires.ordered)

pub slice_bounds-extend_from_slice-start : goal.slice_bounds-extend_from_slice-start
slice_bounds-extend_from_slice-start c =
    let below : c.args.from.0 < c.args.to.0 = grind (arith, common_steps, up_to_from_index (lines_of c.args.lines.now) c.args.from c.args.to c.requires.from c.requires.to c.requires.ordered) in
    omega (arith, below)

pub returns-clause-len : goal.returns-clause-len
returns-clause-len c =
    grind (arith, common_steps, up_to_from_index (lines_of c.args.lines.now) c.args.from c.args.to c.requires.from c.requires.to c.requires.ordered, row_within c.args.lines.now c.args.to c.requires.to)

pub returns-clause-text : goal.returns-clause-text
returns-clause-text c =
    let lines = c.args.lines.now in
    let from = c.args.from in
    let to = c.args.to in
    let up = up_to_from_index (lines_of lines) from to c.requires.from c.requires.to c.requires.ordered in
    let below : from.0 < to.0 = grind (arith, common_steps, up) in
    let copied = c.in_ok-extend_from_slice.ensures.items in
    let first_row = line_at lines from.0 c.index-lines-from.result (row_within lines from c.requires.from) c.index-lines-from.is in
    let first = c.text_from.ensures ∙ ap (λ t. drop from.1 (chars t)) c.as_str-first.ensures.value ∙ ap (drop from.1) (sym first_row) in
    let last_row = line_at lines to.0 c.index-lines-to.result (row_within lines to c.requires.to) c.index-lines-to.is in
    let last = c.text_before.ensures ∙ ap (λ t. take to.1 (chars t)) c.as_str.ensures.value ∙ ap (take to.1) (sym last_row) in
    between_from_lines lines _ from to c.requires.from c.requires.to up
    (copied_between lines _ _ _ copied.0 from to _ _ c.requires.to.0 below (grind (arith, common_steps)) copied.1 copied.2 (search rules) first last)
