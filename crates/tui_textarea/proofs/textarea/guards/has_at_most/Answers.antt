use Rattle.std.proofs.Common.{◌≡◌, ◌∙◌, ◌+◌, ap, arith, length, sym, take}
use Rattle.std.specs.Str.{chars}
use Rattle.std.proofs.lemmas.Bool.{le-leb, lt-leb}
use Rattle.std.proofs.lemmas.List.{take_all}
use Rattle.textarea_text.specs.Text.{following, lines_of, text_of}
use Rattle.tui_textarea.proofs.Fitting.{length-first-line, length-following-more, length-following-take}
use Rattle.tui_textarea.proofs.textarea.guards.has_at_most.Goals as goal

pub returns-then-most-count : goal.returns-then-most-count
returns-then-most-count c =
    let counted = c.column_count-count.ensures ∙ ap (λ t. length (chars t)) c.as_str.ensures.value in
    sym (lt-leb (length (text_of c.args.fragment_lines.now)) c.args.most (omega (arith, counted, length-first-line c.args.fragment_lines.now c.in-Some.first.now c.in-Some.rest.now c.in-Some.ensures.cases.0)))

pub returns-then-left-count : goal.returns-then-left-count
returns-then-left-count c =
    let rest = c.in-Some.rest.now in
    let at = c.loop-fragment_line.fragment_line-index in
    let counted = c.column_count-count.ensures ∙ ap (λ t. length (chars t)) c.as_str.ensures.value in
    let counted_line = c.column_count.ensures ∙ ap (λ t. length (chars t)) c.as_str-in-loop-fragment_line.ensures.value in
    sym (lt-leb (length (text_of c.args.fragment_lines.now)) c.args.most (omega (
      arith,
      counted,
      counted_line,
      c.loop-fragment_line.invariant,
      length-following-more rest at c.fragment_line-item.result (omega arith) c.fragment_line-item.is,
      length-following-take rest (at + 1),
      length-first-line c.args.fragment_lines.now c.in-Some.first.now rest c.in-Some.ensures.cases.0,
    )))

pub loop-fragment_line-preserved : goal.loop-fragment_line-preserved
loop-fragment_line-preserved c =
    let counted_line = c.column_count.ensures ∙ ap (λ t. length (chars t)) c.as_str-in-loop-fragment_line.ensures.value in
    omega (arith, counted_line, c.loop-fragment_line.invariant, length-following-more c.in-Some.rest.now c.loop-fragment_line.fragment_line-index c.fragment_line-item.result (omega arith) c.fragment_line-item.is)

pub returns : goal.returns
returns c =
    let rest = c.in-Some.rest.now in
    let counted = c.column_count-count.ensures ∙ ap (λ t. length (chars t)) c.as_str.ensures.value in
    let all : take c.loop-fragment_line.fragment_line-index rest ≡ rest = take_all c.loop-fragment_line.fragment_line-index rest (omega arith) in
    sym (le-leb (length (text_of c.args.fragment_lines.now)) c.args.most (omega (
      arith,
      counted,
      c.loop-fragment_line.invariant,
      ap (λ t. length (following (lines_of t))) all,
      length-first-line c.args.fragment_lines.now c.in-Some.first.now rest c.in-Some.ensures.cases.0,
    )))
