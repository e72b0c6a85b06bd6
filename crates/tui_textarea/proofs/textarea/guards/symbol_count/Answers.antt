use Rattle.std.proofs.Common.{◌≡◌, ◌∙◌, ◌+◌, ap, arith, length, take}
use Rattle.std.specs.Str.{chars}
use Rattle.std.proofs.lemmas.List.{take_all}
use Rattle.textarea_text.specs.Text.{characters_of, following, lines_of}
use Rattle.tui_textarea.proofs.Fitting.{length-following-le, length-following-more, length-following-take, length-text}
use Rattle.tui_textarea.proofs.textarea.guards.symbol_count.Goals as goal

pub overflow_add-count : goal.overflow_add-count
overflow_add-count c =
    let lines = c.args.lines.now in
    let counted : c.column_count-count.result ≡ length (characters_of c.line-item.result) = c.column_count-count.ensures ∙ ap (λ t. length (chars t)) c.as_str.ensures.value in
    omega (
      arith,
      counted,
      c.loop-line.invariant,
      length-following-more lines c.loop-line.line-index c.line-item.result (omega arith) c.line-item.is,
      length-following-take lines (c.loop-line.line-index + 1),
      length-following-le lines,
    )

pub loop-line-preserved : goal.loop-line-preserved
loop-line-preserved c =
    let counted : c.column_count-count.result ≡ length (characters_of c.line-item.result) = c.column_count-count.ensures ∙ ap (λ t. length (chars t)) c.as_str.ensures.value in
    omega (arith, counted, c.loop-line.invariant, length-following-more c.args.lines.now c.loop-line.line-index c.line-item.result (omega arith) c.line-item.is)

pub returns : goal.returns
returns c =
    let lines = c.args.lines.now in
    let all : take c.loop-line.line-index lines ≡ lines = take_all c.loop-line.line-index lines (omega arith) in
    omega (arith, c.loop-line.invariant, length-text lines (omega arith), ap (λ t. length (following (lines_of t))) all)
