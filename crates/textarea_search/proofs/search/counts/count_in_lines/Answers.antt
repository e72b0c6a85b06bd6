use Rattle.std.proofs.Common.{◌≡◌, ◌∙◌, ap, arith, length, string_bytes}
use Rattle.regex.specs.Strings.{matcher_pattern}
use Rattle.textarea_text.proofs.Sizes.{size_of_more}
use Rattle.textarea_search.specs.Spans.{columns_in}
use Rattle.textarea_search.proofs.CountLemmas.{above_size, count_more}
use Rattle.textarea_search.proofs.search.counts.count_in_lines.Goals as goal

pub overflow_add-count : goal.overflow_add-count
overflow_add-count c =
    let line = c.line-item.result in
    omega (
      arith,
      c.loop-line.invariant.2,
      c.count_in_line-count.ensures.least,
      ap length c.deref.ensures,
      line.bytes.ok.0,
      above_size c.args.lines.now c.loop-line.line-index line (omega arith) c.line-item.is,
    )

pub loop-line-preserved : goal.loop-line-preserved
loop-line-preserved c =
    let inv = c.loop-line.invariant in
    let i = c.loop-line.line-index in
    let line = c.line-item.result in
    let columns = columns_in (matcher_pattern c.args.matcher.now) in
    let here : c.count_in_line-count.result ≡ length (columns (string_bytes line)) = rw (← c.deref.ensures, ← inv.0) c.count_in_line-count.ensures.count in (
      c.count_in_line-count.ensures.same ∙ inv.0,
      omega (arith, inv.1, here, count_more columns c.args.lines.now i line (omega arith) c.line-item.is),
      omega (arith, inv.2, c.count_in_line-count.ensures.least, ap length c.deref.ensures, line.bytes.ok.0, size_of_more c.args.lines.now i line (omega arith) c.line-item.is),
    )
