use Rattle.std.proofs.Common.{◌≡◌, ◌+◌, ◌==◌, ◌∙◌, None, Some, ap, arith, length, map, option_map, string_bytes, sym, take}
use Rattle.std.specs.List.{position_from}
use Rattle.regex.specs.Strings.{matcher_pattern}
use Rattle.textarea_search.specs.Spans.{columns_in}
use Rattle.textarea_search.specs.Starts.{bytes_at, starts_by, starts_from}
use Rattle.textarea_search.proofs.CountLemmas.{above_size, front_size, index_is}
use Rattle.textarea_search.proofs.StartLemmas.{bytes_of_line}
use Rattle.textarea_search.proofs.search.counts.index_in_lines.Goals as goal

pub returns-in_err-here : goal.returns-in_err-here
returns-in_err-here c =
    let columns = columns_in (matcher_pattern c.args.matcher.now) in
    let lines = c.args.lines.now in
    let row = c.args.cursor.0 in
    let above = length (starts_from columns 0 (map string_bytes (take row lines))) in
    let bytes : c.deref.result.now ≡ bytes_at lines row =
    c.deref.ensures ∙ sym (bytes_of_line lines row c.index-lines-row.result (omega arith) c.index-lines-row.is) in
    let none : position_from (λ start. start == c.args.cursor.1) 0 (columns (bytes_at lines row)) ≡ None =
    rw (← bytes) (sym c.index_in_line.ensures.index ∙ c.in_err-here.was) in
    record { index = c.from_residual.ensures ∙ sym (index_is columns lines row c.args.cursor.1 (omega arith) ∙ ap (option_map (λ k. above + k)) none) }

pub count_in_lines-before-requires : goal.count_in_lines-before-requires
count_in_lines-before-requires c = record { limit = omega (arith, c.requires.limit, front_size c.args.lines.now c.args.cursor.0) }

pub overflow_add-result : goal.overflow_add-result
overflow_add-result c =
    let line = c.index-lines-row.result in
    omega (
      arith,
      c.requires.limit,
      c.count_in_lines-before.ensures.least,
      c.in_ok-here.ensures.within,
      ap length c.deref.ensures,
      line.bytes.ok.0,
      above_size c.args.lines.now c.args.cursor.0 line (omega arith) c.index-lines-row.is,
    )

pub returns : goal.returns
returns c =
    let tree = matcher_pattern c.args.matcher.now in
    let columns = columns_in tree in
    let lines = c.args.lines.now in
    let row = c.args.cursor.0 in
    let here = c.in_ok-here.here in
    let above = length (starts_from columns 0 (map string_bytes (take row lines))) in
    let bytes : c.deref.result.now ≡ bytes_at lines row =
    c.deref.ensures ∙ sym (bytes_of_line lines row c.index-lines-row.result (omega arith) c.index-lines-row.is) in
    let found : position_from (λ start. start == c.args.cursor.1) 0 (columns (bytes_at lines row)) ≡ Some here =
    rw (← bytes) (sym c.index_in_line.ensures.index ∙ c.in_ok-here.was) in
    let count : c.count_in_lines-before.result ≡ above =
    c.count_in_lines-before.ensures.count ∙ ap (λ t. length (starts_by t 0 (take row lines))) c.index_in_line.ensures.same in
    record {
      index = ap (λ n. Some (n + here)) count
          ∙ sym (index_is columns lines row c.args.cursor.1 (omega arith) ∙ ap (option_map (λ k. above + k)) found);
    }
