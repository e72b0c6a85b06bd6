use Rattle.std.proofs.lemmas.Grind.{common_steps}
use Rattle.std.proofs.Common.{◌∙◌, ℕ, List, [], ap, encode_utf8_all, get_or, arith, length, string_bytes, subst, sym}
use Rattle.std.proofs.lemmas.List.{nil_from_length}
use Rattle.std.proofs.lemmas.Result.{IfOk-at_ok}
use Rattle.std.specs.Str.{all_scalars}
use Rattle.std.proofs.lemmas.Str.{IsUtf8-string_bytes, scalars-chars}
use Rattle.textarea_text.proofs.StringRows.{line_at}
use Rattle.textarea_util.specs.Replaced.{replaced}
use Rattle.textarea_text.specs.Text.{lines_of}
use Rattle.textarea_screen_map.specs.declared.layout.Wrapping.{Wrapping}
use Rattle.textarea_wrap.specs.Marks.{marks_of}
use Rattle.textarea_wrap.specs.WrapResult.{IsWrapped}
use Rattle.textarea_wrap.specs.declared.wrap.WrapMode.TheVariants as mode
use Rattle.textarea_screen_map.proofs.Holding.{bytes_of_line}
use Rattle.textarea_screen_map.proofs.RowSizes.{size_of_line}
use Rattle.textarea_lines.proofs.WholeLines.{pushed, size_of_one, total_of_one, whole_ranges}
use Rattle.textarea_lines.proofs.rewrap.put_whole_line.Goals as goal

pub unwrap-wrapped-requires : goal.unwrap-wrapped-requires
unwrap-wrapped-requires c =
    grind (
      arith,
      common_steps,
      bytes_of_line c.args.lines.now c.args.row c.index-lines-row.result c.as_str-line.result.now c.requires.whole.within c.index-lines-row.is c.as_str-line.ensures.value,
      c.requires.whole.size_is,
      c.requires.whole.limit,
    )

pub replace-requires : goal.replace-requires
replace-requires c =
    let bytes = bytes_of_line c.args.lines.now c.args.row c.index-lines-row.result c.as_str-line.result.now c.requires.whole.within c.index-lines-row.is c.as_str-line.ensures.value in
    let items =
    pushed c.push.result c.args.rows.items c.push.new.self.items c.unwrap-wrapped.result c.push.ensures.items
    (c.push.ensures.succeeds (omega (arith, c.requires.empty, c.requires.room)))
    (nil_from_length c.args.rows.items (omega (arith, c.requires.empty, c.args.rows.ok.0))) in
    let right = IfOk-at_ok _ c.unwrap-wrapped.ensures c.line_ranges.ensures.rows in
    let has = whole_ranges c.wrapping-wrapping.result.tab_len 1 _ c.unwrap-wrapped.result.ranges right in
    let total = total_of_one c.args.map.now.rows c.push.new.self.items c.unwrap-wrapped.result c.args.row (omega (arith, c.requires.whole.within, c.requires.whole.same)) c.requires.whole.one items has in
    let size =
    size_of_one c.args.map.now.rows c.push.new.self.items c.unwrap-wrapped.result c.args.row (length c.as_str-line.result.now) items
    (size_of_line mode.None c.wrapping-wrapping.result.tab_len 1 c.as_str-line.result.now c.unwrap-wrapped.result.ranges right).0 in
    record {
      within = omega (arith, c.requires.whole.within, c.requires.whole.same);
      room = (omega (arith, c.requires.whole.within, c.requires.whole.same), λ block h. omega (arith, ap length items, c.push.new.self.ok.0, h.to));
      total = c.row_count.ensures ∙ sym total;
      size = omega (arith, size, c.requires.whole.size_is, ap length bytes);
      limit = record {
        size = omega (arith, size, c.requires.whole.size_is, c.requires.whole.limit, ap length bytes);
        few = omega (arith, total, c.requires.whole.few);
      };
    }

pub returns-clause-rows : goal.returns-clause-rows
returns-clause-rows c =
    let items =
    pushed c.push.result c.args.rows.items c.push.new.self.items c.unwrap-wrapped.result c.push.ensures.items
    (c.push.ensures.succeeds (omega (arith, c.requires.empty, c.requires.room)))
    (nil_from_length c.args.rows.items (omega (arith, c.requires.empty, c.args.rows.ok.0))) in
    let bytes = bytes_of_line c.args.lines.now c.args.row c.index-lines-row.result c.as_str-line.result.now c.requires.whole.within c.index-lines-row.is c.as_str-line.ensures.value in
    let right = IfOk-at_ok _ c.unwrap-wrapped.ensures c.line_ranges.ensures.rows in
    let tab_len = ap (λ (w : Wrapping). w.tab_len) c.wrapping-wrapping.ensures in
    record {
      wrapped = c.unwrap-wrapped.result;
      new_is = c.replace.ensures.rows ∙ ap (replaced c.args.map.now.rows c.args.row 1) items;
      tick_is = IfOk-at_ok _ c.unwrap-wrapped.ensures c.line_ranges.ensures.tick ∙ c.line_ranges.ensures.counted;
      characters =
          ap all_scalars (line_at c.args.lines.now c.args.row c.index-lines-row.result c.requires.whole.within c.index-lines-row.is) ∙ scalars-chars (string_bytes c.index-lines-row.result) (IsUtf8-string_bytes c.index-lines-row.result);
      short = omega (arith, c.requires.whole.size_is, c.requires.whole.limit);
      right = subst (λ n. IsWrapped mode.None n 1 (encode_utf8_all (get_or (lines_of c.args.lines.now) c.args.row [])) c.unwrap-wrapped.result.ranges) tab_len
          (subst (λ (t : List ℕ). IsWrapped mode.None c.wrapping-wrapping.result.tab_len 1 t c.unwrap-wrapped.result.ranges) bytes right);
      marked = IfOk-at_ok _ c.unwrap-wrapped.ensures c.line_ranges.ensures.marks ∙ ap (λ (t : List ℕ). marks_of t c.unwrap-wrapped.result.ranges) bytes;
    }
