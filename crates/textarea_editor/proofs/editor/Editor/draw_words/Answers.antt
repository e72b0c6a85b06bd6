use Rattle.std.proofs.Common.{◌≡◌, ◌+◌, ◌-◌, ◌≤◌, ◌∙◌, ℕ, ap, arith, min, subst, sym}
use Rattle.std.specs.Prelude.{string_bytes}
use Rattle.textarea_editor.proofs.StatusRows.{before_column, drawn_outside, spelled_now}
use Rattle.textarea_editor.proofs.editor.Editor.draw_words.Goals as goal
use Rattle.textarea_editor.specs.Shortened.{text_columns}
use Rattle.textarea_editor.specs.StatusRow.{IsDrawnIn, is_from}
use Rattle.textarea_editor.specs.StatusWords.{IsAskedBy, right_words}

pub returns : goal.returns
returns c =
    let editor = c.args.self.now in
    let row = c.args.row in
    let left = string_bytes c.in_ok-left.left in
    let right = string_bytes c.in_ok-right.right in
    let area = c.new-left_area.result in
    let column = c.saturating_sub-end.result in
    let begin = c.new-field.result.x in
    let end = c.new-field.result.x + c.new-field.result.width in
    let left_is : c.columns_of-left_columns.result ≡ text_columns left = c.columns_of-left_columns.ensures ∙ ap text_columns c.as_str-left_words.ensures.value in
    let right_is : c.columns_of-right_columns.result ≡ text_columns right = c.columns_of-right_columns.ensures ∙ ap text_columns c.as_str-right_words.ensures.value in
    let room : c.from-room.result ≡ row.width - text_columns left = omega (arith, left_is) in
    let column_is : column ≡ row.width - text_columns right = omega (arith, right_is) in
    let end_at : end ≡ column = omega (arith, c.new-field.ensures.x, c.new-field.ensures.width, c.min-begin.ensures, c.saturating_sub-end.type_inv) in
    let begin_at : begin ≡ min (text_columns left) column = c.new-field.ensures.x ∙ c.min-begin.ensures ∙ ap (λ (n : ℕ). min n column) left_is in
    let before : begin ≤ column = omega (arith, begin_at) in
    record {
      left = left;
      asked = subst (λ (n : ℕ). IsAskedBy editor.controls.focus editor n left) c.from-columns.ensures c.in_ok-left.ensures;
      right = right;
      right_is = c.in_ok-right.ensures ∙ ap (λ (n : ℕ). right_words editor.controls.focus editor n) room;
      end_is = end_at ∙ column_is;
      begin_is = begin_at ∙ ap (λ (n : ℕ). min (text_columns left) n) (sym end_at);
      left_drawn = drawn_outside left row 0 end begin (is_from column) _ _ c.in_ok-draw_from.ensures.keeps (λ x b h. before_column begin column x row.y before h)
          (record {
            area = area;
            part = record {
              column_is = c.new-left_area.ensures.x;
              row_is = c.new-left_area.ensures.y;
              width = omega (arith, end_at, c.new-left_area.ensures.width, c.saturating_sub-end.type_inv);
              height = omega (arith, c.new-left_area.ensures.height, c.args.row.bottom);
            };
            spelled = spelled_now left 0 begin area _ _ c.in_ok-draw_part.ensures;
          });
      right_drawn = subst (λ (n : ℕ). IsDrawnIn right row n row.width row.width c.draw_from.new.buffer) (sym end_at) c.in_ok-draw_from.ensures.drawn;
    }
