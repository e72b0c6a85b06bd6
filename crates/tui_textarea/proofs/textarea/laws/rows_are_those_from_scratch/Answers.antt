use Rattle.std.proofs.Common.{subst}
use Rattle.textarea_screen_map.proofs.Holding.{wrapped_at}
use Rattle.tui_textarea.specs.TextAreaLaw.{HasRowsFromScratch}
use Rattle.tui_textarea.proofs.textarea.laws.rows_are_those_from_scratch.Goals as goal

pub returns : goal.returns
returns c =
    let right = c.view.ensures.rows in
    subst HasRowsFromScratch c.area.view_is (record {
      rows = c.view.result.rows;
      right = right;
      only = λ others h. c.one_list_of_rows.ensures _ others c.view.result.rows h right;
      of_lines = λ index within. wrapped_at _ _ c.view.result.rows index right.text_layout within;
      of_lines_only = λ index ranges within h. c.one_wrapping.ensures _ _ _ _ _ ranges (wrapped_at _ _ c.view.result.rows index right.text_layout within) h;
    })
