use Rattle.std.proofs.Common.{◌+◌, ◌<◌, arith, min, subst, sym, take}
use Rattle.std.specs.Str.{chars}
use Rattle.textarea_util.specs.Limit.{size_limit}
use Rattle.textarea_text.specs.Place.{Place}
use Rattle.textarea_wrap.specs.Columns.{display_end_column}
use Rattle.textarea_blocks.specs.Sums.{row_total}
use Rattle.textarea_screen_map.specs.BorrowedLines.{BorrowedRows}
use Rattle.textarea_screen_map.specs.LineRows.{AreRowsOf}
use Rattle.textarea_screen_map.specs.RowTexts.{IsRowText, row_of_texts}
use Rattle.textarea_screen_map.specs.VisualRows.{VisualRow, greatest_column, row_at}
use Rattle.textarea_screen_map.specs.VisualPositions.{IsPlaceNear, LeadsTo, over_all_lines}
use Rattle.textarea_screen_map.proofs.RowColumns.{leads_in_row}
use Rattle.textarea_screen_map.proofs.Layouts.{length-AreRowsOf}
use Rattle.textarea_screen_map.proofs.ThereAndBack.{is_place, place_of_index}
use Rattle.textarea_screen_map.proofs.VisualRows.{rows_below}
use Rattle.textarea_screen_map.proofs.view.TextLayoutView.near_in_line.Goals as goal
use Rattle.textarea_screen_map.proofs.view.TextLayoutView.near_in_line.Goals.{After-character_near_column-index, After-row_of_line-displayed}

shown : (c : After-row_of_line-displayed) → IsRowText c.args.self.now.lines c.args.self.now.rows (row_total (take c.args.line c.args.self.now.rows) + c.args.visual.row) c.row_of_line-displayed.result
shown c = subst (λ (v : BorrowedRows). IsRowText v.lines v.rows (row_total (take c.args.line v.rows) + c.args.visual.row) c.row_of_line-displayed.result) c.self.view_is c.row_of_line-displayed.ensures

right : (c : After-row_of_line-displayed) → AreRowsOf c.args.self.now.wrapping c.args.self.now.lines c.args.self.now.rows
right c = subst (λ (v : BorrowedRows). AreRowsOf v.wrapping v.lines v.rows) c.self.view_is c.self.invariant.0.right

place_is :
    (c : After-character_near_column-index)
    → IsRowText c.args.self.now.lines c.args.self.now.rows (row_total (take c.args.line c.args.self.now.rows) + c.args.visual.row) c.row_of_line-displayed.result
    → AreRowsOf c.args.self.now.wrapping c.args.self.now.lines c.args.self.now.rows
    → ((row_of_texts c.row_of_line-displayed.result).first + c.character_near_column-index.result < size_limit) × IsPlaceNear
    c.args.self.now.wrapping.tab_len c.args.self.now.lines c.args.self.now.rows (over_all_lines c.args.self.now.rows c.args.line c.args.visual)
    (c.row_of_line-displayed.result.line, (row_of_texts c.row_of_line-displayed.result).first + c.character_near_column-index.result)
place_is c shown right =
    let view = c.args.self.now in
    let tab_len = view.wrapping.tab_len in
    let displayed = c.row_of_line-displayed.result in
    let reachable = chars c.reachable_text-reachable.result.now in
    let column = c.args.visual.column in
    let row = row_total (take c.args.line view.rows) + c.args.visual.row in
    let index = c.character_near_column-index.result in
    let near = subst (λ t. LeadsTo t reachable (min column (display_end_column t 0 reachable)) index) c.tab_len.ensures c.character_near_column-index.ensures in
    let in_row = leads_in_row tab_len column index (chars displayed.text.now) reachable displayed.is_last c.reachable_text-reachable.ensures.characters near in
    let leads = subst (λ (v : VisualRow). LeadsTo tab_len (chars displayed.text.now) (min column (greatest_column tab_len v)) index) shown.displayed in_row in
    let below = rows_below view.rows c.args.line c.args.visual.row (omega (arith, c.requires.line, length-AreRowsOf view.wrapping view.lines view.rows right)) c.requires.number in
    place_of_index view.wrapping view.lines view.rows (record { row = row; column = min column (greatest_column tab_len (row_at view.lines view.rows row)) }) (row_of_texts displayed) index right below shown.displayed leads

pub mark_in-known-requires-clause-line : goal.mark_in-known-requires-clause-line
mark_in-known-requires-clause-line c =
    omega (arith, (shown (goal.at.mark_in-known-requires-clause-line c).After-row_of_line-displayed).line, length-AreRowsOf _ _ _ (right (goal.at.mark_in-known-requires-clause-line c).After-row_of_line-displayed))

pub place_in-requires-clause-line : goal.place_in-requires-clause-line
place_in-requires-clause-line c =
    let at = (goal.at.place_in-requires-clause-line c).After-row_of_line-displayed in
    omega (arith, (shown at).line, length-AreRowsOf _ _ _ (right at))

pub place_in-requires-clause-few : goal.place_in-requires-clause-few
place_in-requires-clause-few c =
    let at = goal.at.place_in-requires-clause-few c in
    (place_is at.After-character_near_column-index (shown at.After-row_of_line-displayed) (right at.After-row_of_line-displayed)).0

pub returns : goal.returns
returns c =
    let view = c.args.self.now in
    let at = goal.at.returns c in
    let right = right at.After-row_of_line-displayed in
    let near =
    subst (λ (p : Place). IsPlaceNear view.wrapping.tab_len view.lines view.rows (over_all_lines view.rows c.args.line c.args.visual) p)
    (sym c.place_in.ensures) (place_is at.After-character_near_column-index (shown at.After-row_of_line-displayed) right).1 in
    record { place = is_place view.wrapping _ _ _ _ right near; near = near }
