use Rattle.std.proofs.lemmas.Grind.{common_steps}
use Rattle.std.proofs.Common.{◌≡◌, ◌+◌, ◌<◌, arith, subst, sym}
use Rattle.std.specs.Str.{chars}
use Rattle.textarea_util.specs.Limit.{size_limit}
use Rattle.textarea_text.specs.Place.{Place}
use Rattle.textarea_screen_map.specs.BorrowedLines.{BorrowedRows}
use Rattle.textarea_screen_map.specs.LineRows.{AreRowsOf}
use Rattle.textarea_screen_map.specs.RowTexts.{row_of_texts}
use Rattle.textarea_screen_map.specs.VisualRows.{row_at}
use Rattle.textarea_screen_map.specs.VisualPositions.{IsPlaceAt, LeadsTo}
use Rattle.textarea_screen_map.proofs.Layouts.{length-AreRowsOf}
use Rattle.textarea_screen_map.proofs.ThereAndBack.{is_place, place_of_index}
use Rattle.textarea_screen_map.proofs.view.TextLayoutView.place_at.Goals as goal
use Rattle.textarea_screen_map.proofs.view.TextLayoutView.place_at.Goals.{After-character_at_column-index}

place_is :
    (c : After-character_at_column-index) → ((row_of_texts c.row_at-displayed.result).first + c.character_at_column-index.result < size_limit)
    × IsPlaceAt c.args.self.now.wrapping.tab_len c.args.self.now.lines c.args.self.now.rows c.args.visual (c.row_at-displayed.result.line, (row_of_texts c.row_at-displayed.result).first + c.character_at_column-index.result)
place_is c =
    let view = c.args.self.now in
    let displayed = c.row_at-displayed.result in
    place_of_index view.wrapping view.lines view.rows c.args.visual (row_of_texts displayed) c.character_at_column-index.result
    (subst (λ (v : BorrowedRows). AreRowsOf v.wrapping v.lines v.rows) c.self.view_is c.self.invariant.0.right) c.requires
    (subst (λ (v : BorrowedRows). row_of_texts displayed ≡ row_at v.lines v.rows c.args.visual.row) c.self.view_is c.row_at-displayed.ensures.displayed)
    (subst (λ t. LeadsTo t (chars displayed.text.now) c.args.visual.column c.character_at_column-index.result) c.tab_len.ensures c.character_at_column-index.ensures)

pub place_in-requires-clause-line : goal.place_in-requires-clause-line
place_in-requires-clause-line c = grind (arith, common_steps, length-AreRowsOf)

pub place_in-requires-clause-few : goal.place_in-requires-clause-few
place_in-requires-clause-few c = (place_is (goal.at.place_in-requires-clause-few c).After-character_at_column-index).0

pub returns : goal.returns
returns c =
    let view = c.args.self.now in
    let at = subst (λ (p : Place). IsPlaceAt view.wrapping.tab_len view.lines view.rows c.args.visual p) (sym c.place_in.ensures) (place_is (goal.at.returns c).After-character_at_column-index).1 in
    record { place = is_place view.wrapping _ _ _ _ (subst (λ (v : BorrowedRows). AreRowsOf v.wrapping v.lines v.rows) c.self.view_is c.self.invariant.0.right) at; found = at }
