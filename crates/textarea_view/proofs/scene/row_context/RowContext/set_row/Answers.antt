use Rattle.std.proofs.Common.{ap, ◌∙◌, refl, subst}
use Rattle.textarea_view.specs.Prelude.{AreNumbers, Highlights, row_of_texts, with_row_number, with_cursor, with_customs, with_search_matches, with_selected}
use Rattle.textarea_view.proofs.Drawing.{highlights_are}
use Rattle.textarea_view.proofs.scene.row_context.RowContext.set_row.Goals as goal

pub returns-clause-highlights_are : goal.returns-clause-highlights_are
returns-clause-highlights_are c =
    let scene = c.args.self.now in
    let row = row_of_texts c.args.displayed in
    let before = c.in_ok-add_cursor.ensures.ok ∙ ap (with_cursor scene row) (c.in_ok-add_number.ensures.ok ∙ ap (with_row_number scene row) c.begin.ensures) in
    let ranges = c.in_ok-add_selection.ensures.ok ∙ ap (with_selected scene row) (c.in_ok-add_matches.ensures.ok ∙ ap (with_search_matches scene row) before) in
    c.in_ok-add_customs.ensures.ok ∙ ap (with_customs scene row) ranges ∙ highlights_are scene c.args.row row c.requires.displayed

pub returns-clause-numbers : goal.returns-clause-numbers
returns-clause-numbers c =
    let row = row_of_texts c.args.displayed in
    subst (λ (h : Highlights). AreNumbers h.numbers c.number_columns.result) (highlights_are c.args.self.now c.args.row row c.requires.displayed) (c.number_columns.ensures row refl)
