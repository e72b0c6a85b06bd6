use Rattle.std.proofs.Common.{◌≡◌, ◌∙◌, ◌+◌, ◌-◌, ◌≤◌, ◌∷◌, [], ℕ, List, Option, IfSome, length, take, drop, sym, ap, subst, arith, String, Vec, Global, vec_len}
use Rattle.std.proofs.lemmas.List.{length-map}
use Rattle.std.specs.Arc.{arc_value}
use Rattle.textarea_document.specs.Prelude.{as_nanos, chars, characters_of, IsPlace, Fits, Place, Symbol, Splice, DocumentState, applied, lines, lines_of, line_end, after_edit}
use Rattle.textarea_document.specs.Selection.{first_selected_row, last_selected_row, selection_duplication}
use Rattle.textarea_document.proofs.Betweens.{well_formed}
use Rattle.textarea_document.proofs.Inserts.{anchor_as, duplicated_as, ends_as, lines_again, place_as, places_in_copy, selected_rows, selection_duplication_fits, splice_of_copy, text_is, two_lines}
use Rattle.textarea_document.proofs.document.Document.duplicate_lines.Goals as goal
use Rattle.textarea_document.proofs.document.Document.duplicate_lines.Goals.{After-of_fragment-edit}

-- the lines of the copy
copied : (c : After-of_fragment-edit)
    → lines_of (arc_value c.in_ok-shared.shared).items ≡ [] ∷ lines_of (take (c.selected_rows-first.result.1 + 1 - c.selected_rows-first.result.0) (drop c.selected_rows-first.result.0 c.lines-lines.result.now))
unfolding chars
copied c =
    ap (λ (v : Vec (String Global) Global). lines_of v.items) c.in_ok-shared.ensures.ok
    ∙ ap lines_of c.in_ok-insert.ensures.items
    ∙ ap (λ (b : List ℕ). chars b ∷ lines_of c.in_ok-copy.copy.items) c.new-empty.ensures.bytes
    ∙ ap (λ (r : List (List ℕ)). [] ∷ r) c.in_ok-copy.ensures.same

-- the edit is at the end of the last line
starts : (c : After-of_fragment-edit) → c.line_end-start.result ≡ line_end (lines c.args.self.now.text) c.selected_rows-first.result.1
starts c = c.line_end-start.ensures.value ∙ ap (λ (r : List (List ℕ)). line_end r c.selected_rows-first.result.1) c.lines-lines.ensures.lines

-- it is the duplication
splice_is : (c : After-of_fragment-edit) → c.of_fragment-edit.result.splice ≡ selection_duplication c.args.self.now
splice_is c =
    let rows = c.selected_rows-first in
    c.of_fragment-edit.ensures.splice
    ∙ splice_of_copy c.args.self.now.text (first_selected_row c.args.self.now) (last_selected_row c.args.self.now) rows.result.0 rows.result.1 c.line_end-start.result c.lines-lines.result.now (arc_value c.in_ok-shared.shared).items
    rows.ensures.first rows.ensures.last rows.ensures.ordered (starts c) c.lines-lines.ensures.lines (copied c)

cursor_is : (c : After-of_fragment-edit) → IsPlace c.args.self.now.text c.args.self.now.cursor
cursor_is c = subst (IsPlace c.args.self.now.text) c.cursor-cursor.ensures.value c.cursor-cursor.ensures.place

anchor_is : (c : After-of_fragment-edit) → IfSome c.args.self.now.anchor (IsPlace c.args.self.now.text)
anchor_is c = subst (λ (a : Option Place). IfSome a (IsPlace c.args.self.now.text)) c.anchor.ensures.value c.anchor.ensures.place

pub edit-requires-clause-well_formed : goal.edit-requires-clause-well_formed
edit-requires-clause-well_formed c =
    let document = c.args.self.now in
    let rows = c.selected_rows-first in
    let made = c.of_fragment-edit in
    let before = (goal.at.edit-requires-clause-well_formed c).After-of_fragment-edit in
    let long : length c.lines-lines.result.now ≡ length (lines document.text) = sym (length-map c.lines-lines.result.now characters_of) ∙ ap length c.lines-lines.ensures.lines in
    well_formed made.result (selection_duplication document) (splice_is before)
    (selection_duplication_fits document (cursor_is before) (anchor_is before)).some
    (ends_as document.text (first_selected_row document) (last_selected_row document) rows.result.0 rows.result.1 c.line_end-start.result made.result.end
    rows.ensures.first rows.ensures.last (starts before) made.ensures.end rows.ensures.ordered rows.ensures.within)
    (subst (λ (o : Option ℕ). IfSome o (λ n. 2 ≤ n)) (sym made.ensures.fragment_lines)
    (subst (λ (v : Vec (String Global) Global). 2 ≤ length v.items) (sym c.in_ok-shared.ensures.ok)
    (omega (
      arith,
      c.insert.new.self.ok,
      two_lines (length (lines document.text)) rows.result.0 rows.result.1 (vec_len c.in_ok-copy.copy) (vec_len c.insert.new.self)
          c.lines-lines.result.now long rows.ensures.ordered rows.ensures.within c.in_ok-copy.ensures.len c.in_ok-insert.ensures.len,
    ))))

pub edit-requires-clause-fits : goal.edit-requires-clause-fits
edit-requires-clause-fits c =
    let document = c.args.self.now in
    let before = (goal.at.edit-requires-clause-fits c).After-of_fragment-edit in
    subst (Fits document.text) (sym (splice_is before)) (selection_duplication_fits document (cursor_is before) (anchor_is before))

pub move_to-requires-clause-cursor : goal.move_to-requires-clause-cursor
move_to-requires-clause-cursor c =
    let document = c.args.self.now in
    let rows = c.selected_rows-first in
    let before = (goal.at.move_to-requires-clause-cursor c).After-of_fragment-edit in
    place_as _ c.edit.new.self.text c.cursor-cursor.result document.cursor rows.result.0 rows.result.1 (first_selected_row document) (last_selected_row document)
    (text_is document c.edit.new.self c.of_fragment-edit.result.splice (as_nanos c.args.now) c.in_ok-edit.ensures.ok (splice_is before))
    c.cursor-cursor.ensures.value rows.ensures.first rows.ensures.last
    (places_in_copy document (as_nanos c.args.now) (cursor_is before) (anchor_is before)).cursor

pub move_to-requires-clause-anchor : goal.move_to-requires-clause-anchor
move_to-requires-clause-anchor c =
    let document = c.args.self.now in
    let rows = c.selected_rows-first in
    let before = (goal.at.move_to-requires-clause-anchor c).After-of_fragment-edit in
    anchor_as _ c.edit.new.self.text c.rows_down-anchor.result c.anchor.result document.anchor rows.result.0 rows.result.1 (first_selected_row document) (last_selected_row document)
    (text_is document c.edit.new.self c.of_fragment-edit.result.splice (as_nanos c.args.now) c.in_ok-edit.ensures.ok (splice_is before))
    c.rows_down-anchor.ensures c.anchor.ensures.value rows.ensures.first rows.ensures.last
    (places_in_copy document (as_nanos c.args.now) (cursor_is before) (anchor_is before)).anchor

pub returns-clause-ok : goal.returns-clause-ok
returns-clause-ok c =
    let document = c.args.self.now in
    let rows = c.selected_rows-first in
    let before = (goal.at.returns-clause-ok c).After-of_fragment-edit in
    duplicated_as document c.edit.new.self c.move_to.new.self c.of_fragment-edit.result.splice c.cursor-cursor.result c.anchor.result c.rows_down-anchor.result rows.result.0 rows.result.1 (as_nanos c.args.now)
    c.in_ok-edit.ensures.ok (splice_is before) c.cursor-cursor.ensures.value c.rows_down-anchor.ensures c.anchor.ensures.value rows.ensures.first rows.ensures.last c.move_to.ensures

pub returns-clause-lines : goal.returns-clause-lines
returns-clause-lines c =
    let document = c.args.self.now in
    let before = (goal.at.returns-clause-lines c).After-of_fragment-edit in
    let rows = selected_rows document (cursor_is before) (anchor_is before) in
    ap lines (ap (λ (d : DocumentState). d.text) c.move_to.ensures ∙ text_is document c.edit.new.self c.of_fragment-edit.result.splice (as_nanos c.args.now) c.in_ok-edit.ensures.ok (splice_is before))
    ∙ lines_again document.text (first_selected_row document) (last_selected_row document) rows.ordered rows.within
