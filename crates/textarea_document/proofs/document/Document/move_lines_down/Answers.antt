use Rattle.std.proofs.Common.{◌≡◌, ◌∙◌, ◌<◌, ◌+◌, ◌∷◌, [], ℕ, List, ap, arith, length, sym, true}
use Rattle.std.proofs.lemmas.Bool.{false≢true}
use Rattle.std.proofs.lemmas.Bool.Decides.{nat_tests}
use Rattle.std.proofs.lemmas.List.{length-map}
use Rattle.std.proofs.lemmas.Str.{chars-nil}
use Rattle.std.specs.Arc.{arc_value}
use Rattle.textarea_text.specs.Text.{leading}
use Rattle.textarea_document.specs.Prelude.{DocumentState, as_nanos, chars, characters_of, joined, line_end, line_of, lines, text_of}
use Rattle.textarea_document.specs.Moving.{has_line_below, lines_moved_down, row_down}
use Rattle.textarea_document.proofs.MovedLines.{below_as, down_as, lines_down}
use Rattle.textarea_document.proofs.document.Document.move_lines_down.Goals as goal
use Rattle.textarea_document.proofs.document.Document.move_lines_down.Goals.{After-line_of}

-- there is a line below
some_below : (c : After-line_of) → has_line_below c.args.self.now ≡ true
some_below c =
    let rows = c.selected_rows-first in
    let long : length c.lines-lines.result.now ≡ length (lines c.args.self.now.text) = sym (length-map c.lines-lines.result.now characters_of) ∙ ap length c.lines-lines.ensures.lines in
    let less : rows.result.1 + 1 < length c.lines-lines.result.now = grind (arith, nat_tests, c.if-lines-last.false) in
    below_as c.args.self.now rows.result.1 (length c.lines-lines.result.now) rows.ensures.last long less

-- the fragment is the line below, with a break after it
symbols_are : (c : goal.After-move_near) → text_of (arc_value c.in_ok-fragment_lines.fragment_lines).items ≡ leading (line_of (lines c.args.self.now.text) (c.selected_rows-first.result.1 + 1) ∷ [])
symbols_are c =
    c.in_ok-fragment_lines.ensures
    ∙ ap (λ (second : List ℕ). joined (chars c.line_of.result.now ∷ second ∷ [])) chars-nil
    ∙ ap (λ (first : List ℕ). joined (first ∷ [] ∷ [])) (c.line_of.ensures.characters ∙ ap (λ (rows : List (List ℕ)). line_of rows (c.selected_rows-first.result.1 + 1)) c.lines-lines.ensures.lines)

moved : (c : goal.After-move_near) → has_line_below c.args.self.now ≡ true → c.move_near.new.self ≡ lines_moved_down c.args.self.now (as_nanos c.args.now)
moved c below =
    let rows = c.selected_rows-first in
    down_as c.args.self.now c.replace_with.new.self c.move_near.new.self rows.result.0 rows.result.1 c.line_end-start.result c.line_end-stop.result (text_of (arc_value c.in_ok-fragment_lines.fragment_lines).items)
    c.row_down-cursor.result c.anchor_down-anchor.result (as_nanos c.args.now) rows.ensures.first rows.ensures.last below
    (c.line_end-start.ensures.value ∙ ap (λ (r : List (List ℕ)). line_end r rows.result.1) c.lines-lines.ensures.lines)
    (c.line_end-stop.ensures.value ∙ ap (λ (r : List (List ℕ)). line_end r (rows.result.1 + 1)) c.lines-lines.ensures.lines) (symbols_are c)
    (c.row_down-cursor.ensures ∙ ap (row_down (lines c.args.self.now.text)) c.cursor.ensures.value) c.anchor_down-anchor.ensures (c.replace_with.ensures ∙ c.in_ok-copy.ensures) c.move_near.ensures

pub returns-in_err-fragment_lines-clause-nothing : goal.returns-in_err-fragment_lines-clause-nothing
returns-in_err-fragment_lines-clause-nothing c = λ none. absurd (false≢true (sym none ∙ some_below (goal.at.returns-in_err-fragment_lines-clause-nothing c).After-line_of))

pub returns-in_err-copy-clause-nothing : goal.returns-in_err-copy-clause-nothing
returns-in_err-copy-clause-nothing c = λ none. absurd (false≢true (sym none ∙ some_below (goal.at.returns-in_err-copy-clause-nothing c).After-line_of))

pub returns-clause-moved : goal.returns-clause-moved
returns-clause-moved c = sym (some_below (goal.at.returns-clause-moved c).After-line_of)

pub returns-clause-ok : goal.returns-clause-ok
returns-clause-ok c = moved c (some_below (goal.at.returns-clause-ok c).After-line_of)

pub returns-clause-lines : goal.returns-clause-lines
returns-clause-lines c =
    ap (λ (d : DocumentState). lines d.text) (moved c (some_below (goal.at.returns-clause-lines c).After-line_of)) ∙ lines_down c.args.self.now (as_nanos c.args.now) c.is_sound.ensures
