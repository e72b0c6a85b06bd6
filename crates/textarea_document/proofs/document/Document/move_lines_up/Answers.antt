use Rattle.std.proofs.Common.{◌≡◌, ◌∙◌, ◌-◌, ◌∷◌, [], ℕ, List, ap, length, sym}
use Rattle.std.proofs.lemmas.Bool.{false≢true}
use Rattle.std.proofs.lemmas.Str.{chars-nil}
use Rattle.std.specs.Arc.{arc_value}
use Rattle.textarea_text.specs.Text.{following}
use Rattle.textarea_document.specs.Prelude.{DocumentState, as_nanos, chars, joined, line_of, lines, text_of}
use Rattle.textarea_document.specs.Moving.{lines_moved_up, row_up}
use Rattle.textarea_document.proofs.MovedLines.{above_as, lines_up, up_as}
use Rattle.textarea_document.proofs.document.Document.move_lines_up.Goals as goal

-- the fragment is the line above, with a break before it
symbols_are : (c : goal.After-move_near) → text_of (arc_value c.in_ok-fragment_lines.fragment_lines).items ≡ following (line_of (lines c.args.self.now.text) (c.selected_rows-first.result.0 - 1) ∷ [])
symbols_are c =
    c.in_ok-fragment_lines.ensures
    ∙ ap (λ (first : List ℕ). joined (first ∷ chars c.line_of.result.now ∷ [])) chars-nil
    ∙ ap (λ (second : List ℕ). joined ([] ∷ second ∷ [])) (c.line_of.ensures.characters ∙ ap (λ (rows : List (List ℕ)). line_of rows (c.selected_rows-first.result.0 - 1)) c.lines-lines.ensures.lines)

moved : (c : goal.After-move_near) → c.move_near.new.self ≡ lines_moved_up c.args.self.now (as_nanos c.args.now)
moved c =
    let rows = c.selected_rows-first in
    up_as c.args.self.now c.replace_with.new.self c.move_near.new.self rows.result.0 rows.result.1 c.line_length.result (text_of (arc_value c.in_ok-fragment_lines.fragment_lines).items)
    c.row_up-cursor.result c.anchor_up-anchor.result (as_nanos c.args.now) rows.ensures.first rows.ensures.last c.if-first-eq0.false
    (c.line_length.ensures ∙ ap (λ (r : List (List ℕ)). length (line_of r rows.result.1)) c.lines-lines.ensures.lines) (symbols_are c)
    (c.row_up-cursor.ensures ∙ ap row_up c.cursor.ensures.value) c.anchor_up-anchor.ensures (c.replace_with.ensures ∙ c.in_ok-copy.ensures) c.move_near.ensures

pub returns-in_err-fragment_lines-clause-nothing : goal.returns-in_err-fragment_lines-clause-nothing
returns-in_err-fragment_lines-clause-nothing c = λ none. absurd (false≢true (sym none ∙ above_as c.args.self.now c.selected_rows-first.result.0 c.selected_rows-first.ensures.first c.if-first-eq0.false))

pub returns-in_err-copy-clause-nothing : goal.returns-in_err-copy-clause-nothing
returns-in_err-copy-clause-nothing c = λ none. absurd (false≢true (sym none ∙ above_as c.args.self.now c.selected_rows-first.result.0 c.selected_rows-first.ensures.first c.if-first-eq0.false))

pub returns-clause-moved : goal.returns-clause-moved
returns-clause-moved c = sym (above_as c.args.self.now c.selected_rows-first.result.0 c.selected_rows-first.ensures.first c.if-first-eq0.false)

pub returns-clause-ok : goal.returns-clause-ok
returns-clause-ok c = moved c

pub returns-clause-lines : goal.returns-clause-lines
returns-clause-lines c =
    ap (λ (d : DocumentState). lines d.text) (moved c) ∙ lines_up c.args.self.now (as_nanos c.args.now) c.is_sound.ensures
