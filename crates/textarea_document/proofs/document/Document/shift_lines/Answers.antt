use Rattle.std.proofs.Common.{◌≡◌, ◌∙◌, ◌==◌, ℕ, List, ap, arith, length, sym, true, vec_len}
use Rattle.std.specs.Arc.{arc_value}
use Rattle.textarea_document.specs.Prelude.{DocumentState, as_nanos, chars, lines, text_of}
use Rattle.textarea_document.specs.Indenting.{lines_shifted, shifted_place}
use Rattle.textarea_document.specs.Replacing.{all_replaced}
use Rattle.textarea_document.proofs.IndentedTexts.{shifted_lines}
use Rattle.textarea_document.proofs.Indenting.{none_shifted, shifted_as}
use Rattle.textarea_document.proofs.document.Document.shift_lines.Goals as goal
use Rattle.textarea_document.proofs.document.Document.shift_lines.Goals.{After-is_empty, After-move_near}

-- without a stretch the document is the one after it
none : (c : After-is_empty) → c.is_empty.result ≡ true → c.args.self.now ≡ lines_shifted c.args.self.now c.args.outdents (chars c.args.tab.now) (as_nanos c.args.now)
none c empty =
    let found = c.in_ok-stretches.stretches in
    let counted : length found.items ≡ vec_len found = omega (arith, found.ok) in
    none_shifted c.args.self.now c.args.outdents found.items (chars c.args.tab.now) (as_nanos c.args.now) c.in_ok-stretches.ensures (ap (λ n. n == 0) counted ∙ sym c.is_empty.ensures ∙ empty)

pub returns-then-is_empty-clause-ok : goal.returns-then-is_empty-clause-ok
returns-then-is_empty-clause-ok c = none (goal.at.returns-then-is_empty-clause-ok c).After-is_empty c.if-is_empty.true

pub returns-then-is_empty-clause-lines : goal.returns-then-is_empty-clause-lines
returns-then-is_empty-clause-lines c =
    ap (λ (d : DocumentState). lines d.text) (none (goal.at.returns-then-is_empty-clause-lines c).After-is_empty c.if-is_empty.true)
    ∙ shifted_lines c.args.self.now c.args.outdents (chars c.args.tab.now) (as_nanos c.args.now) c.is_sound.ensures

-- the last step makes the document the one after it
made : (c : After-move_near) → c.move_near.new.self ≡ lines_shifted c.args.self.now c.args.outdents (chars c.args.tab.now) (as_nanos c.args.now)
made c =
    let document = c.args.self.now in
    let found = c.in_ok-stretches.stretches in
    let stretches = found.items in
    let symbols = text_of (arc_value c.in_ok-fragment_lines.fragment_lines).items in
    let now = as_nanos c.args.now in
    let counted : length stretches ≡ vec_len found = omega (arith, found.ok) in
    shifted_as document c.replace_all.new.self c.move_near.new.self c.args.outdents stretches (chars c.args.tab.now) symbols c.column_count-columns.result now
    c.shifted_place-cursor.result c.shifted_anchor-anchor.result c.in_ok-stretches.ensures (ap (λ n. n == 0) counted ∙ sym c.is_empty.ensures ∙ c.if-is_empty.false) c.in_ok-fragment_lines.ensures
    c.column_count-columns.ensures (c.shifted_place-cursor.ensures ∙ ap (shifted_place document c.args.outdents c.column_count-columns.result) c.cursor.ensures.value) c.shifted_anchor-anchor.ensures
    (c.in_ok-replace_all.ensures.ok ∙ ap (λ (s : List (ℕ × ℕ)). all_replaced document s symbols now) c.as_slice.ensures.value) c.move_near.ensures

pub returns-clause-ok : goal.returns-clause-ok
returns-clause-ok c = made (goal.at.returns-clause-ok c).After-move_near

pub returns-clause-lines : goal.returns-clause-lines
returns-clause-lines c =
    ap (λ (d : DocumentState). lines d.text) (made (goal.at.returns-clause-lines c).After-move_near)
    ∙ shifted_lines c.args.self.now c.args.outdents (chars c.args.tab.now) (as_nanos c.args.now) c.is_sound.ensures
