use Rattle.std.proofs.Common.{◌≡◌, ◌∙◌, ap, sym, arith, length, Some, None, Option, ℕ, List}
use Rattle.std.proofs.lemmas.List.{length-map}
use Rattle.textarea_document.specs.Prelude.{characters_of, lines_of, last_row, line_end, line_of, next_word_last, first_word_end, place_or, is_later_word_row, next_word_row}
use Rattle.textarea_text.proofs.NearestLemmas.{least_below-found, least_below-none}
use Rattle.textarea_document.proofs.RowLemmas.{is_later_word_row-at}
use Rattle.textarea_document.proofs.words.later_word_end.Goals as goal

pub returns-in-Some-clause-value : goal.returns-in-Some-clause-value
returns-in-Some-clause-value c =
    let rows = lines_of c.args.lines.now in
    let row = c.loop-row.row in
    let found : Some c.in-Some.column ≡ next_word_last (line_of rows row) 0 =
    c.in-Some.ensures.value ∙ ap (λ (line : List ℕ). next_word_last line 0) c.line_of.ensures.characters in
    let first : next_word_row rows c.args.start ≡ Some row =
    least_below-found (is_later_word_row rows c.args.start) row (length rows) c.loop-row.invariant
    (is_later_word_row-at rows c.args.start row (Some c.in-Some.column) (omega arith) found)
    (omega (arith, length-map c.args.lines.now characters_of)) in
    ap (λ (o : Option ℕ). place_or o row (line_end rows (last_row rows))) found ∙ ap (first_word_end rows) (sym first)

pub returns-clause-value : goal.returns-clause-value
returns-clause-value c =
    let rows = lines_of c.args.lines.now in
    let none : next_word_row rows c.args.start ≡ None =
    least_below-none (is_later_word_row rows c.args.start) (length rows)
    (λ e below. c.loop-row.invariant e (omega (arith, length-map c.args.lines.now characters_of))) in
    c.line_end.ensures.value ∙ ap (line_end rows) c.last_row.ensures.value ∙ ap (first_word_end rows) (sym none)
