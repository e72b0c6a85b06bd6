-- The law of the steps: each fits the text and splits no range.
use Rattle.std.proofs.Common.{◌≡◌, ◌+◌, ◌-◌, ◌<◌, ℕ, List, [], ◌∷◌, length, take, drop, get_or, None, sym, ap, subst, ◌∙◌, arith}
use Rattle.std.proofs.lemmas.List.{drop_more, length-take-le, take-append-drop}
use Rattle.std.proofs.Math.Seq.{take-add}
use Rattle.textarea_document.specs.Prelude.{Symbol, Break, lines, IsPlace, OccursAt, end, index_of, line_end, place_of, Fits, TakesWhole, range_at_place, widened, DocumentState, IsSound, HasEffect}
use Rattle.textarea_document.specs.Prelude.{Insert, Remove, RemoveBefore, RemoveAfter, RemoveBreak, EditStep, cursor_index, splice_of_step, symbol_removal, SplitsNoRange}
use Rattle.textarea_text.proofs.TextPlaces.{IsPlace-end, index_of-end, index_within, place_of-index}
use Rattle.textarea_text.proofs.Splices.{end-append}
use Rattle.textarea_data.specs.declared.range.AtomicCursorBias.TheVariants.{Backward, Forward}
use Rattle.textarea_data.specs.declared.range.AtomicDeleteDirection.TheVariants.{Forward as DeleteForward}
use Rattle.textarea_ranges.proofs.LookupLemmas.{IsPlaceOf-moved_out, IsWidened-widened, outside-moved_out}
use Rattle.textarea_document.proofs.SymbolAfters.{break_removal_fits}
use Rattle.textarea_document.proofs.Betweens.{between_ends, removal_fits}
use Rattle.textarea_document.proofs.Ranges.{before_by, up_to_from_index, whole_after, whole_break, widened_ordered}

-- ---- the one symbol of an index

record SymbolAt (text : List Symbol) (index : ℕ) : Type 0 where
  symbol : Symbol
  symbol_is : take 1 (drop index text) ≡ symbol ∷ []
  is_place : IsPlace text (place_of text index)
  index_is : index_of text (place_of text index) ≡ index
  ends : place_of text (index + 1) ≡ end (place_of text index) (take 1 (drop index text))

symbol_at : (text : List Symbol) (index : ℕ) → index < length text → SymbolAt text index
symbol_at text index within =
    let front = take index text in
    let whole = take-append-drop index text in
    record {
      symbol = get_or text index Break;
      symbol_is = ap (take 1) (drop_more text index Break within);
      is_place = subst (λ t. IsPlace t (end (0, 0) front)) whole (IsPlace-end front (drop index text));
      index_is = ap (λ t. index_of t (end (0, 0) front)) (sym whole) ∙ index_of-end front (drop index text) ∙ length-take-le index text (omega arith);
      ends = ap (end (0, 0)) (take-add index 1 text) ∙ end-append (0, 0) front (take 1 (drop index text));
    }

symbol_removal_fits : (text : List Symbol) (index : ℕ) → SymbolAt text index → Fits text (symbol_removal text index)
symbol_removal_fits text index at = record {
  some = omega (arith, ap length at.symbol_is);
  is_place = at.is_place;
  allowed = ap (λ n. take n (drop (index_of text (place_of text index)) text)) (ap length at.symbol_is) ∙ ap (λ n. take 1 (drop n text)) at.index_is;
}

-- ---- each step

abbrev Keeps : DocumentState → EditStep → Type 0
Keeps document step = Fits document.text (splice_of_step document step) × SplitsNoRange document.ranges (splice_of_step document step)

pub step_keeps : (document : DocumentState) (step : EditStep) → IsSound document → HasEffect document step → Keeps document step
step_keeps document (Insert symbols) h made = (
  record { some = made; is_place = IsPlaceOf-moved_out (lines document.text) document.ranges document.cursor Forward h.ranges h.cursor; allowed = tt },
  outside-moved_out (lines document.text) document.ranges document.cursor Forward h.ranges,
)
step_keeps document (Remove from to) h made =
    let text = document.text in
    let ranges = document.ranges in
    let wide = widened ranges from to in
    let widens = IsWidened-widened (lines text) ranges from to h.ranges (up_to_from_index text from to made.0 made.1 (omega (arith, made.2))) in
    let start = IsPlaceOf-moved_out (lines text) ranges from Backward h.ranges made.0 in
    let stop = IsPlaceOf-moved_out (lines text) ranges to Forward h.ranges made.1 in
    let ordered = widened_ordered text from to wide made.0 made.1 start stop widens.starts widens.ends made.2 in (
      removal_fits text wide.0 wide.1 start stop ordered,
      subst (TakesWhole ranges wide.0) (between_ends text wide.0 wide.1 start stop (omega (arith, ordered))) widens.whole,
    )
step_keeps document RemoveBefore h made =
    let text = document.text in
    let cursor = document.cursor in
    let index = cursor_index document - 1 in
    let next : index + 1 ≡ cursor_index document = omega (arith, made.1) in
    let at = symbol_at text index (omega (arith, made.1, index_within text cursor h.cursor)) in
    let start = place_of text index in
    let ends : cursor ≡ end start (take 1 (drop index text)) = sym (place_of-index text cursor h.cursor) ∙ ap (place_of text) (sym next) ∙ at.ends in
    let occurs : OccursAt text start (at.symbol ∷ []) = ap (λ n. take 1 (drop n text)) at.index_is ∙ at.symbol_is in (
      symbol_removal_fits text index at,
      subst (TakesWhole document.ranges start) ends
          (before_by text document.ranges cursor start at.symbol h.ranges made.0 at.is_place occurs (ends ∙ ap (end start) at.symbol_is)),
    )
step_keeps document RemoveAfter h made =
    let text = document.text in
    let index = cursor_index document in
    let at = symbol_at text index (omega (arith, made.1, index_within text document.cursor h.cursor)) in
    let start = place_of text index in
    let none : range_at_place document.ranges start DeleteForward ≡ None = ap (λ p. range_at_place document.ranges p DeleteForward) (place_of-index text document.cursor h.cursor) ∙ made.0 in
    (symbol_removal_fits text index at, whole_after document.ranges start (end start (take 1 (drop index text))) at.symbol none (ap (end start) at.symbol_is))
step_keeps document RemoveBreak h made =
    let row = document.cursor.0 - 1 in
    let fits = break_removal_fits document.text row (omega (arith, made, h.cursor.0)) in
    (fits, whole_break document.text document.ranges (line_end (lines document.text) row) h.ranges fits)
