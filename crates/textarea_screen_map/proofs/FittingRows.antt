-- The greatest column of a cursor in a row, if grapheme clusters fit the width and in general.
use Rattle.std.proofs.lemmas.Grind.{common_steps}
use Rattle.std.proofs.Common.{◌≡◌, ◌≢◌, ℕ, zero, suc, ◌+◌, ◌-◌, ◌^◌, ◌<◌, ◌≤◌, inl, inr, max, Bool, true, false, List, [], ◌∷◌, ◌++◌, length, take, drop, get_or, sym, ap, refl, ◌∙◌, arith, subst, encode_utf8_all, if◌then◌else◌}
use Rattle.std.proofs.lemmas.Bool.{cases_lt}
use Rattle.std.proofs.lemmas.List.{append_assoc, drop_at, length-append, length-take, take_at}
use Rattle.std.specs.List.{concat}
use Rattle.std.specs.Str.{IsUtf8, chars}
use Rattle.textarea_wrap.specs.Columns.{end_column}
use Rattle.textarea_wrap.specs.WrapRules.{ranges_from}
use Rattle.textarea_wrap.specs.Fitting.{HasFittingClusters, HaveFittingClusters}
use Rattle.textarea_wrap.specs.RowsView.{RowsView}
use Rattle.textarea_wrap.specs.declared.wrap.WrapMode.TheVariants as mode
use Rattle.textarea_wrap.proofs.FewestRowLemmas.{length-ranges_from}
use Rattle.textarea_wrap.proofs.FittingLemmas.{end_column-few, last_within, row_within, rows_within}
use Rattle.textarea_screen_map.specs.declared.layout.Wrapping.{Wrapping}
use Rattle.textarea_screen_map.specs.LineRows.{AreRowsOf}
use Rattle.textarea_blocks.specs.Sums.{range_at, ranges_at, row_total}
use Rattle.textarea_screen_map.specs.VisualRows.{VisualRow, column_at, greatest_column, row_at, row_width}
use Rattle.textarea_screen_map.proofs.Holding.{wrapped_at, rows_at}
use Rattle.textarea_screen_map.proofs.Layouts.{length-AreRowsOf}
use Rattle.textarea_screen_map.proofs.VisualRows.{IsNumbered, line_of, row_count, row_numbered, row_of}
use Rattle.textarea_util.proofs.Alls.{all_at}

abbrev bytes_between : List ℕ → ℕ × ℕ → List ℕ
bytes_between line range = take (range.1 - range.0) (drop range.0 line)

-- the bytes of a row are those of its text
row_bytes : (front : List ℕ) (texts : List (List ℕ)) (line : List ℕ) (k : ℕ) → line ≡ front ++ concat texts → k < length texts → bytes_between line (range_at (ranges_from (length front) texts) k) ≡ get_or texts k []
row_bytes front [] line k e h = absurd (omega arith)
row_bytes front (text ∷ texts) line zero e h = grind (arith, common_steps, drop_at front (text ++ concat texts) (length front), take_at)
row_bytes front (text ∷ texts) line (suc k) e h =
    subst (λ n. bytes_between line (range_at (ranges_from n texts) k) ≡ get_or texts k []) (length-append front text)
    (row_bytes (front ++ text) texts line k (e ∙ sym (append_assoc front text (concat texts))) (omega arith))

-- ---- the greatest column of a row

greatest_of_last : (t n : ℕ) (row : VisualRow) → row.is_last ≡ true → row_width t row ≤ n → greatest_column t row ≤ n
greatest_of_last t n row e h = rw e h

greatest_of_other : (t n : ℕ) (row : VisualRow) → row.is_last ≡ false → column_at t row.text (length row.text - 1) ≤ n → greatest_column t row ≤ n
greatest_of_other t n row e h = rw e h

some_tab : (t : ℕ) → 0 < t → t ≡ max t 1
some_tab t h = omega (arith, h)

module _ (w : Wrapping) (lines : List (List ℕ)) (rows : List RowsView) (h : AreRowsOf w lines rows) where
  -- for lines that are wrapped, whose clusters fit the width
  pub greatest_within : (row : ℕ) → w.mode ≢ mode.None → 0 < w.tab_len → HaveFittingClusters w.tab_len (max w.width 1) lines → row < row_total rows → greatest_column w.tab_len (row_at lines rows row) ≤ max w.width 1
  greatest_within row wraps tabs all below =
      let found = line_of rows row below in
      let inside : found.line < length lines = omega (arith, found.within, length-AreRowsOf w lines rows h) in
      let line = get_or lines found.line [] in
      let ranges = ranges_at rows found.line in
      let number : IsNumbered (row_at lines rows row) found.line line ranges found.number = rw (← found.row_is) at (row_numbered w lines rows found.line found.number h inside found.there) in
      let wrapped = wrapped_at w lines rows found.line h inside in
      let valid : IsUtf8 (encode_utf8_all line) = (line, ((rows_at w lines rows found.line h inside).characters, refl)) in
      let fitting = all_at (λ l. HasFittingClusters w.tab_len (max w.width 1) (encode_utf8_all l)) lines found.line [] all inside in
      let within = rows_within w.mode w.tab_len (max w.width 1) (encode_utf8_all line) wrapped.texts wraps valid fitting wrapped.wrapped in
      let size : length ranges ≡ length wrapped.texts = ap length wrapped.ranges_are ∙ length-ranges_from 0 wrapped.texts in
      let text = get_or wrapped.texts found.number [] in
      let text_is : (row_at lines rows row).text ≡ chars text =
      number.text_is ∙ ap (λ r. chars (bytes_between (encode_utf8_all line) (range_at r found.number))) wrapped.ranges_are
      ∙ ap chars (row_bytes [] wrapped.texts (encode_utf8_all line) found.number (sym wrapped.joined) (omega (arith, found.there, size))) in
      let tab = some_tab w.tab_len tabs in
      elim (cases_lt (found.number + 1) (length ranges)) [
        | inl more ↦
            greatest_of_other w.tab_len (max w.width 1) (row_at lines rows row) (number.more more)
            (subst (λ cs. column_at w.tab_len cs (length cs - 1) ≤ max w.width 1) (sym text_is)
            (subst (λ t. end_column t 0 (take (length (chars text) - 1) (chars text)) ≤ max w.width 1) tab
            (row_within w.tab_len (max w.width 1) wrapped.texts found.number within (omega (arith, more, size)))))
        | inr most ↦
            let last : found.number + 1 ≡ length ranges = omega (arith, most, found.there) in
            greatest_of_last w.tab_len (max w.width 1) (row_at lines rows row) (number.last last)
            (subst (λ cs. end_column (max w.tab_len 1) 0 cs ≤ max w.width 1) (sym text_is)
            (subst (λ t. end_column t 0 (chars text) ≤ max w.width 1) tab
            (last_within w.tab_len (max w.width 1) wrapped.texts found.number within (last ∙ size))))
      ]

  -- in general: a line has fewer than 2^48 bytes
  pub greatest_few : (row : ℕ) → w.tab_len < 2 ^ 8 → row < row_total rows → greatest_column w.tab_len (row_at lines rows row) < 2 ^ 56
  greatest_few row tabs below =
      let text = (row_at lines rows row).text in
      let short = (row_of w lines rows row h (omega (arith, below, row_count w lines rows h))).short in
      let tab : max w.tab_len 1 < 2 ^ 8 = omega (arith, tabs) in
      let whole = end_column-few (max w.tab_len 1) text tab in
      let segment = end_column-few (max w.tab_len 1) (take (length text - 1) text) tab in
      let size = length-take (length text - 1) text in
      elim ((row_at lines rows row).is_last) as (λ (b : Bool). (if b then row_width w.tab_len (row_at lines rows row) else column_at w.tab_len text (length text - 1)) < 2 ^ 56) [
        | true ↦ omega (arith, whole, short)
        | false ↦ omega (arith, segment, size, short)
      ]
