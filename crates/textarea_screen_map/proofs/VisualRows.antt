-- The visual rows of all lines, each found by its line and its index there.
use Rattle.std.proofs.lemmas.Grind.{common_steps}
use Rattle.std.proofs.Common.{◌≡◌, ℕ, zero, suc, ◌+◌, ◌-◌, ◌<◌, ◌≤◌, inl, inr, true, false, nat_eq, Bool, List, [], ◌∷◌, length, take, drop, get_or, sym, ap, refl, ◌∙◌, arith, encode_utf8_all, String, string_bytes}
use Rattle.std.proofs.lemmas.Bool.{cases_lt}
use Rattle.std.proofs.lemmas.List.{get_or-append-add, get_or_append_left, length-append, length-map}
use Rattle.std.proofs.lemmas.Bool.Decides.{nat_tests}
use Rattle.std.proofs.lemmas.Str.{length-le-encodes}
use Rattle.std.specs.Str.{IsUtf8, chars}
use Rattle.textarea_util.specs.Limit.{size_limit}
use Rattle.textarea_text.specs.Place.{Place, IsPlaceOf}
use Rattle.textarea_text.specs.Text.{characters_of, lines_of}
use Rattle.textarea_text.proofs.Columns.{offset_in}
use Rattle.textarea_wrap.specs.Columns.{display_end_column}
use Rattle.textarea_wrap.specs.RowsView.{RowsView}
use Rattle.textarea_wrap.specs.WrapResult.{IsRowRange}
use Rattle.textarea_screen_map.specs.declared.layout.Wrapping.{Wrapping}
use Rattle.textarea_screen_map.specs.LineRows.{AreRowsOf}
use Rattle.textarea_blocks.specs.Sums.{ranges_at, range_at, row_total}
use Rattle.textarea_screen_map.specs.VisualRows.{VisualRow, rows_of_line, rows_from, visual_rows, row_at}
use Rattle.textarea_screen_map.specs.VisualPositions.{IsVisualPosition}
use Rattle.textarea_screen_map.proofs.Holding.{bytes_of_line, wrapped_at, holds_offset, range_is, rows_at, some_bytes, some_rows}
use Rattle.textarea_screen_map.proofs.Layouts.{length-AreRowsOf}
use Rattle.textarea_screen_map.proofs.RowSlices.{RowSlice, characters_between, column_before, column_from, column_to, row_slice_of, row_within}

-- the row has this index in its line
pub record IsNumbered (row : VisualRow) (number : ℕ) (line : List ℕ) (ranges : List (ℕ × ℕ)) (k : ℕ) : Type 0 where
  pub line_is : row.line ≡ number
  pub start_is : row.start ≡ (range_at ranges k).0
  pub first_is : row.first ≡ length (chars (take (range_at ranges k).0 (encode_utf8_all line)))
  pub text_is : row.text ≡ chars (take ((range_at ranges k).1 - (range_at ranges k).0) (drop (range_at ranges k).0 (encode_utf8_all line)))
  pub last : k + 1 ≡ length ranges → row.is_last ≡ true
  pub more : k + 1 < length ranges → row.is_last ≡ false

row_of_line : (number : ℕ) (line : List ℕ) (ranges : List (ℕ × ℕ)) (k : ℕ) (d : VisualRow) → k < length ranges → IsNumbered (get_or (rows_of_line number line ranges) k d) number line ranges k
row_of_line number line [] k d h = absurd (omega arith)
row_of_line number line (r ∷ []) zero d h = record { line_is = refl; start_is = refl; first_is = refl; text_is = refl; last = λ _. refl; more = λ m. absurd (omega (arith, m)) }
row_of_line number line (r ∷ []) (suc k) d h = absurd (omega arith)
row_of_line number line (r ∷ s ∷ ranges) zero d h = record { line_is = refl; start_is = refl; first_is = refl; text_is = refl; last = λ e. absurd (omega (arith, e)); more = λ _. refl }
row_of_line number line (r ∷ s ∷ ranges) (suc k) d h =
    let found = row_of_line number line (s ∷ ranges) k d (omega arith) in
    record {
      line_is = found.line_is;
      start_is = found.start_is;
      first_is = found.first_is;
      text_is = found.text_is;
      last = λ e. found.last (omega (arith, e));
      more = λ m. found.more (omega (arith, m));
    }

length-rows_of_line : (number : ℕ) (line : List ℕ) (ranges : List (ℕ × ℕ)) → length (rows_of_line number line ranges) ≡ length ranges
length-rows_of_line number line [] = refl
length-rows_of_line number line (r ∷ []) = refl
length-rows_of_line number line (r ∷ s ∷ ranges) = ap suc (length-rows_of_line number line (s ∷ ranges))

length-rows_from : (w : Wrapping) (m : ℕ) (lines : List (List ℕ)) (rows : List RowsView) → AreRowsOf w lines rows → length (rows_from m lines rows) ≡ row_total rows
length-rows_from w m [] [] h = refl
length-rows_from w m [] (r ∷ rows) h = absurd h
length-rows_from w m (line ∷ lines) [] h = absurd h
length-rows_from w m (line ∷ lines) (r ∷ rows) h =
    omega (arith, length-append (rows_of_line m line r.ranges) (rows_from (m + 1) lines rows), length-rows_of_line m line r.ranges, length-rows_from w (m + 1) lines rows h.1)

pub row_count : (w : Wrapping) (lines : List (List ℕ)) (rows : List RowsView) → AreRowsOf w lines rows → length (visual_rows lines rows) ≡ row_total rows
unfolding visual_rows
row_count w lines rows h = length-rows_from w 0 lines rows h

row_of_lines :
    (w : Wrapping) (m : ℕ) (lines : List (List ℕ)) (rows : List RowsView) (i k : ℕ) (d : VisualRow) → AreRowsOf w lines rows → i < length lines → k < length (ranges_at rows i)
    → IsNumbered (get_or (rows_from m lines rows) (row_total (take i rows) + k) d) (m + i) (get_or lines i []) (ranges_at rows i) k
row_of_lines w m [] rows i k d h within there = absurd (omega arith)
row_of_lines w m (line ∷ lines) [] i k d h within there = absurd h
row_of_lines w m (line ∷ lines) (r ∷ rows) zero k d h within there =
    let here = rows_of_line m line r.ranges in
    let index : 0 + k ≡ k = omega arith in
    let number : m + 0 ≡ m = omega arith in
    rw (number, index, get_or_append_left here (rows_from (m + 1) lines rows) d k (omega (arith, there, length-rows_of_line m line r.ranges))) (row_of_line m line r.ranges k d there)
row_of_lines w m (line ∷ lines) (r ∷ rows) (suc i) k d h within there =
    let here = rows_of_line m line r.ranges in
    let later = rows_from (m + 1) lines rows in
    let index : length r.ranges + row_total (take i rows) + k ≡ length here + (row_total (take i rows) + k) = omega (arith, length-rows_of_line m line r.ranges) in
    let number : m + suc i ≡ m + 1 + i = omega arith in
    rw (number, index, get_or-append-add here later (row_total (take i rows) + k) d) (row_of_lines w (m + 1) lines rows i k d h.1 (omega arith) there)

pub row_numbered :
    (w : Wrapping) (lines : List (List ℕ)) (rows : List RowsView) (i k : ℕ) → AreRowsOf w lines rows → i < length lines
    → k < length (ranges_at rows i) → IsNumbered (row_at lines rows (row_total (take i rows) + k)) i (get_or lines i []) (ranges_at rows i) k
unfolding row_at visual_rows
row_numbered w lines rows i k h within there =
    let none : VisualRow = record { line = 0; start = 0; first = 0; text = []; is_last = true } in
    let number : 0 + i ≡ i = omega arith in
    rw number at (row_of_lines w 0 lines rows i k none h within there)

-- the line of a visual row, and the row's index there
pub record IsRowOfLine (rows : List RowsView) (row : ℕ) : Type 0 where
  pub line : ℕ
  pub number : ℕ
  pub within : line < length rows
  pub there : number < length (ranges_at rows line)
  pub row_is : row ≡ row_total (take line rows) + number

pub line_of : (rows : List RowsView) (row : ℕ) → row < row_total rows → IsRowOfLine rows row
line_of [] row h = absurd (omega arith)
line_of (r ∷ rows) row h =
    elim (cases_lt row (length r.ranges)) [
      | inl here ↦ record { line = 0; number = row; within = omega arith; there = here; row_is = omega arith }
      | inr later ↦
          let found = line_of rows (row - length r.ranges) (omega (arith, later)) in
          record { line = suc found.line; number = found.number; within = omega (arith, found.within); there = found.there; row_is = omega (arith, later, found.row_is) }
    ]

-- a visual row as a range of its line
pub record IsRowSlice (lines : List (List ℕ)) (rows : List RowsView) (row : ℕ) : Type 0 where
  pub line : ℕ
  pub number : ℕ
  pub within : line < length lines
  pub there : number < length (ranges_at rows line)
  pub row_is : row ≡ row_total (take line rows) + number
  pub line_is : (row_at lines rows row).line ≡ line
  pub sliced : RowSlice (get_or lines line []) (range_at (ranges_at rows line) number)
  pub first_is : (row_at lines rows row).first ≡ length sliced.front
  pub size_is : length (row_at lines rows row).text ≡ length sliced.text
  pub last : number + 1 ≡ length (ranges_at rows line) → (row_at lines rows row).is_last ≡ true
  pub more : number + 1 < length (ranges_at rows line) → (row_at lines rows row).is_last ≡ false

pub row_slice : (w : Wrapping) (lines : List (List ℕ)) (rows : List RowsView) (row : ℕ) → AreRowsOf w lines rows → row < length (visual_rows lines rows) → IsRowSlice lines rows row
row_slice w lines rows row h below =
    let found = line_of rows row (omega (arith, below, row_count w lines rows h)) in
    let within : found.line < length lines = omega (arith, found.within, length-AreRowsOf w lines rows h) in
    let line = get_or lines found.line [] in
    let ranges = ranges_at rows found.line in
    let number : IsNumbered (row_at lines rows row) found.line line ranges found.number = rw (← found.row_is) at (row_numbered w lines rows found.line found.number h within found.there) in
    let p : RowSlice line (range_at ranges found.number) =
    row_slice_of line (range_at ranges found.number) (rows_at w lines rows found.line h within).characters (range_is _ _ _ _ ranges found.number (wrapped_at w lines rows found.line h within) found.there) in
    record {
      line = found.line;
      number = found.number;
      within = within;
      there = found.there;
      row_is = found.row_is;
      line_is = number.line_is;
      sliced = p;
      first_is = number.first_is ∙ ap length (sym p.front_is);
      size_is = ap length (number.text_is ∙ sym p.text_is);
      last = number.last;
      more = number.more;
    }

-- Facts about a visual row: its line exists and contains its characters, whose number is limited,
-- and a row that isn't its line's last is not empty.
pub record IsRowOfLines (lines : List (List ℕ)) (row : VisualRow) : Type 0 where
  pub within : row.line < length lines
  pub inside : row.first + length row.text ≤ length (get_or lines row.line [])
  pub short : row.first + length row.text < size_limit
  pub some : row.is_last ≡ false → 0 < length row.text

some_from_bytes : (cs : List ℕ) → 0 < length (encode_utf8_all cs) → 0 < length cs
some_from_bytes [] h = absurd (omega arith)
some_from_bytes (c ∷ cs) h = omega arith

-- a row that isn't its line's last is followed by another
more_rows : (is_last : Bool) (number size : ℕ) → number < size → (number + 1 ≡ size → is_last ≡ true) → is_last ≡ false → number + 1 < size
more_rows is_last number size there last e =
    elim (cases_lt (number + 1) size) [ inl more ↦ more | inr most ↦ absurd (cc (last (omega (arith, there, most)), e)) ]

row_of_slice : (w : Wrapping) (lines : List (List ℕ)) (rows : List RowsView) (row : ℕ) (p : IsRowSlice lines rows row) → AreRowsOf w lines rows → IsRowOfLines lines (row_at lines rows row)
row_of_slice w lines rows row p h =
    let line = get_or lines p.line [] in
    let ranges = ranges_at rows p.line in
    let stored = row_within line (range_at ranges p.number) p.sliced in
    record {
      within = omega (arith, p.within, p.line_is);
      inside = omega (arith, stored, ap (λ (n : ℕ). length (get_or lines n [])) p.line_is, p.first_is, p.size_is);
      short = omega (arith, stored, p.first_is, p.size_is, length-le-encodes line, (rows_at w lines rows p.line h p.within).short);
      some = λ e.
          let more = more_rows _ p.number (length ranges) p.there p.last e in
          omega (arith, p.size_is, some_from_bytes p.sliced.text (omega (arith, p.sliced.text_bytes, some_bytes _ _ _ _ ranges p.number (wrapped_at w lines rows p.line h p.within) more)));
    }

pub row_of : (w : Wrapping) (lines : List (List ℕ)) (rows : List RowsView) (row : ℕ) → AreRowsOf w lines rows → row < length (visual_rows lines rows) → IsRowOfLines lines (row_at lines rows row)
row_of w lines rows row h below = row_of_slice w lines rows row (row_slice w lines rows row h below) h

pub rows_below : (rows : List RowsView) (i k : ℕ) → i < length rows → k < length (ranges_at rows i) → row_total (take i rows) + k < row_total rows
rows_below [] i k within there = absurd (omega arith)
rows_below (r ∷ rows) zero k within there = omega arith
rows_below (r ∷ rows) (suc i) k within there = omega (arith, rows_below rows i k (omega arith) there)

-- a position is in the last row of its line that begins at or before its offset
pub visual_in :
    (w : Wrapping) (lines : List (List ℕ)) (rows : List RowsView) (place : Place) (k offset column : ℕ) (slice : List ℕ) → AreRowsOf w lines rows
    → IsPlaceOf lines place → k < length (ranges_at rows place.0) → (range_at (ranges_at rows place.0) k).0 ≤ offset
    → (k + 1 < length (ranges_at rows place.0) → offset < (range_at (ranges_at rows place.0) (k + 1)).0)
    → offset ≡ offset_in (get_or lines place.0 []) place.1 → offset ≤ length (encode_utf8_all (get_or lines place.0 [])) → IsUtf8 slice
    → slice ≡ take (offset - (range_at (ranges_at rows place.0) k).0) (drop (range_at (ranges_at rows place.0) k).0 (encode_utf8_all (get_or lines place.0 [])))
    → column ≡ display_end_column w.tab_len 0 (chars slice) → IsVisualPosition w.tab_len lines rows place (record { row = row_total (take place.0 rows) + k; column = column })
visual_in w lines rows place k offset column slice h is_place there from next offset_is short valid slice_is column_is =
    let line = get_or lines place.0 [] in
    let ranges = ranges_at rows place.0 in
    let range = range_at ranges k in
    let row = row_total (take place.0 rows) + k in
    let wrapped = wrapped_at w lines rows place.0 h is_place.0 in
    let p = row_slice_of line range (rows_at w lines rows place.0 h is_place.0).characters (range_is _ _ _ _ ranges k wrapped there) in
    let stored = holds_offset _ _ _ _ ranges k offset wrapped short there from next in
    let number = row_numbered w lines rows place.0 k h is_place.0 there in
    let first_same : (row_at lines rows row).first ≡ length p.front = number.first_is ∙ ap length (sym p.front_is) in
    let text_same : (row_at lines rows row).text ≡ p.text = number.text_is ∙ sym p.text_is in
    let size : length (row_at lines rows row).text ≡ length p.text = ap length text_same in
    let after : length p.front ≤ place.1 = column_from line range p place.1 is_place.1 (omega (arith, from, offset_is)) in
    let before : place.1 ≤ length p.front + length p.text = column_to line range p place.1 is_place.1 (omega (arith, stored.to, offset_is)) in
    let spelled : chars slice ≡ take (place.1 - length p.front) p.text =
    characters_between line range p place.1 slice after before valid (slice_is ∙ ap (λ (n : ℕ). take (n - range.0) (drop range.0 (encode_utf8_all line))) offset_is) in
    record {
      row = omega (arith, rows_below rows place.0 k (omega (arith, is_place.0, length-AreRowsOf w lines rows h)) there, row_count w lines rows h);
      holds = record {
        line = sym number.line_is;
        from = omega (arith, after, first_same);
        to = omega (arith, before, first_same, size);
        before_next = λ e.
            let more = more_rows _ k (length ranges) there number.last e in
            omega (arith, first_same, size, column_before line range p place.1 (omega (arith, offset_is, stored.before_next more)));
      };
      column = rw (column_is, spelled, first_same, text_same);
    }

-- ---- a visual row as in the code

pub row_displayed :
    (row : VisualRow) (line start first : ℕ) (text : List ℕ) (is_last : Bool) → line ≡ row.line → start ≡ row.start → first ≡ row.first
    → text ≡ row.text → is_last ≡ row.is_last → record { line = line; start = start; first = first; text = text; is_last = is_last } ≡ row
row_displayed row line start first text is_last l s f t e = rw (l, s, f, t, e) refl

pub record IsTextOfRow (row : VisualRow) (line number : ℕ) (ranges : List (ℕ × ℕ)) (text : List ℕ) : Type 0 where
  pub placed : IsRowRange text (range_at ranges number)
  pub short : length text < size_limit
  pub line_is : line ≡ row.line
  pub start_is : (range_at ranges number).0 ≡ row.start
  pub first_is : length (chars (take (range_at ranges number).0 text)) ≡ row.first
  pub text_is : chars (take ((range_at ranges number).1 - (range_at ranges number).0) (drop (range_at ranges number).0 text)) ≡ row.text
  pub last_is : nat_eq (number + 1) (length ranges) ≡ row.is_last

last_row : (v : VisualRow) (number size : ℕ) → number < size → (number + 1 ≡ size → v.is_last ≡ true) → (number + 1 < size → v.is_last ≡ false) → nat_eq (number + 1) size ≡ v.is_last
last_row v number size there last more =
    elim (cases_lt (number + 1) size) [
      | inl less ↦ let e = more less in grind (arith, nat_tests)
      | inr most ↦ let same : number + 1 ≡ size = omega (arith, there, most) in let e = last same in grind (arith, nat_tests)
    ]

pub text_of_row :
    (w : Wrapping) (lines : List (List ℕ)) (rows : List RowsView) (line number : ℕ) (ranges : List (ℕ × ℕ)) (text : List ℕ) → AreRowsOf w lines rows
    → line < length lines → number < length (ranges_at rows line) → ranges ≡ ranges_at rows line → text ≡ encode_utf8_all (get_or lines line [])
    → IsTextOfRow (row_at lines rows (row_total (take line rows) + number)) line number ranges text
text_of_row w lines rows line number ranges text h within there ranges_is text_is =
    let wrapped = wrapped_at w lines rows line h within in
    let numbered = row_numbered w lines rows line number h within there in
    rw (text_is, ranges_is) record {
      placed = range_is _ _ _ _ (ranges_at rows line) number wrapped there;
      short = (rows_at w lines rows line h within).short;
      line_is = sym numbered.line_is;
      start_is = sym numbered.start_is;
      first_is = sym numbered.first_is;
      text_is = sym numbered.text_is;
      last_is = last_row (row_at lines rows (row_total (take line rows) + number)) number (length (ranges_at rows line)) there numbered.last numbered.more;
    }

-- the same in the borrowed lines
pub record IsFoundRow {Z : Type 0} (items : List (String Z)) (rows : List RowsView) (line number : ℕ) (ranges : List (ℕ × ℕ)) (text : List ℕ) : Type 0 where
  pub within : line < length items
  pub there : number < length ranges
  pub text_is : IsTextOfRow (row_at (lines_of items) rows (row_total (take line rows) + number)) line number ranges text
  pub bytes : text ≡ encode_utf8_all (get_or (lines_of items) line [])

pub found_row :
    {Z : Type 0} (w : Wrapping) (items : List (String Z)) (rows : List RowsView) (line number : ℕ) (ranges : List (ℕ × ℕ)) (item : String Z) (text : List ℕ)
    → AreRowsOf w (lines_of items) rows → line < length rows → number < length (ranges_at rows line) → ranges ≡ ranges_at rows line
    → item ≡ get_or items line item → text ≡ string_bytes item → IsFoundRow items rows line number ranges text
found_row w items rows line number ranges item text h line_within there ranges_is read same =
    let in_lines : line < length (lines_of items) = omega (arith, line_within, length-AreRowsOf w (lines_of items) rows h) in
    let within : line < length items = omega (arith, in_lines, length-map items characters_of) in
    let bytes = bytes_of_line items line item text within read same in
    record {
      within = within;
      there = omega (arith, there, ap length ranges_is);
      text_is = text_of_row w (lines_of items) rows line number ranges text h in_lines there ranges_is bytes;
      bytes = bytes;
    }

-- ---- the row before and the row after

pub rows_before_next : (rows : List RowsView) (i : ℕ) → row_total (take (i + 1) rows) ≡ row_total (take i rows) + length (ranges_at rows i)
rows_before_next [] i = grind (arith, common_steps)
rows_before_next (r ∷ rows) zero = omega arith
rows_before_next (r ∷ rows) (suc i) =
    let step : suc i + 1 ≡ suc (i + 1) = omega arith in
    omega (arith, rows_before_next rows i, ap (λ n. row_total (take n (r ∷ rows))) step)

pub some_of_line : (w : Wrapping) (lines : List (List ℕ)) (rows : List RowsView) (i : ℕ) → AreRowsOf w lines rows → i < length lines → 0 < length (ranges_at rows i)
some_of_line w lines rows i h within = some_rows _ _ _ _ _ (wrapped_at w lines rows i h within)
