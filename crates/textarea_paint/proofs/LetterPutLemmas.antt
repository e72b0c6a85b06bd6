-- Letters that are put into the cells of a row at once.
use Rattle.std.proofs.Common.{◌≡◌, ◌⊎◌, inl, inr, ℕ, ◌+◌, ◌-◌, ◌*◌, ◌<◌, ◌≤◌, ◌==◌, min, nat_le, true, eqb, List, [], ◌∷◌, ◌++◌, length, map, refl, sym, ap, subst, ◌∙◌, arith}
use Rattle.std.proofs.Math.Nat.{suc-mul}
use Rattle.std.proofs.lemmas.Bool.{and_parts, eqb-true}
use Rattle.std.proofs.lemmas.Bool.Decides.{nat_tests}
use Rattle.std.proofs.lemmas.List.{length-append, map-append}
use Rattle.std.proofs.lemmas.List.Sums.{sum_by-cons}
use Rattle.std.proofs.lemmas.Str.{chars-encodes, scalars-chars}
use Rattle.std.specs.List.{AllByRecursion}
use Rattle.std.specs.Prelude.{encode_utf8, encode_utf8_all}
use Rattle.std.specs.Str.{all_scalars, chars, IsUtf8}
use Rattle.textarea_screen.specs.Buffer.{ArePut, characters_change, wide_change}
use Rattle.textarea_screen.specs.Cell.{CellView}
use Rattle.textarea_screen.specs.Rect.{contains}
use Rattle.textarea_screen.specs.declared.screen.rect.Rect.{Rect}
use Rattle.textarea_screen.specs.declared.screen.buffer.Buffer.{Buffer}
use Rattle.textarea_screen.specs.declared.screen.style.Style.{Style}
use Rattle.textarea_screen.proofs.ChangeLemmas.{Changes-as}
use Rattle.textarea_paint.specs.Cells.{IsColumnWithin, IsPenAt, is_room_at, place_from, placed_at, row_change}
use Rattle.textarea_paint.specs.Clusters.{Cluster, in_style, letter_clusters}
use Rattle.textarea_paint.specs.Columns.{columns_of}
use Rattle.textarea_paint.specs.Walk.{IsPartlyDrawn}
use Rattle.textarea_paint.specs.Letters.{AreLetters, IsLetter}
use Rattle.textarea_paint.specs.Row.{clusters_width}
use Rattle.textarea_paint.specs.declared.paint.cells.Pen.{Pen}
use Rattle.textarea_paint.specs.declared.paint.cells.RowCells.{RowCells}
use Rattle.textarea_paint.proofs.CellLemmas.{row_change-cons, row_change-nil, row_change-one}
use Rattle.textarea_paint.proofs.LetterLemmas.{columns-letter, front_scalars}
use Rattle.textarea_paint.proofs.SimpleLemmas.{first-scalar}

-- the clusters of letters
abbrev clusters_of : Style → List ℕ → List Cluster
clusters_of style letters = map (in_style style) (map encode_utf8 letters)

-- a pen with no hidden column
abbrev pub pen_at : ℕ → Pen
pen_at x = record { hidden = 0; x = x }

-- it moves to the right within the cells
pen-moved : (cells : RowCells) (left column x more : ℕ) → IsPenAt cells left column (pen_at x) → x + more ≤ cells.x + cells.width → IsPenAt cells left (column + more) (pen_at (x + more))
pen-moved cells left column x more at within = record {
  hidden = omega (arith, at.hidden);
  x = omega (arith, at.hidden, at.x, within);
}

split_all : (P : ℕ → Type 0) (front rest : List ℕ) → AllByRecursion P (front ++ rest) → AllByRecursion P front × AllByRecursion P rest
split_all P [] rest all = (tt, all)
split_all P (c ∷ front) rest all =
    let others = split_all P front rest all.1 in
    ((all.0, others.0), others.1)

tail-scalars : (c : ℕ) (cs : List ℕ) → all_scalars (c ∷ cs) ≡ true → all_scalars cs ≡ true
tail-scalars c cs scalars = grind (arith, nat_tests)

letters-width : (style : Style) (columns : ℕ) (letters : List ℕ) → AllByRecursion (IsLetter columns) letters → all_scalars letters ≡ true →
    clusters_width (clusters_of style letters) ≡ length letters * columns
letters-width style columns [] all scalars = omega arith
letters-width style columns (c ∷ letters) all scalars =
    let next = suc-mul (length letters) columns in
    omega (
      arith,
      next,
      sum_by-cons (λ (k : Cluster). columns_of k.text) (in_style style (encode_utf8 c)) (clusters_of style letters),
      columns-letter columns c (first-scalar c letters scalars) all.0,
      letters-width style columns letters all.1 (tail-scalars c letters scalars),
    )

pub whole : (columns width : ℕ) → width ≡ columns → true ≡ eqb columns width
whole columns width same = grind (arith, nat_tests)

-- letters are put as the row of them
letters-row : (cells : RowCells) (style : Style) (columns left column from : ℕ) (letters : List ℕ) → AllByRecursion (IsLetter columns) letters → all_scalars letters ≡ true →
    IsPenAt cells left column (pen_at from) → from + length letters * columns ≤ cells.x + cells.width → (x y : ℕ) (cell : CellView) →
    characters_change from cells.y columns letters style x y cell ≡ row_change cells left (place_from column (clusters_of style letters)) x y cell
letters-row cells style columns left column from [] all scalars at within x y cell = sym (row_change-nil cells left x y cell)
letters-row cells style columns left column from (c ∷ letters) all scalars at within x y cell =
    let cluster = in_style style (encode_utf8 c) in
    let next = suc-mul (length letters) columns in
    let width : columns_of (encode_utf8 c) ≡ columns = columns-letter columns c (first-scalar c letters scalars) all.0 in
    let put = wide_change from cells.y (from + columns) (encode_utf8 c) true style x y cell in
    let first : put ≡ row_change cells left (placed_at column cluster ∷ []) x y cell =
    ap (λ b. wide_change from cells.y (from + columns) (encode_utf8 c) b style x y cell) (whole columns (columns_of (encode_utf8 c)) width)
    ∙ row_change-one cells (pen_at from) left column 0 columns cluster at (record { left_of = omega arith; inside = omega (arith, width, next, within) }) x y cell in
    let moved : IsPenAt cells left (column + columns_of cluster.text) (pen_at (from + columns)) =
    subst (λ n. IsPenAt cells left (column + n) (pen_at (from + columns))) (sym width) (pen-moved cells left column from columns at (omega (arith, next, within))) in
    letters-row cells style columns left (column + columns_of cluster.text) (from + columns) letters all.1 (tail-scalars c letters scalars) moved (omega (arith, next, within)) x y put
    ∙ ap (row_change cells left (place_from (column + columns_of cluster.text) (clusters_of style letters)) x y) first
    ∙ row_change-cons cells left column cluster (clusters_of style letters) x y cell

-- what is known where a cluster is whole at the pen
pub record IsRoomAt (area : Rect) (cells : RowCells) (pen : Pen) (columns : ℕ) : Type 0 where
  pub hidden : pen.hidden ≡ 0
  pub room : columns ≤ min (cells.x + cells.width) (area.x + area.width) - pen.x
  pub inside : contains area pen.x cells.y ≡ true

pub room-at : (area : Rect) (cells : RowCells) (pen : Pen) (columns : ℕ) → is_room_at area cells pen columns ≡ true → IsRoomAt area cells pen columns
room-at area cells pen columns is =
    let none = and_parts (pen.hidden == 0) _ is in
    let others = and_parts (nat_le columns (min (cells.x + cells.width) (area.x + area.width) - pen.x)) (contains area pen.x cells.y) none.1 in
    record {
      hidden = eqb-true _ _ none.0;
      room = grind (arith, nat_tests, others.0);
      inside = others.1;
    }

chars-some : (text : List ℕ) → IsUtf8 text → 0 < length text → 0 < length (chars text)
chars-some text utf8 some = from utf8.0 utf8.1.1 (ap chars (sym utf8.1.1) ∙ chars-encodes utf8.0 utf8.1.0)
  where
    from : (cs : List ℕ) → encode_utf8_all cs ≡ text → chars text ≡ cs → 0 < length (chars text)
    from [] is are = absurd (omega (arith, ap length is, some))
    from (c ∷ cs) is are = omega (arith, ap length are)

-- letters take a column
pub some_columns : (columns : ℕ) (text : List ℕ) → IsUtf8 text → 0 < length text → AreLetters columns text → 0 < columns
some_columns columns text utf8 some letters = from utf8.0 utf8.1.1 (subst (AllByRecursion (IsLetter columns)) (ap chars (sym utf8.1.1) ∙ chars-encodes utf8.0 utf8.1.0) letters)
  where
    from : (cs : List ℕ) → encode_utf8_all cs ≡ text → AllByRecursion (IsLetter columns) cs → 0 < columns
    from [] is all = absurd (omega (arith, ap length is, some))
    from (c ∷ cs) is all = all.0.0

-- some are put
pub fewer-put : {from row to columns column : ℕ} {style : Style} {text rest : List ℕ} {old new : Buffer} → IsUtf8 text → 0 < length text →
    from + columns ≤ to → ArePut from row to columns style text rest column old new → length (chars rest) < length (chars text)
fewer-put {from} {row} {to} {columns} {column} {style} {text} {rest} utf8 some room put = by put.front refl put.all
  where
    counted : length (chars text) ≡ length put.front + length (chars rest)
    counted = ap length put.parts ∙ length-append put.front (chars rest)

    some_chars : 0 < length (chars text)
    some_chars = chars-some text utf8 some

    by : (front : List ℕ) → put.front ≡ front → (chars rest ≡ []) ⊎ (to < column + columns) → length (chars rest) < length (chars text)
    by front is (inl none) = omega (arith, some_chars, ap length none)
    by [] is (inr full) = absurd (omega (arith, full, room, put.end, ap (λ cs. length cs * columns) is))
    by (c ∷ front) is (inr full) = omega (arith, counted, ap length is)

-- letters that are put are a walk
pub walk-put : {cells : RowCells} {style : Style} {columns column to : ℕ} {pen : Pen} {text rest : List ℕ} {old new : Buffer} → IsUtf8 text → AreLetters columns text →
    pen.hidden ≡ 0 → IsColumnWithin cells pen.x → to ≤ cells.x + cells.width → ArePut pen.x cells.y to columns style text rest column old new →
    IsPartlyDrawn cells pen (pen_at column) (letter_clusters style text) (letter_clusters style rest) old new
walk-put {cells} {style} {columns} {column} {to} {pen} {text} {rest} {old} {new} utf8 letters hidden within room put =
    let none : pen ≡ pen_at pen.x = ap (λ n. record { hidden = n; x = pen.x }) hidden in
    let split = split_all (IsLetter columns) put.front (chars rest) (subst (AllByRecursion (IsLetter columns)) put.parts letters) in
    let scalars : all_scalars put.front ≡ true = front_scalars put.front (chars rest) (ap all_scalars (sym put.parts) ∙ scalars-chars text utf8) in
    let front = clusters_of style put.front in
    let width : clusters_width front ≡ length put.front * columns = letters-width style columns put.front split.0 scalars in
    let parts : letter_clusters style text ≡ front ++ letter_clusters style rest =
    ap (clusters_of style) put.parts ∙ ap (map (in_style style)) (map-append encode_utf8 put.front (chars rest)) ∙ map-append (in_style style) (map encode_utf8 put.front) (map encode_utf8 (chars rest)) in
    let inside : pen.x + length put.front * columns ≤ cells.x + cells.width = omega (arith, put.end, put.fits, room) in
    record {
      front = front;
      parts = parts;
      at = λ left start at.
          let moved = pen-moved cells left start pen.x (length put.front * columns) (subst (IsPenAt cells left start) none at) inside in
          subst (λ n. IsPenAt cells left (start + n) (pen_at column)) (sym width) (subst (λ n. IsPenAt cells left (start + length put.front * columns) (pen_at n)) (sym put.end) moved);
      drawn = λ left start at.
          Changes-as (row_change cells left (place_from start front)) put.written
          (letters-row cells style columns left start pen.x put.front split.0 scalars (subst (IsPenAt cells left start) none at) inside);
      within = (omega (arith, put.end, within.0), omega (arith, put.fits, room));
    }

-- the others are letters too
pub letters-put : {from row to columns column : ℕ} {style : Style} {text rest : List ℕ} {old new : Buffer} → AreLetters columns text → ArePut from row to columns style text rest column old new → AreLetters columns rest
letters-put {columns = columns} {rest = rest} letters put = (split_all (IsLetter columns) put.front (chars rest) (subst (AllByRecursion (IsLetter columns)) put.parts letters)).1
