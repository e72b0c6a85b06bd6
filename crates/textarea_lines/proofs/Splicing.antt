-- The lines of a text after a splice: those that it touches are replaced, and all others unchanged.
use Rattle.std.proofs.lemmas.Grind.{common_steps}
use Rattle.std.proofs.Common.{◌≡◌, ℕ, ◌+◌, ◌-◌, ◌<◌, ◌≤◌, Bool, true, false, List, [], ◌∷◌, ◌++◌, length, take, drop, get_or, ap, refl, sym, ◌∙◌, arith}
use Rattle.std.proofs.Math.Seq.{drop-append-add, drop-append_seam, take-append_seam}
use Rattle.std.proofs.lemmas.List.{length-append, length-take-le}
use Rattle.textarea_text.specs.Place.{Place, IsPlaceOf, changed, end}
use Rattle.textarea_util.specs.Replaced.{replaced}
use Rattle.textarea_text.specs.Splice.{Splice, Allows, Fits, applied}
use Rattle.textarea_text.specs.Text.{Symbol, Character, Break, characters, lines, on_first}
use Rattle.textarea_text.specs.Touched.{breaks_of, new_line_count, replaced_line_count}
use Rattle.textarea_text.proofs.TextPlaces.{joined-lines}
use Rattle.textarea_util.proofs.Replacing.{length-replaced}
use Rattle.textarea_text.proofs.Splices.{lines-joined}
use Rattle.textarea_text.proofs.StringRows.{changed_by_none, rows_replaced, occurs_until}
use Rattle.textarea_text.proofs.Touching.{breaks_of-append, breaks_of-characters, end_row}

-- ---- items that are replaced

pub take-replaced : {X : Type 0} (items new : List X) (start count : ℕ) → start ≤ length items → take start (replaced items start count new) ≡ take start items
take-replaced items new start count within =
    grind (arith, common_steps, length-take-le start items within, take-append_seam (take start items) (new ++ drop (start + count) items))

after-replaced : {X : Type 0} (items new : List X) (start count : ℕ) → start ≤ length items → drop start (replaced items start count new) ≡ new ++ drop (start + count) items
after-replaced items new start count within =
    grind (arith, common_steps, length-take-le start items within, drop-append_seam (take start items) (new ++ drop (start + count) items))

pub drop-replaced : {X : Type 0} (items new : List X) (start count coming : ℕ) → start ≤ length items → length new ≡ coming → drop (start + coming) (replaced items start count new) ≡ drop (start + count) items
drop-replaced items new start count coming within long =
    grind (arith, common_steps, length-take-le start items within, drop-append-add (take start items) (new ++ drop (start + count) items) coming, drop-append_seam new (drop (start + count) items))

pub middle-replaced : {X : Type 0} (items new : List X) (start count coming : ℕ) → start ≤ length items → length new ≡ coming → take coming (drop start (replaced items start count new)) ≡ new
middle-replaced items new start count coming within long =
    grind (arith, common_steps, after-replaced items new start count within, take-append_seam new (drop (start + count) items))

-- ---- lines that a splice touches

-- the lines after a splice, which replace lines from its row on
pub record SplicesLines (text : List Symbol) (splice : Splice) : Type 0 where
  pub new : List (List ℕ)
  pub coming : length new ≡ new_line_count splice
  pub within : splice.place.0 + replaced_line_count splice ≤ length (lines text)
  pub lines_are : lines (applied text splice) ≡ replaced (lines text) splice.place.0 (replaced_line_count splice) new

-- a text has one line more than breaks
as_long : (c : ℕ) (rows : List (List ℕ)) (n : ℕ) → length rows ≡ n + 1 → length (on_first c rows) ≡ n + 1
as_long c [] n e = absurd (omega arith)
as_long c (line ∷ rest) n e = e

length-lines : (text : List Symbol) → length (lines text) ≡ breaks_of text + 1
length-lines [] = refl
length-lines (Character c ∷ text) = as_long c (lines text) (breaks_of text) (length-lines text)
length-lines (Break ∷ text) = omega (arith, length-lines text)

-- between two positions of the text
lines_between :
    (text : List Symbol) (start to : Place) (symbols : List Symbol) → IsPlaceOf (lines text) start → IsPlaceOf (lines text) to
    → (new : List (List ℕ)) × (length new ≡ breaks_of symbols + 1) × (lines (changed text start to symbols) ≡ take start.0 (lines text) ++ (new ++ drop (to.0 + 1) (lines text)))
lines_between text start to symbols h h' =
    let rows = lines text in
    let head = characters (take start.1 (get_or rows start.0 [])) in
    let tail = characters (drop to.1 (get_or rows to.0 [])) in
    let middle = head ++ (symbols ++ tail) in
    let new = lines middle in
    let long : length new ≡ breaks_of symbols + 1 =
    omega (arith, length-lines middle, breaks_of-append head (symbols ++ tail), breaks_of-append symbols tail, breaks_of-characters (take start.1 (get_or rows start.0 [])), breaks_of-characters (drop to.1 (get_or rows to.0 []))) in
    let some : 0 < length new = omega arith in
    let whole = rows_replaced rows new start to symbols h h' (some, joined-lines middle) in
    let there : 0 < length (take start.0 rows ++ (new ++ drop (to.0 + 1) rows)) =
    omega (arith, length-append (take start.0 rows) (new ++ drop (to.0 + 1) rows), length-append new (drop (to.0 + 1) rows)) in
    (new, long, ap (λ t. lines (changed t start to symbols)) (sym (joined-lines text)) ∙ ap lines (sym whole) ∙ lines-joined (take start.0 rows ++ (new ++ drop (to.0 + 1) rows)) there)

spliced : (b : Bool) (text : List Symbol) (place : Place) (symbols : List Symbol) → IsPlaceOf (lines text) place → Allows b text place symbols
    → SplicesLines text (record { place = place; symbols = symbols; inserts = b })
spliced true text place symbols h allowed =
    let between = lines_between text place place symbols h h in
    record { new = between.0; coming = between.1; within = omega (arith, h.0); lines_are = between.2 }
spliced false text place symbols h allowed =
    let to = end place symbols in
    let there = occurs_until text place symbols h allowed in
    let between = lines_between text place to [] h there.0 in
    let row : to.0 + 1 ≡ place.0 + (breaks_of symbols + 1) = omega (arith, end_row place symbols) in
    record {
      new = between.0;
      coming = between.1;
      within = omega (arith, end_row place symbols, there.0.0);
      lines_are = ap lines (sym (changed_by_none text place to symbols [] h allowed refl refl)) ∙ between.2
          ∙ ap (λ n. take place.0 (lines text) ++ (between.0 ++ drop n (lines text))) row;
    }

pub splices_lines : (text : List Symbol) (splice : Splice) → Fits text splice → SplicesLines text splice
splices_lines text splice fits = spliced splice.inserts text splice.place splice.symbols fits.is_place fits.allowed

-- the number of lines after it
pub count_spliced : (text : List Symbol) (splice : Splice) → Fits text splice → length (lines (applied text splice)) ≡ length (lines text) - replaced_line_count splice + new_line_count splice
count_spliced text splice fits = grind (arith, common_steps, splices_lines text splice fits, length-replaced)
