-- What one splice wraps, or none, is what splices wrap that are made at once.
use Rattle.std.proofs.Common.{◌≡◌, ◌≢◌, ◌∙◌, ◌+◌, ◌-◌, ◌≤◌, ◌<◌, ℕ, zero, suc, Bool, true, false, cond, List, [], ◌∷◌, ◌++◌, length, map, take, drop, replicate, Option, None, Some, slice_get, refl, sym, ap, subst, arith}
use Rattle.std.specs.List.{range_with_len}
use Rattle.std.proofs.lemmas.List.{append-nil, drop-drop, drop-map, length-drop, length-map, length-take, length-take-le, take-append-drop}
use Rattle.std.proofs.lemmas.List.FromFn.{length-range_with_len, take-map-range_with_len}
use Rattle.std.proofs.lemmas.Bool.Decides.{nat_tests}
use Rattle.textarea_util.specs.Replaced.{replaced}
use Rattle.textarea_text.specs.Splice.{Splice}
use Rattle.textarea_text.specs.Text.{lines}
use Rattle.textarea_text.specs.Touched.{breaks_of, new_line_count, replaced_line_count}
use Rattle.textarea_lines.specs.Prelude.{RowsView, ticks_after, ticks_of}
use Rattle.textarea_lines.specs.AtOnce.{KeepsUntouched, WrapsAtOnce, WrapsTouchedOnce, line_origins, touched_count}
use Rattle.textarea_lines.specs.LineWraps.{KeepsOtherRows, WrapsForSplice, WrapsForSplices, WrapsTouchedLines, map_width}
use Rattle.textarea_lines.specs.TextLayout.{TextAndLayout, wrapping_of}
use Rattle.textarea_lines.specs.TextRows.{HasLayout}
use Rattle.textarea_screen_map.proofs.Layouts.{length-AreRowsOf}

-- lines that no splice touched, from this one on
abbrev kept_lines : ℕ → ℕ → List (Option ℕ)
kept_lines first count = map Some (range_with_len first count)

-- ---- the number of touched lines

none_touched : (first count : ℕ) → touched_count (kept_lines first count) ≡ 0
none_touched first zero = refl
none_touched first (suc count) = none_touched (first + 1) count

all_touched : (count : ℕ) → touched_count (replicate count None) ≡ count
all_touched zero = refl
all_touched (suc count) = omega (arith, all_touched count)

touched-append : (first second : List (Option ℕ)) → touched_count (first ++ second) ≡ touched_count first + touched_count second
touched-append [] second = omega arith
touched-append (Some line ∷ first) second = touched-append first second
touched-append (None ∷ first) second = omega (arith, touched-append first second)

rest_of_range : (first count size : ℕ) → drop size (range_with_len first count) ≡ range_with_len (first + size) (count - size)
rest_of_range first count zero =
    let same : first ≡ first + 0 = omega arith in
    let all : count ≡ count - 0 = omega arith in
    ap (λ n. range_with_len n count) same ∙ ap (range_with_len (first + 0)) all
rest_of_range first zero (suc size) =
    let none : 0 ≡ 0 - suc size = omega arith in
    ap (range_with_len (first + suc size)) none
rest_of_range first (suc count) (suc size) =
    let same : (first + 1) + size ≡ first + suc size = omega arith in
    let less : count - size ≡ suc count - suc size = omega arith in
    rest_of_range (first + 1) count size ∙ ap (λ n. range_with_len n (count - size)) same ∙ ap (range_with_len (first + suc size)) less

none_in_front : (first count size : ℕ) → touched_count (take size (kept_lines first count)) ≡ 0
none_in_front first count zero = refl
none_in_front first zero (suc size) = refl
none_in_front first (suc count) (suc size) = none_in_front (first + 1) count size

none_behind : (first count size : ℕ) → touched_count (drop size (kept_lines first count)) ≡ 0
none_behind first count size =
    ap touched_count (drop-map Some size (range_with_len first count) ∙ ap (map Some) (rest_of_range first count size)) ∙ none_touched (first + size) (count - size)

-- ---- which rows stay

keeps-append : (count : ℕ) (first second : List (Option ℕ)) (before one other : List RowsView) → KeepsUntouched count first before one
    → KeepsUntouched (count + touched_count first) second before other → KeepsUntouched count (first ++ second) before (one ++ other)
keeps-append count [] second before [] other h k = let same : count + 0 ≡ count = omega arith in subst (λ n. KeepsUntouched n second before other) same k
keeps-append count [] second before (rows ∷ one) other h k = absurd h
keeps-append count (Some line ∷ first) second before [] other h k = absurd h
keeps-append count (None ∷ first) second before [] other h k = absurd h
keeps-append count (Some line ∷ first) second before (rows ∷ one) other h k = (h.0, keeps-append count first second before one other h.1 k)
keeps-append count (None ∷ first) second before (rows ∷ one) other h k =
    let same : count + (touched_count first + 1) ≡ (count + 1) + touched_count first = omega arith in
    (h.0, keeps-append (count + 1) first second before one other h.1 (subst (λ n. KeepsUntouched n second before other) same k))

kept : (count first : ℕ) (before rows : List RowsView) → ((i : ℕ) → i < length rows → slice_get before (first + i) ≡ slice_get rows i)
    → KeepsUntouched count (kept_lines first (length rows)) before rows
kept count first before [] same = tt
kept count first before (row ∷ rows) same =
    let here : first + 0 ≡ first = omega arith in (
      ap (slice_get before) (sym here) ∙ same 0 (omega arith),
      kept count (first + 1) before rows
          (λ i within. let on : (first + 1) + i ≡ first + suc i = omega arith in ap (slice_get before) on ∙ same (suc i) (omega (arith, within))),
    )

touched : (count size : ℕ) (before rows : List RowsView) → ticks_of rows ≡ ticks_after count size → KeepsUntouched count (replicate size None) before rows
touched count zero before [] ticks = tt
touched count zero before (row ∷ rows) ticks = absurd cc
touched count (suc size) before [] ticks = absurd cc
touched count (suc size) before (row ∷ rows) ticks =
    let here : row.tick ≡ count + 1 = cc in
    let later : ticks_of rows ≡ ticks_after (count + 1) size = cc in
    (here, touched (count + 1) size before rows later)

taken_at : {X : Type 0} (items : List X) (size i : ℕ) → i < size → slice_get (take size items) i ≡ slice_get items i
taken_at [] zero i within = refl
taken_at [] (suc size) i within = refl
taken_at (item ∷ items) zero i within = absurd (omega (arith, within))
taken_at (item ∷ items) (suc size) zero within = refl
taken_at (item ∷ items) (suc size) (suc i) within = taken_at items size i (omega (arith, within))

dropped_at : {X : Type 0} (items : List X) (size i : ℕ) → slice_get (drop size items) i ≡ slice_get items (size + i)
dropped_at items zero i = let same : i ≡ 0 + i = omega arith in ap (slice_get items) same
dropped_at [] (suc size) i = refl
dropped_at (item ∷ items) (suc size) i =
    let same : suc (size + i) ≡ suc size + i = omega arith in
    dropped_at items size i ∙ ap (slice_get (item ∷ items)) same

one_keeps : (count row removed_lines coming : ℕ) (before after : List RowsView) → 0 < coming → take row after ≡ take row before → drop (row + coming) after ≡ drop (row + removed_lines) before
    → ticks_of (take coming (drop row after)) ≡ ticks_after count coming
    → KeepsUntouched count (replaced (kept_lines 0 (length before)) row removed_lines (replicate coming None)) before after
one_keeps count row removed_lines coming before after some above below ticks =
    let all = length before in
    let middle = take coming (drop row after) in
    let end = row + removed_lines in
    let long : length middle ≡ coming = sym (length-map middle (λ (r : RowsView). r.tick)) ∙ ap length ticks ∙ length-range_with_len (count + 1) coming in
    let reaches : row < length after = grind (arith, nat_tests, long, some, length-take coming (drop row after), length-drop row after) in
    let as_many : length (take row before) ≡ row = sym (ap length above) ∙ length-take-le row after (omega (arith, reaches)) in
    let within : row ≤ all = grind (arith, nat_tests, as_many, length-take row before) in
    let parts : take row before ++ (middle ++ drop end before) ≡ after =
    ap (λ (b : List RowsView). take row before ++ (middle ++ b)) (sym below)
    ∙ ap (λ (b : List RowsView). take row before ++ (middle ++ b)) (sym (drop-drop coming row after))
    ∙ ap (λ (b : List RowsView). take row before ++ b) (take-append-drop coming (drop row after))
    ∙ ap (λ (b : List RowsView). b ++ drop row after) (sym above)
    ∙ take-append-drop row after in
    let front : take row (kept_lines 0 all) ≡ kept_lines 0 (length (take row before)) = take-map-range_with_len Some 0 all row within ∙ ap (kept_lines 0) (sym as_many) in
    let back : drop end (kept_lines 0 all) ≡ kept_lines end (length (drop end before)) =
    let same : 0 + end ≡ end = omega arith in
    drop-map Some end (range_with_len 0 all) ∙ ap (map Some) (rest_of_range 0 all end) ∙ ap (λ n. kept_lines n (all - end)) same ∙ ap (kept_lines end) (sym (length-drop end before)) in
    let first = kept count 0 before (take row before) (λ i inside. let here : 0 + i ≡ i = omega arith in ap (slice_get before) here ∙ sym (taken_at before row i (omega (arith, inside, as_many)))) in
    let last = kept (count + coming) end before (drop end before) (λ i inside. sym (dropped_at before end i)) in
    let none : count + touched_count (kept_lines 0 (length (take row before))) ≡ count = omega (arith, none_touched 0 (length (take row before))) in
    let more : count + touched_count (replicate coming None) ≡ count + coming = omega (arith, all_touched coming) in
    subst (KeepsUntouched count (replaced (kept_lines 0 all) row removed_lines (replicate coming None)) before) parts
    (subst (λ (o : List (Option ℕ)). KeepsUntouched count (o ++ (replicate coming None ++ drop end (kept_lines 0 all))) before (take row before ++ (middle ++ drop end before))) (sym front)
    (subst (λ (o : List (Option ℕ)). KeepsUntouched count (kept_lines 0 (length (take row before)) ++ (replicate coming None ++ o)) before (take row before ++ (middle ++ drop end before))) (sym back)
    (keeps-append count (kept_lines 0 (length (take row before))) (replicate coming None ++ kept_lines end (length (drop end before))) before (take row before) (middle ++ drop end before) first
    (subst (λ n. KeepsUntouched n (replicate coming None ++ kept_lines end (length (drop end before))) before (middle ++ drop end before)) (sym none)
    (keeps-append count (replicate coming None) (kept_lines end (length (drop end before))) before middle (drop end before) (touched count coming before middle ticks)
    (subst (λ n. KeepsUntouched n (kept_lines end (length (drop end before))) before (drop end before)) (sym more) last))))))

-- ---- the lines of one splice, and of none

new_lines : (splice : Splice) → 0 < new_line_count splice
new_lines splice = by splice.inserts
  where
    by : (inserts : Bool) → 0 < cond inserts (breaks_of splice.symbols + 1) 1
    by true = omega arith
    by false = omega arith

line_count : (text_layout : TextAndLayout) (rows : List RowsView) → HasLayout text_layout rows → length rows ≡ length (lines text_layout.text)
line_count text_layout rows h = length-AreRowsOf (wrapping_of text_layout) (lines text_layout.text) rows h.text_layout

touches_once : (old new : TextAndLayout) (splice : Splice) → WrapsTouchedLines old splice new → WrapsTouchedOnce old (splice ∷ []) new
touches_once old new splice h =
    let all = length (lines old.text) in
    let row = splice.place.0 in
    let end = row + replaced_line_count splice in
    let coming = new_line_count splice in
    let front = take row (kept_lines 0 all) in
    let back = drop end (kept_lines 0 all) in
    let own = replicate {A = Option ℕ} coming None in
    let sum : coming ≡ touched_count (front ++ (own ++ back)) =
    omega (arith, touched-append front (own ++ back), touched-append own back, none_in_front 0 all row, none_behind 0 all end, all_touched coming) in
    record {
      count = h.count ∙ ap (λ n. old.layout.count + n) sum;
      rows = λ before after was is.
          let keeps = h.rows before after was is in
          subst (λ n. KeepsUntouched old.layout.count (line_origins n (splice ∷ [])) before after) (line_count old before was)
          (one_keeps old.layout.count row (replaced_line_count splice) coming before after (new_lines splice) keeps.above keeps.below keeps.touched);
    }

pub wraps_one : (old new : TextAndLayout) (splice : Splice) → WrapsForSplice old splice new → WrapsAtOnce old (splice ∷ []) new
wraps_one old new splice h = record {
  text = h.text;
  settings = h.settings;
  same_width = λ same. touches_once old new splice (h.same_width same);
  other_width = h.other_width;
}

-- a text with its layout has only one list of right rows
abbrev pub OneList : Type 0
OneList = (text_layout : TextAndLayout) (rows others : List RowsView) → HasLayout text_layout rows → HasLayout text_layout others → rows ≡ others

wraps_none : OneList → (text_layout : TextAndLayout) → WrapsAtOnce text_layout [] text_layout
wraps_none one text_layout =
    let count = text_layout.layout.count in
    let all = length (lines text_layout.text) in
    record {
      text = refl;
      settings = refl;
      same_width = λ same. record {
        count = omega (arith, none_touched 0 all);
        rows = λ before after was is.
            subst (λ n. KeepsUntouched count (kept_lines 0 n) before after) (line_count text_layout after is)
            (subst (λ (b : List RowsView). KeepsUntouched count (kept_lines 0 (length after)) b after) (one text_layout after before is was)
            (kept count 0 after after (λ i inside. let here : 0 + i ≡ i = omega arith in ap (slice_get after) here)));
      };
      other_width = λ other. absurd (other refl);
    }

pub wraps_few : OneList → (old new : TextAndLayout) (splices : List Splice) → length splices ≤ 1 → WrapsForSplices old splices new → WrapsAtOnce old splices new
wraps_few one old new [] few h = subst (λ (t : TextAndLayout). WrapsAtOnce old [] t) (sym h) (wraps_none one old)
wraps_few one old new (splice ∷ []) few h = subst (λ (t : TextAndLayout). WrapsAtOnce old (splice ∷ []) t) (sym h.2) (wraps_one old h.0 splice h.1)
wraps_few one old new (splice ∷ other ∷ splices) few h = absurd (omega (arith, few))
