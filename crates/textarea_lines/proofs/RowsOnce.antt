-- The rows of lines that are wrapped once, by where they come from.
use Rattle.std.proofs.Common.{◌≡◌, ℕ, zero, suc, ◌+◌, ◌-◌, ◌<◌, ◌≤◌, List, [], ◌∷◌, ◌++◌, Option, Some, None, length, map, take, drop, get_or, max, chars, String, string_bytes, Result, Ok, Err, encode_utf8_all, ap, ap₂, refl, sym, subst, ◌∙◌, arith}
use Rattle.std.specs.List.{AllZip, slice_get}
use Rattle.std.proofs.lemmas.List.{length-map, map-append, take_all, take_more}
use Rattle.std.specs.Result.{IfOk, OnOk}
use Rattle.std.specs.Str.{IsUtf8}
use Rattle.std.proofs.Math.Seq.{take-add}
use Rattle.textarea_util.specs.Limit.{size_limit}
use Rattle.textarea_text.specs.Text.{characters_of, lines_of}
use Rattle.textarea_text.proofs.StringRows.{line_at}
use Rattle.textarea_wrap.specs.WrapResult.{IsWrapped}
use Rattle.textarea_wrap.specs.Marks.{marks_of}
use Rattle.textarea_wrap.specs.RowsView.{RowsView}
use Rattle.textarea_screen_map.specs.LineRows.{AreRowsOf, AreRowsOfLine, ticks_of}
use Rattle.textarea_screen_map.specs.Map.{MapView}
use Rattle.textarea_screen_map.specs.declared.layout.Wrapping.{Wrapping}
use Rattle.textarea_screen_map.proofs.Layouts.{AreRowsOf-append, AreRowsOfLine-text}
use Rattle.textarea_lines.specs.AtOnce.{KeepsUntouched, ticks_at_once, touched_count}
use Rattle.textarea_lines.specs.RowsAtOnce.{AreRowsAtOnce, HasOldRows, HaveOldRows}
use Rattle.textarea_lines.specs.TextLayout.{Origins}
use Rattle.textarea_lines.proofs.ComingLines.{ComesFrom, zip-at}
use Rattle.textarea_lines.proofs.OneList.{row_same}
use Rattle.textarea_lines.proofs.SplicedRows.{OneMap}

-- ---- old rows

-- the rows of a line
pub rows_there :
    (w : Wrapping) (lines : List (List ℕ)) (rows : List RowsView) (number : ℕ) (line : List ℕ) → AreRowsOf w lines rows → slice_get lines number ≡ Some line
    → (found : RowsView) × (slice_get rows number ≡ Some found) × AreRowsOfLine w line found
rows_there w [] rows number line h there = absurd cc
rows_there w (first ∷ lines) [] number line h there = absurd h
rows_there w (first ∷ lines) (r ∷ rows) zero line h there =
    let same : first ≡ line = cc in
    (r, refl, subst (λ (l : List ℕ). AreRowsOfLine w l r) same h.0)
rows_there w (first ∷ lines) (r ∷ rows) (suc number) line h there = rows_there w lines rows number line h.1 there

-- lines that come from old ones can keep their rows
pub have_old :
    (old : MapView) (before : List (List ℕ)) (origins : Origins) (now : List (List ℕ)) → AreRowsOf old.wrapping before old.rows
    → AllZip (ComesFrom before) origins now → HaveOldRows old origins now
have_old old before [] [] right h = tt
have_old old before [] (line ∷ now) right h = absurd h
have_old old before (origin ∷ origins) [] right h = absurd h
have_old old before (None ∷ origins) (line ∷ now) right h = (tt, have_old old before origins now right h.1)
have_old old before (Some number ∷ origins) (line ∷ now) right h = (rows_there old.wrapping before old.rows number line right h.0, have_old old before origins now right h.1)

-- ---- ticks and the count, of lines in two parts

pub touched-append : (one other : Origins) → touched_count (one ++ other) ≡ touched_count one + touched_count other
touched-append [] other = omega arith
touched-append (Some number ∷ one) other = touched-append one other
touched-append (None ∷ one) other = omega (arith, touched-append one other)

pub ticks-append : (ticks : List ℕ) (count : ℕ) (one other : Origins) → ticks_at_once ticks count (one ++ other) ≡ ticks_at_once ticks count one ++ ticks_at_once ticks (count + touched_count one) other
ticks-append ticks count [] other = ap (λ (n : ℕ). ticks_at_once ticks n other) (omega arith)
ticks-append ticks count (Some number ∷ one) other = ap (λ (t : List ℕ). get_or ticks number 0 ∷ t) (ticks-append ticks count one other)
ticks-append ticks count (None ∷ one) other =
    ap (λ (t : List ℕ). (count + 1) ∷ t)
    (ticks-append ticks (count + 1) one other ∙ ap (λ (n : ℕ). ticks_at_once ticks (count + 1) one ++ ticks_at_once ticks n other) (omega arith))

-- ---- rows of lines in two parts

pub no_rows : (old : MapView) (count : ℕ) → AreRowsAtOnce old count [] [] [] count
no_rows old count = record { rows = tt; ticks = refl; counted = omega arith }

pub rows-append :
    (old : MapView) (count between after : ℕ) (lines more : List (List ℕ)) (origins others : Origins) (rows next : List RowsView)
    → AreRowsAtOnce old count lines origins rows between → AreRowsAtOnce old between more others next after
    → AreRowsAtOnce old count (lines ++ more) (origins ++ others) (rows ++ next) after
rows-append old count between after lines more origins others rows next h k = record {
  rows = AreRowsOf-append old.wrapping lines more rows next h.rows k.rows;
  ticks = map-append (λ (r : RowsView). r.tick) rows next
      ∙ ap₂ ◌++◌ h.ticks (k.ticks ∙ ap (λ (n : ℕ). ticks_at_once (ticks_of old.rows) n others) h.counted)
      ∙ sym (ticks-append (ticks_of old.rows) count origins others);
  counted = omega (arith, h.counted, k.counted, touched-append origins others);
}

-- lines up to another one
pub rows-further :
    (old : MapView) (count between after from to : ℕ) (lines : List (List ℕ)) (origins : Origins) (rows next : List RowsView) → from ≤ to
    → AreRowsAtOnce old count (take from lines) (take from origins) rows between
    → AreRowsAtOnce old between (take (to - from) (drop from lines)) (take (to - from) (drop from origins)) next after
    → AreRowsAtOnce old count (take to lines) (take to origins) (rows ++ next) after
rows-further old count between after from to lines origins rows next ordered h k =
    let size : from + (to - from) ≡ to = omega (arith, ordered) in
    let lines_to : take from lines ++ take (to - from) (drop from lines) ≡ take to lines = sym (take-add from (to - from) lines) ∙ ap (λ (n : ℕ). take n lines) size in
    let origins_to : take from origins ++ take (to - from) (drop from origins) ≡ take to origins = sym (take-add from (to - from) origins) ∙ ap (λ (n : ℕ). take n origins) size in
    subst (λ (l : List (List ℕ)). AreRowsAtOnce old count l (take to origins) (rows ++ next) after) lines_to
    (subst (λ (o : Origins). AreRowsAtOnce old count (take from lines ++ take (to - from) (drop from lines)) o (rows ++ next) after) origins_to
    (rows-append old count between after (take from lines) (take (to - from) (drop from lines)) (take from origins) (take (to - from) (drop from origins)) rows next h k))

-- one line more
pub rows-more :
    {Z : Type 0} (old : MapView) (count between after i : ℕ) (items : List (String Z)) (line : String Z) (text : List ℕ) (origins : Origins) (rows : List RowsView) (next : RowsView)
    → length origins ≡ length items → i < length items → line ≡ get_or items i line → text ≡ string_bytes line
    → AreRowsAtOnce old count (take i (lines_of items)) (take i origins) rows between
    → AreRowsAtOnce old between (chars text ∷ []) (get_or origins i None ∷ []) (next ∷ []) after
    → AreRowsAtOnce old count (take (i + 1) (lines_of items)) (take (i + 1) origins) (rows ++ next ∷ []) after
rows-more old count between after i items line text origins rows next long within read same h k =
    let here : chars text ≡ get_or (lines_of items) i [] = ap chars same ∙ sym (line_at items i line within read) in
    let lines_to : take i (lines_of items) ++ chars text ∷ [] ≡ take (i + 1) (lines_of items) =
    ap (λ (l : List ℕ). take i (lines_of items) ++ l ∷ []) here ∙ sym (take_more (lines_of items) i [] (omega (arith, within, length-map items characters_of))) in
    let origins_to : take i origins ++ get_or origins i None ∷ [] ≡ take (i + 1) origins = sym (take_more origins i None (omega (arith, within, long))) in
    subst (λ (l : List (List ℕ)). AreRowsAtOnce old count l (take (i + 1) origins) (rows ++ next ∷ []) after) lines_to
    (subst (λ (o : Origins). AreRowsAtOnce old count (take i (lines_of items) ++ chars text ∷ []) o (rows ++ next ∷ []) after) origins_to
    (rows-append old count between after (take i (lines_of items)) (chars text ∷ []) (take i origins) (get_or origins i None ∷ []) rows (next ∷ []) h k))

-- all lines
pub whole :
    {Z : Type 0} (old : MapView) (count after i : ℕ) (items : List (String Z)) (origins : Origins) (rows : List RowsView) → length origins ≡ length items → length items ≤ i
    → AreRowsAtOnce old count (take i (lines_of items)) (take i origins) rows after → AreRowsAtOnce old count (lines_of items) origins rows after
whole old count after i items origins rows long past h =
    subst (λ (l : List (List ℕ)). AreRowsAtOnce old count l origins rows after) (take_all i (lines_of items) (omega (arith, past, length-map items characters_of)))
    (subst (λ (o : Origins). AreRowsAtOnce old count (take i (lines_of items)) o rows after) (take_all i origins (omega (arith, past, long))) h)

-- one line can keep the rows of the old one that it comes from
pub has_old :
    {Z : Type 0} (old : MapView) (items : List (String Z)) (origins : Origins) (i : ℕ) (line : String Z) (text : List ℕ) → length origins ≡ length items → i < length items
    → line ≡ get_or items i line → text ≡ string_bytes line → HaveOldRows old origins (lines_of items) → HasOldRows old (get_or origins i None) (chars text)
has_old old items origins i line text long within read same h =
    subst (λ (l : List ℕ). HasOldRows old (get_or origins i None) l) (line_at items i line within read ∙ sym (ap chars same))
    (zip-at (HasOldRows old) origins (lines_of items) i None [] h (omega (arith, within, long)))

-- a line that is wrapped
pub line_wrapped :
    {E : Type 0} (old : MapView) (count after : ℕ) (text : List ℕ) (origin : Option ℕ) (w : Wrapping) (r : Result RowsView E) → origin ≡ None → w ≡ old.wrapping → IsUtf8 text
    → IfOk r (λ rows. IsWrapped w.mode w.tab_len (max w.width 1) text rows.ranges) → IfOk r (λ rows. rows.marks ≡ marks_of text rows.ranges) → OnOk r (length text < size_limit)
    → after ≡ count + 1 → IfOk r (λ rows. rows.tick ≡ after) → IfOk r (λ rows. AreRowsAtOnce old count (chars text ∷ []) (origin ∷ []) (rows ∷ []) after)
line_wrapped old count after text origin w (Err e) none w_is u wrapped marked short counted tick = tt
line_wrapped old count after text origin w (Ok rows) none w_is u wrapped marked short counted tick =
    subst (λ (o : Option ℕ). AreRowsAtOnce old count (chars text ∷ []) (o ∷ []) (rows ∷ []) after) (sym none)
    (record {
      rows = (subst (λ (v : Wrapping). AreRowsOfLine v (chars text) rows) w_is (AreRowsOfLine-text w text rows u wrapped marked short), tt);
      ticks = ap (λ (t : ℕ). t ∷ []) (tick ∙ counted);
      counted = counted;
    })

-- ---- the rows that lines keep

-- a line has one list of rows
one_line : (one : OneMap) (w : Wrapping) (line : List ℕ) (rows other : RowsView) → AreRowsOfLine w line rows → AreRowsOfLine w line other → rows.tick ≡ other.tick → rows ≡ other
one_line one w line rows other h k tick =
    let ranges : map (λ (r : RowsView). r.ranges) (rows ∷ []) ≡ map (λ (r : RowsView). r.ranges) (other ∷ []) = one w (line ∷ []) (rows ∷ []) (other ∷ []) (h, tt) (k, tt) in
    let same : rows.ranges ≡ other.ranges = cc in
    row_same rows other same (h.marked ∙ ap (marks_of (encode_utf8_all line)) same ∙ sym k.marked) tick

tick_there : (rows : List RowsView) (number : ℕ) (found : RowsView) → slice_get rows number ≡ Some found → get_or (ticks_of rows) number 0 ≡ found.tick
tick_there [] number found there = absurd cc
tick_there (r ∷ rows) zero found there = let same : r ≡ found = cc in ap (λ (x : RowsView). x.tick) same
tick_there (r ∷ rows) (suc number) found there = tick_there rows number found there

pub keeps_untouched :
    (one : OneMap) (w : Wrapping) (old : List (List ℕ)) (before : List RowsView) (count : ℕ) (origins : Origins) (now : List (List ℕ)) (after : List RowsView)
    → AreRowsOf w old before → AllZip (ComesFrom old) origins now → AreRowsOf w now after → ticks_of after ≡ ticks_at_once (ticks_of before) count origins
    → KeepsUntouched count origins before after
keeps_untouched one w old before count [] [] [] right h k ticks = tt
keeps_untouched one w old before count [] [] (rows ∷ after) right h k ticks = absurd k
keeps_untouched one w old before count [] (line ∷ now) after right h k ticks = absurd h
keeps_untouched one w old before count (origin ∷ origins) [] after right h k ticks = absurd h
keeps_untouched one w old before count (origin ∷ origins) (line ∷ now) [] right h k ticks = absurd k
keeps_untouched one w old before count (None ∷ origins) (line ∷ now) (rows ∷ after) right h k ticks =
    let tick : rows.tick ≡ count + 1 = cc in
    let further : ticks_of after ≡ ticks_at_once (ticks_of before) (count + 1) origins = cc in
    (tick, keeps_untouched one w old before (count + 1) origins now after right h.1 k.1 further)
keeps_untouched one w old before count (Some number ∷ origins) (line ∷ now) (rows ∷ after) right h k ticks =
    let found = rows_there w old before number line right h.0 in
    let tick : rows.tick ≡ get_or (ticks_of before) number 0 = cc in
    let further : ticks_of after ≡ ticks_at_once (ticks_of before) count origins = cc in
    let same : found.0 ≡ rows = one_line one w line found.0 rows found.2 k.0 (sym (tick ∙ tick_there before number found.0 found.1)) in
    (found.1 ∙ ap Some same, keeps_untouched one w old before count origins now after right h.1 k.1 further)
