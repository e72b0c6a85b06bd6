-- Rows of lines, split and joined.
use Rattle.std.proofs.lemmas.Grind.{common_steps}
use Rattle.std.proofs.Common.{map, ap₂, ◌≡◌, ℕ, zero, suc, ◌+◌, ◌<◌, max, List, [], ◌∷◌, ◌++◌, length, take, drop, get_or, ap, refl, subst, sym, ◌∙◌, arith, encode_utf8_all, String, string_bytes}
use Rattle.std.proofs.lemmas.List.{append_assoc, length-map, map-append, take_more}
use Rattle.std.proofs.lemmas.Str.{encodes-chars, scalars-chars, IsUtf8-string_bytes}
use Rattle.std.specs.List.{range_with_len}
use Rattle.std.specs.Str.{IsUtf8, all_scalars, chars}
use Rattle.textarea_util.specs.Limit.{size_limit}
use Rattle.textarea_text.specs.Text.{characters_of, lines_of}
use Rattle.textarea_text.proofs.StringRows.{line_at}
use Rattle.textarea_wrap.specs.Marks.{marks_of}
use Rattle.textarea_wrap.specs.RowsView.{RowsView}
use Rattle.textarea_wrap.specs.WrapResult.{IsWrapped}
use Rattle.textarea_wrap.specs.declared.wrap.WrapMode.TheVariants as mode
use Rattle.textarea_screen_map.specs.declared.layout.Wrapping.{Wrapping}
use Rattle.textarea_screen_map.proofs.Holding.{bytes_of_line}
use Rattle.textarea_screen_map.specs.LineRows.{AreRowsOf, AreRowsOfLine, ticks_after, ticks_of}
use Rattle.textarea_util.specs.Replaced.{replaced}

pub AreRowsOf-append : (w : Wrapping) (lines more : List (List ℕ)) (rows others : List RowsView) → AreRowsOf w lines rows → AreRowsOf w more others → AreRowsOf w (lines ++ more) (rows ++ others)
AreRowsOf-append w [] more [] others h k = k
AreRowsOf-append w [] more (r ∷ rows) others h k = absurd h
AreRowsOf-append w (line ∷ lines) more [] others h k = absurd h
AreRowsOf-append w (line ∷ lines) more (r ∷ rows) others h k = (h.0, AreRowsOf-append w lines more rows others h.1 k)

pub AreRowsOf-take : (w : Wrapping) (n : ℕ) (lines : List (List ℕ)) (rows : List RowsView) → AreRowsOf w lines rows → AreRowsOf w (take n lines) (take n rows)
AreRowsOf-take w zero lines rows h = tt
AreRowsOf-take w (suc n) [] [] h = tt
AreRowsOf-take w (suc n) [] (r ∷ rows) h = absurd h
AreRowsOf-take w (suc n) (line ∷ lines) [] h = absurd h
AreRowsOf-take w (suc n) (line ∷ lines) (r ∷ rows) h = (h.0, AreRowsOf-take w n lines rows h.1)

pub AreRowsOf-drop : (w : Wrapping) (n : ℕ) (lines : List (List ℕ)) (rows : List RowsView) → AreRowsOf w lines rows → AreRowsOf w (drop n lines) (drop n rows)
AreRowsOf-drop w zero lines rows h = h
AreRowsOf-drop w (suc n) [] [] h = tt
AreRowsOf-drop w (suc n) [] (r ∷ rows) h = absurd h
AreRowsOf-drop w (suc n) (line ∷ lines) [] h = absurd h
AreRowsOf-drop w (suc n) (line ∷ lines) (r ∷ rows) h = AreRowsOf-drop w n lines rows h.1

pub length-AreRowsOf : (w : Wrapping) (lines : List (List ℕ)) (rows : List RowsView) → AreRowsOf w lines rows → length rows ≡ length lines
length-AreRowsOf w [] [] h = refl
length-AreRowsOf w [] (r ∷ rows) h = absurd h
length-AreRowsOf w (line ∷ lines) [] h = absurd h
length-AreRowsOf w (line ∷ lines) (r ∷ rows) h = ap suc (length-AreRowsOf w lines rows h.1)

-- some lines and their rows are replaced
pub AreRowsOf-replaced :
    (w : Wrapping) (lines new : List (List ℕ)) (rows others : List RowsView) (start count : ℕ) → AreRowsOf w lines rows → AreRowsOf w new others
    → AreRowsOf w (replaced lines start count new) (replaced rows start count others)
AreRowsOf-replaced w lines new rows others start count h k =
    AreRowsOf-append w (take start lines) (new ++ drop (start + count) lines) (take start rows) (others ++ drop (start + count) rows) (AreRowsOf-take w start lines rows h)
    (AreRowsOf-append w new (drop (start + count) lines) others (drop (start + count) rows) k (AreRowsOf-drop w (start + count) lines rows h))

-- one line more
pub AreRowsOf-more :
    {Z : Type 0} (w : Wrapping) (before : List (List ℕ)) (items : List (String Z)) (i : ℕ) (line : String Z) (text : List ℕ) (rows : List RowsView) (wrapped : RowsView)
    → i < length items → line ≡ get_or items i line → text ≡ string_bytes line → AreRowsOf w (before ++ take i (lines_of items)) rows
    → IsWrapped w.mode w.tab_len (max w.width 1) text wrapped.ranges → wrapped.marks ≡ marks_of text wrapped.ranges → length text < size_limit
    → AreRowsOf w (before ++ take (i + 1) (lines_of items)) (rows ++ wrapped ∷ [])
AreRowsOf-more w before items i line text rows wrapped within read same h k marked short =
    let bytes = bytes_of_line items i line text within read same in
    let here : AreRowsOfLine w (get_or (lines_of items) i []) wrapped =
    record {
      characters = ap all_scalars (line_at items i line within read) ∙ scalars-chars (string_bytes line) (IsUtf8-string_bytes line);
      short = omega (arith, short, ap length bytes);
      wrapped = rw bytes at k;
      marked = marked ∙ ap (λ t. marks_of t wrapped.ranges) bytes;
    } in
    rw (take_more (lines_of items) i [] (omega (arith, length-map items characters_of)), ← append_assoc)
    (AreRowsOf-append w (before ++ take i (lines_of items)) (get_or (lines_of items) i [] ∷ []) rows (wrapped ∷ []) h (here, tt))

-- the rows of one line, given by its bytes
pub AreRowsOfLine-text : (w : Wrapping) (text : List ℕ) (wrapped : RowsView) → IsUtf8 text → IsWrapped w.mode w.tab_len (max w.width 1) text wrapped.ranges → wrapped.marks ≡ marks_of text wrapped.ranges
    → length text < size_limit → AreRowsOfLine w (chars text) wrapped
AreRowsOfLine-text w text wrapped u k marked short =
    let bytes : text ≡ encode_utf8_all (chars text) = sym (encodes-chars text u) in
    record {
      characters = scalars-chars text u;
      short = omega (arith, short, ap length bytes);
      wrapped = subst (λ t. IsWrapped w.mode w.tab_len (max w.width 1) t wrapped.ranges) bytes k;
      marked = marked ∙ ap (λ t. marks_of t wrapped.ranges) bytes;
    }

range_append : (first size more : ℕ) → range_with_len first size ++ range_with_len (first + size) more ≡ range_with_len first (size + more)
range_append first zero more = grind (arith, common_steps)
range_append first (suc size) more =
    let start : first + suc size ≡ first + 1 + size = omega arith in
    let sum : suc size + more ≡ suc (size + more) = omega arith in
    rw (start, sum, range_append (first + 1) size more)

-- some more calls
pub ticks_append : (count size more : ℕ) → ticks_after count size ++ ticks_after (count + size) more ≡ ticks_after count (size + more)
ticks_append count size more =
    let start : count + size + 1 ≡ count + 1 + size = omega arith in rw (start, range_append (count + 1) size more)

-- one line more
pub ticks_more :
    (before after : List RowsView) (wrapped : RowsView) (ticks : List ℕ) (count i : ℕ) → after ≡ before ++ wrapped ∷ []
    → ticks_of before ≡ ticks ++ ticks_after count i → wrapped.tick ≡ count + i + 1 → ticks_of after ≡ ticks ++ ticks_after count (i + 1)
ticks_more before after wrapped ticks count i is e tick =
    rw (is, map-append (λ (r : RowsView). r.tick) before (wrapped ∷ []), e, append_assoc, tick, ticks_append count i 1)

-- two maps of the same lines, when a line has one right list of rows
pub ranges_same :
    (w : Wrapping) (lines : List (List ℕ)) (rows others : List RowsView)
    → ((line : List ℕ) (ranges more : List (ℕ × ℕ)) → IsWrapped w.mode w.tab_len (max w.width 1) line ranges → IsWrapped w.mode w.tab_len (max w.width 1) line more → ranges ≡ more)
    → AreRowsOf w lines rows → AreRowsOf w lines others → map (λ (r : RowsView). r.ranges) rows ≡ map (λ (r : RowsView). r.ranges) others
ranges_same w [] [] [] one h k = refl
ranges_same w [] (r ∷ rows) others one h k = absurd h
ranges_same w [] [] (s ∷ others) one h k = absurd k
ranges_same w (line ∷ lines) [] others one h k = absurd h
ranges_same w (line ∷ lines) (r ∷ rows) [] one h k = absurd k
ranges_same w (line ∷ lines) (r ∷ rows) (s ∷ others) one h k =
    ap₂ ◌∷◌ (one (encode_utf8_all line) r.ranges s.ranges h.0.wrapped k.0.wrapped) (ranges_same w lines rows others one h.1 k.1)

-- without wrapping, the rows depend on neither the width nor the tab stops
pub whole_anyhow : (tab_len width other_tab_len other_width : ℕ) (line : List ℕ) (ranges : List (ℕ × ℕ)) → IsWrapped mode.None tab_len width line ranges → IsWrapped mode.None other_tab_len other_width line ranges
whole_anyhow tab_len width other_tab_len other_width [] ranges h =
    record { texts = h.texts; wrapped = h.wrapped; joined = h.joined; ranges_are = h.ranges_are; placed = h.placed }
whole_anyhow tab_len width other_tab_len other_width (b ∷ line) ranges h =
    record { texts = h.texts; wrapped = h.wrapped; joined = h.joined; ranges_are = h.ranges_are; placed = h.placed }

pub whole_anywhere : (w v : Wrapping) (lines : List (List ℕ)) (rows : List RowsView) → w.mode ≡ mode.None → v.mode ≡ mode.None → AreRowsOf w lines rows → AreRowsOf v lines rows
whole_anywhere w v [] [] e e' h = tt
whole_anywhere w v [] (r ∷ rows) e e' h = absurd h
whole_anywhere w v (line ∷ lines) [] e e' h = absurd h
whole_anywhere w v (line ∷ lines) (r ∷ rows) e e' h = (
  record { characters = h.0.characters; short = h.0.short; wrapped = rw e' (whole_anyhow w.tab_len (max w.width 1) v.tab_len (max v.width 1) (encode_utf8_all line) r.ranges (rw e at h.0.wrapped)); marked = h.0.marked },
  whole_anywhere w v lines rows e e' h.1,
)
