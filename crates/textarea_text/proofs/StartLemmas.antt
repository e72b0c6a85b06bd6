-- The byte offset of a column, found by counting the bytes that begin characters.
use Rattle.std.proofs.Common.{true, ◌≡◌, ℕ, ◌+◌, ◌-◌, ◌<◌, ◌≤◌, List, length, min, sym, ap, subst, refl, ◌∙◌, arith, slice_index_or, take, drop, encode_utf8_all}
use Rattle.textarea_util.proofs.Characters.{length-chars}
use Rattle.textarea_text.proofs.Prelude.{common_steps, take_all, take-take, length-take, length-append, take-add, encodes-append, encodes-chars}
use Rattle.textarea_text.specs.Prelude.{char_count, is_char_start, chars, IsCharBoundary, IsUtf8}
use Rattle.textarea_text.proofs.CharCounts.{begins-ascii, begins-wide, char_count-append, char_count-encodes, char_count-is, char_count-le-length, char_count-more, char_count-parts}
use Rattle.textarea_text.proofs.Columns.{IsCharBoundary-column, length_split, offset_in, take_offset}

-- the characters that begin in a run of bytes
pub char_count-run : (bs : List ℕ) (at n end : ℕ) → at + n ≡ end → char_count (take end bs) ≡ char_count (take at bs) + char_count (take n (drop at bs))
char_count-run bs at n end e =
    subst (λ k. char_count (take k bs) ≡ char_count (take at bs) + char_count (take n (drop at bs))) e
    (ap char_count (take-add at n bs) ∙ char_count-append (take at bs) (take n (drop at bs)))

-- at most one for each byte
pub char_count-run-le : (bs : List ℕ) (at n : ℕ) → char_count (take n (drop at bs)) ≤ n
char_count-run-le bs at n = omega (arith, char_count-le-length (take n (drop at bs)), length-take n (drop at bs))

-- at most as many characters begin in the front of a text as in all of it
pub count_within : (bs : List ℕ) (at : ℕ) → char_count (take at bs) ≤ char_count bs
count_within bs at = omega (arith, char_count-parts bs (take at bs) (drop at bs) at refl refl)

-- past a byte that begins a character there is one more
more_starts : (bs : List ℕ) (i j : ℕ) → i < j → j ≤ length bs → is_char_start (slice_index_or bs i 0) ≡ true → char_count (take i bs) + 1 ≤ char_count (take j bs)
more_starts bs i j later within start =
    grind (arith, common_steps, char_count-more bs i 1 true (omega arith) (sym start) refl, char_count-parts (take j bs) (take (i + 1) bs) (drop (i + 1) (take j bs)) (i + 1) (sym (take-take (i + 1) j bs (omega arith))) refl)

-- two bytes that begin characters, or ends, are one if as many characters begin before them
same_start : (bs : List ℕ) (i j : ℕ) → i ≤ length bs → j ≤ length bs →
    (i < length bs → is_char_start (slice_index_or bs i 0) ≡ true) → (j < length bs → is_char_start (slice_index_or bs j 0) ≡ true) →
    char_count (take i bs) ≡ char_count (take j bs) → i ≡ j
same_start bs i j i_within j_within i_starts j_starts same =
    grind (arith, common_steps, more_starts)

starts_at : (bs : List ℕ) (i : ℕ) → IsCharBoundary bs i → i < length bs → is_char_start (slice_index_or bs i 0) ≡ true
starts_at bs i boundary within =
    grind (arith, common_steps, begins-ascii, begins-wide)

-- the characters before a column, counted by their bytes
count_before : (bs : List ℕ) (column : ℕ) → IsUtf8 bs → char_count (take (offset_in (chars bs) column) bs) ≡ min column (char_count bs)
count_before bs column text =
    ap char_count (take_offset bs column text) ∙ char_count-encodes (take column (chars bs)) ∙ length-take column (chars bs) ∙ ap (min column) (sym (char_count-is bs text))

pub offset_by_count : (bs : List ℕ) (found column : ℕ) → IsUtf8 bs → found ≤ length bs →
    (found < length bs → is_char_start (slice_index_or bs found 0) ≡ true) → char_count (take found bs) ≡ min column (char_count bs) → found ≡ offset_in (chars bs) column
offset_by_count bs found column text within starts counted =
    same_start bs found (offset_in (chars bs) column) within (omega (arith, length_split bs column text)) starts
    (starts_at bs (offset_in (chars bs) column) (IsCharBoundary-column bs column text)) (counted ∙ sym (count_before bs column text))

-- a column past the end, whose line's characters are fewer than its bytes
pub offset_past : (bs : List ℕ) (column : ℕ) → IsUtf8 bs → length bs ≤ column → length bs ≡ offset_in (chars bs) column
offset_past bs column text past =
    sym (ap length (encodes-chars bs text)) ∙ ap (λ cs. length (encode_utf8_all cs)) (sym (take_all column (chars bs) (omega (arith, length-chars bs text))))

-- an offset in what follows another column
pub offset_further : (cs : List ℕ) (from column : ℕ) → from ≤ column → offset_in cs column ≡ offset_in cs from + offset_in (drop from cs) (column - from)
offset_further cs from column ordered =
    grind (arith, common_steps, take-add from (column - from) cs, encodes-append, length-append)
