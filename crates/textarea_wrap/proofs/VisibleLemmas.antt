-- Visible ASCII at the start of a text: each character is a byte and takes one column.
use Rattle.std.proofs.Common.{◌≡◌, ℕ, ◌+◌, ◌-◌, ◌*◌, ◌<◌, ◌≤◌, List, [], ◌∷◌, ◌++◌, length, length-drop, take, drop, slice_range, sym, ap, subst, ◌∙◌, arith, encode_utf8}
use Rattle.std.specs.Str.{IsAscii}
use Rattle.std.proofs.lemmas.List.Elements.{All-from_recursion}
use Rattle.std.proofs.lemmas.Str.{IsCharBoundary-from_take, IsUtf8-drop, IsUtf8-from_ascii, chars-IsAscii}
use Rattle.std.proofs.lemmas.Str.Ascii.{IsAscii-from_all}
use Rattle.unicode_width.specs.Width.{char_width}
use Rattle.textarea_wrap.proofs.Prelude.{IsUtf8-past_char, chars-append, chars-nil, chars_past_char, length-take-le, nat_tests, nil_from_length, take-add, take-append-drop}
use Rattle.textarea_wrap.specs.Prelude.{AllByRecursion, IsCharBoundary, IsUtf8, IsVisible, IsVisibleCount, chars, column_after, end_column}
use Rattle.textarea_util.proofs.Alls.{all_append}
use Rattle.textarea_wrap.proofs.ColumnLemmas.{end_column-append, shorter_after}

all_bytes : (bs : List ℕ) → AllByRecursion IsVisible bs → AllByRecursion (λ b. b < 128) bs
all_bytes [] h = tt
all_bytes (b ∷ bs) h = (omega (arith, h.0.1), all_bytes bs h.1)

pub visible-ascii : (bs : List ℕ) → AllByRecursion IsVisible bs → IsAscii bs
visible-ascii bs h = IsAscii-from_all bs (All-from_recursion (λ b. b < 128) bs (all_bytes bs h))

pub visible-column : (tab_len column c : ℕ) → IsVisible c → column_after tab_len column c ≡ column + 1
unfolding char_width
visible-column tab_len column c visible = let low = visible.0 in let high = visible.1 in grind (arith, nat_tests)

-- visible characters take one column each
pub visible-columns : (tab_len column : ℕ) (bs : List ℕ) → AllByRecursion IsVisible bs → end_column tab_len column bs ≡ column + length bs
visible-columns tab_len column [] h = omega arith
visible-columns tab_len column (b ∷ bs) h =
    omega (arith, visible-columns tab_len (column_after tab_len column b) bs h.1, visible-column tab_len column b h.0)

pub visible_further : (bytes text : List ℕ) (count more : ℕ) → AllByRecursion IsVisible (take count bytes) → text ≡ slice_range bytes count (count + more) →
    AllByRecursion IsVisible text → AllByRecursion IsVisible (take (count + more) bytes)
visible_further bytes text count more front is back =
    let size : count + more - count ≡ more = omega arith in
    subst (AllByRecursion IsVisible) (sym (take-add count more bytes))
    (all_append IsVisible (take count bytes) (take more (drop count bytes)) front (subst (AllByRecursion IsVisible) (is ∙ ap (λ n. take n (drop count bytes)) size) back))

-- a text after visible characters at its start
pub record IsPastVisible (text : List ℕ) (count : ℕ) : Type 0 where
  pub boundary : IsCharBoundary text count
  pub rest : IsUtf8 (drop count text)
  pub spelled : chars text ≡ take count text ++ chars (drop count text)

pub past_visible : (text : List ℕ) (count : ℕ) → IsUtf8 text → count ≤ length text → AllByRecursion IsVisible (take count text) → IsPastVisible text count
past_visible text count valid within visible =
    let ascii = visible-ascii (take count text) visible in
    let front = IsUtf8-from_ascii (take count text) ascii in
    let boundary = IsCharBoundary-from_take text count valid within front in
    record {
      boundary = boundary;
      rest = IsUtf8-drop text count valid boundary;
      spelled = ap chars (sym (take-append-drop count text)) ∙ chars-append (take count text) (drop count text) front ∙ ap (λ t. t ++ chars (drop count text)) (chars-IsAscii (take count text) ascii);
    }

-- From this column on, a text that is left ends where the whole text ends from its column on, and
-- a byte takes at most 255 columns.
pub record IsLeft (tab_len from : ℕ) (text : List ℕ) (column : ℕ) (rest : List ℕ) : Type 0 where
  pub valid : IsUtf8 rest
  pub end : end_column tab_len column (chars rest) ≡ end_column tab_len from (chars text)
  pub near : column + 255 * length rest ≤ from + 255 * length text
  pub after : from ≤ column

-- after visible characters
pub left_past : (tab_len from : ℕ) (text rest : List ℕ) (most count column : ℕ) → IsUtf8 text → IsVisibleCount text most count → rest ≡ drop count text → column ≡ from + count → IsLeft tab_len from text column rest
left_past tab_len from text rest most count column valid counted rest_is column_is =
    let past = past_visible text count valid counted.within counted.visible in
    let left = chars (drop count text) in
    let size : column ≡ end_column tab_len from (take count text) = omega (arith, visible-columns tab_len from (take count text) counted.visible, length-take-le count text counted.within, column_is) in
    record {
      valid = rw rest_is past.rest;
      end = ap (λ t. end_column tab_len column (chars t)) rest_is ∙ ap (λ n. end_column tab_len n left) size ∙ sym (end_column-append tab_len from (take count text) left) ∙ ap (end_column tab_len from) (sym past.spelled);
      near = omega (arith, ap length rest_is, length-drop count text, counted.within, column_is);
      after = omega (arith, column_is);
    }

-- after one character more
pub left_next : (tab_len from : ℕ) (text rest later : List ℕ) (column next c : ℕ) → IsLeft tab_len from text column rest → rest ≡ encode_utf8 c ++ later →
    next ≡ column_after tab_len column c → column ≤ next → next ≤ column + 255 → IsLeft tab_len from text next later
left_next tab_len from text rest later column next c left is next_is after near = record {
  valid = IsUtf8-past_char rest later c left.valid is;
  end = rw next_is (rw (chars_past_char rest later c left.valid is) at left.end);
  near = omega (arith, left.near, near, shorter_after c later rest is);
  after = omega (arith, left.after, after);
}

-- at the text's end
pub left_none : (tab_len from : ℕ) (text rest : List ℕ) (column : ℕ) → IsLeft tab_len from text column rest → length rest ≡ 0 → column ≡ end_column tab_len from (chars text)
left_none tab_len from text rest column left none = sym (ap (end_column tab_len column) (ap chars (nil_from_length rest none) ∙ chars-nil)) ∙ left.end
