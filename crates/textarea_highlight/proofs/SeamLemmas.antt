-- A walk over a row: the columns of the offsets on the way, and the seams among them.
use Rattle.std.proofs.Common.{◌≡◌, ℕ, zero, suc, ◌+◌, ◌-◌, ◌*◌, ◌<◌, ◌≤◌, Bool, true, ◌&&◌, List, [], ◌∷◌, ◌++◌, drop, take, length, get_or, slice_range, refl, sym, ap, subst, ◌∙◌, arith, IsUtf8, IsCharBoundary, encode_utf8}
use Rattle.std.specs.Char.{len_utf8}
use Rattle.std.specs.List.{list_all}
use Rattle.std.specs.Str.{chars}
use Rattle.std.proofs.lemmas.List.{append-nil, get_or-drop, get_or-take, length-drop, length-take, length-take-le}
use Rattle.std.proofs.Math.Seq.{take-append_seam}
use Rattle.std.proofs.lemmas.Str.{chars-nil, chars_past_char, IsCharBoundary-after_ascii, IsCharBoundary-past_char, IsUtf8-between, IsUtf8-drop, len_utf8_bounds, length-encode}
use Rattle.textarea_wrap.specs.Columns.{IsVisible, IsVisibleCount, end_column}
use Rattle.textarea_util.proofs.Alls.{all_at}
use Rattle.textarea_wrap.proofs.VisibleLemmas.{visible-column}
use Rattle.textarea_highlight.specs.Columns.{column_of}
use Rattle.textarea_highlight.specs.Plain.{is_plain}
use Rattle.textarea_highlight.specs.Seams.{AreVisible, BeginsPlain, BeginsWith, EndsPlain, IsColumnAt, IsSeam}
use Rattle.textarea_highlight.specs.Split.{segment_of}
use Rattle.textarea_highlight.specs.declared.highlight.seams.RowOffset.{RowOffset}
use Rattle.textarea_highlight.proofs.PlainLemmas.{begins_plain, ends_plain, visible-plain}
use Rattle.textarea_highlight.proofs.SplitLemmas.{column_to}
use Rattle.textarea_highlight.proofs.SpanLemmas.{visible-chars}
use Rattle.textarea_screen.proofs.BufferLemmas.{slice_range-one}

-- a text further
pub known_after : (row : List ℕ) (tab_len : ℕ) (at : RowOffset) (end column : ℕ) → IsUtf8 row → IsColumnAt row tab_len at → IsCharBoundary row end → at.offset ≤ end →
    column ≡ end_column tab_len at.column (segment_of row at.offset end) → column ≤ at.column + 255 * length (slice_range row at.offset end) →
    IsColumnAt row tab_len (record { offset = end; column = column })
known_after row tab_len at end column utf8 known boundary order is near = record {
  boundary = boundary;
  column = is ∙ ap (λ n. end_column tab_len n (segment_of row at.offset end)) known.column ∙ column_to tab_len row at.offset end utf8 order known.boundary boundary;
  near = omega (arith, near, known.near, order, length-take (end - at.offset) (drop at.offset row));
}

module _ (row : List ℕ) (at end c : ℕ) (utf8 : IsUtf8 row) (boundary : IsCharBoundary row at) (first : BeginsWith (drop at row) c) (is : end ≡ at + len_utf8 c) where
  pub end_of_first : IsCharBoundary row end
  end_of_first = subst (IsCharBoundary row) (sym is) (IsCharBoundary-past_char row first.0 at c boundary.0 (IsUtf8-drop row at utf8 boundary) first.1)

  bytes_of_first : slice_range row at end ≡ encode_utf8 c
  bytes_of_first =
      let size : end - at ≡ length (encode_utf8 c) = omega (arith, is, length-encode c) in
      ap (take (end - at)) first.1 ∙ ap (λ n. take n (encode_utf8 c ++ first.0)) size ∙ take-append_seam (encode_utf8 c) first.0

  pub segment_of_first : segment_of row at end ≡ c ∷ []
  segment_of_first =
      chars_past_char (slice_range row at end) [] c (IsUtf8-between row at end utf8 (omega (arith, is)) boundary end_of_first) (bytes_of_first ∙ sym (append-nil (encode_utf8 c)))
      ∙ ap (λ cs. c ∷ cs) chars-nil

  pub size_of_first : 1 ≤ length (slice_range row at end)
  size_of_first = omega (arith, ap length bytes_of_first, length-encode c, len_utf8_bounds c)

-- a visible character of ASCII further
pub known_next : (row : List ℕ) (tab_len : ℕ) (at : RowOffset) → IsUtf8 row → IsColumnAt row tab_len at → at.offset < length row → IsVisible (get_or row at.offset 0) →
    IsColumnAt row tab_len (record { offset = at.offset + 1; column = at.column + 1 })
known_next row tab_len at utf8 known inside visible =
    let boundary = IsCharBoundary-after_ascii row at.offset utf8 inside (omega (arith, visible.1)) in
    record {
      boundary = boundary;
      column = ap (λ n. n + 1) known.column ∙ sym (visible-column tab_len (column_of row tab_len at.offset) (get_or row at.offset 0) visible)
          ∙ ap (end_column tab_len (column_of row tab_len at.offset)) (sym (ap chars (slice_range-one row at.offset inside) ∙ visible-chars (get_or row at.offset 0) visible))
          ∙ column_to tab_len row at.offset (at.offset + 1) utf8 (omega arith) known.boundary boundary;
      near = omega (arith, known.near);
    }

-- ---- plain characters on the way

pub plain_between : (row : List ℕ) (tab_len : ℕ) (at next : RowOffset) → IsUtf8 row → IsColumnAt row tab_len at → IsColumnAt row tab_len next → at.offset < next.offset →
    list_all is_plain (segment_of row at.offset next.offset) ≡ true → BeginsPlain (drop at.offset row) × EndsPlain (take next.offset row)
plain_between row tab_len at next utf8 known further order plain = (
  begins_plain row at.offset next.offset utf8 known.boundary further.boundary order plain,
  ends_plain row at.offset next.offset utf8 known.boundary further.boundary order plain,
)

-- a visible character of ASCII is between them
pub visible_between : (row : List ℕ) (tab_len : ℕ) (at next : RowOffset) → IsUtf8 row → IsColumnAt row tab_len at → IsColumnAt row tab_len next → next.offset ≡ at.offset + 1 → at.offset < length row →
    IsVisible (get_or row at.offset 0) → BeginsPlain (drop at.offset row) × EndsPlain (take next.offset row)
visible_between row tab_len at next utf8 known further one inside visible =
    plain_between row tab_len at next utf8 known further (omega (arith, one))
    (ap (λ n. list_all is_plain (segment_of row at.offset n)) one
    ∙ ap (λ bytes. list_all is_plain (chars bytes)) (slice_range-one row at.offset inside)
    ∙ ap (list_all is_plain) (visible-chars (get_or row at.offset 0) visible)
    ∙ ap (λ (b : Bool). b && true) (visible-plain (get_or row at.offset 0) visible))

-- ---- visible characters of ASCII

pub run_visible : (row rest : List ℕ) (from most count : ℕ) → rest ≡ drop from row → from ≤ length row → IsVisibleCount rest most count → AreVisible row from count
run_visible row rest from most count is inside counted = record {
  within = omega (arith, ap length is, length-drop from row, inside, counted.within);
  visible = λ k below.
      subst IsVisible (get_or-take count rest k 0 below ∙ ap (λ (xs : List ℕ). get_or xs k 0) is ∙ get_or-drop from row k 0)
      (all_at IsVisible (take count rest) k 0 counted.visible (omega (arith, length-take-le count rest counted.within, below)));
}

moved : (row : List ℕ) (tab_len : ℕ) (place : RowOffset) (offset column : ℕ) → offset ≡ place.offset → column ≡ place.column → IsColumnAt row tab_len place →
    IsColumnAt row tab_len (record { offset = offset; column = column })
moved row tab_len place offset column at is known = record {
  boundary = subst (IsCharBoundary row) (sym at) known.boundary;
  column = is ∙ known.column ∙ ap (column_of row tab_len) (sym at);
  near = omega (arith, at, is, known.near);
}

module _ (row : List ℕ) (tab_len : ℕ) (at : RowOffset) (count : ℕ) (utf8 : IsUtf8 row) (known : IsColumnAt row tab_len at) (visible : AreVisible row at.offset count) where
  -- this many of them further
  pub known_further : (n : ℕ) → n ≤ count → IsColumnAt row tab_len (record { offset = at.offset + n; column = at.column + n })
  known_further zero within = moved row tab_len at (at.offset + zero) (at.column + zero) (omega arith) (omega arith) known
  known_further (suc n) within =
      let place : RowOffset = record { offset = at.offset + n; column = at.column + n } in
      moved row tab_len (record { offset = at.offset + n + 1; column = at.column + n + 1 }) (at.offset + suc n) (at.column + suc n) (omega arith) (omega arith)
      (known_next row tab_len place utf8 (known_further n (omega (arith, within))) (omega (arith, within, visible.within)) (visible.visible n (omega (arith, within))))

  one_between : (n : ℕ) → n < count → BeginsPlain (drop (at.offset + n) row) × EndsPlain (take (at.offset + n + 1) row)
  one_between n below =
      let place : RowOffset = record { offset = at.offset + n; column = at.column + n } in
      let next : RowOffset = record { offset = at.offset + n + 1; column = at.column + n + 1 } in
      let here = known_further n (omega (arith, below)) in
      let inside : at.offset + n < length row = omega (arith, below, visible.within) in
      visible_between row tab_len place next utf8 here
      (known_next row tab_len place utf8 here inside (visible.visible n below)) refl inside (visible.visible n below)

  pub ends_visible : 0 < count → (end : ℕ) → end ≡ at.offset + count → EndsPlain (take end row)
  ends_visible some end is = subst (λ n. EndsPlain (take n row)) (omega (arith, some, is)) (one_between (count - 1) (omega (arith, some))).1

  -- between the last two of them is a seam
  pub seam_before_last : 1 < count → (seam : ℕ) → seam ≡ at.offset + (count - 1) → IsSeam row seam
  seam_before_last some seam is =
      let before = one_between (count - 2) (omega (arith, some)) in
      let after = one_between (count - 1) (omega (arith, some)) in
      record {
        inside = omega (arith, some, is);
        within = omega (arith, some, is, visible.within);
        boundary = subst (IsCharBoundary row) (sym is) (known_further (count - 1) (omega arith)).boundary;
        left = subst (λ n. EndsPlain (take n row)) (omega (arith, some, is)) before.1;
        right = subst (λ n. BeginsPlain (drop n row)) (sym is) after.0;
      }
