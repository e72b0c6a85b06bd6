-- The display columns of the positions in a row.
use Rattle.std.proofs.lemmas.Grind.{common_steps}
use Rattle.std.proofs.Common.{◌≡◌, ℕ, ◌+◌, ◌-◌, ◌<◌, ◌≤◌, ◌⊎◌, inl, inr, max, min, Bool, cond, nat_eq, true, false, List, []}
use Rattle.std.proofs.Common.{◌∷◌, ◌++◌, Option, Some, None, MatchOption, length, take, drop, get_or, sym, ap, ap₂, subst, ◌∙◌, arith, encode_utf8, encode_utf8_all, if◌then◌else◌}
use Rattle.std.proofs.Math.Seq.{take-add, take-length}
use Rattle.std.proofs.lemmas.Bool.Decides.{nat_tests}
use Rattle.std.proofs.lemmas.List.{append-nil, drop_more, length-append, length-drop, length-take-le, nil_from_length, take_at, take_more, take-take}
use Rattle.std.proofs.lemmas.Str.{chars-nil, encodes-append, encodes-chars}
use Rattle.std.specs.Str.{IsUtf8, chars}
use Rattle.textarea_text.proofs.Columns.{chars_from_bytes}
use Rattle.std.proofs.lemmas.Nat.{mod_below}
use Rattle.textarea_wrap.specs.Columns.{plain_width, next_stop, column_after, display_end_column, end_column}
use Rattle.textarea_wrap.proofs.ColumnLemmas.{end_column-append, end_column-after}
use Rattle.textarea_screen_map.specs.VisualRows.{column_at, reachable_text}
use Rattle.textarea_screen_map.specs.VisualPositions.{HasNoZeroWidth, LeadsTo}
use Rattle.textarea_util.proofs.Alls.{all_at}

-- columns never decrease along a row
pub column_at-le : (tab_len : ℕ) (text : List ℕ) (i j : ℕ) → i ≤ j → column_at tab_len text i ≤ column_at tab_len text j
column_at-le tab_len text i j h = grind (arith, common_steps, end_column-after, end_column-append, take-add i (j - i) text)

-- the column after a character
pub column_at-more : (tab_len : ℕ) (text : List ℕ) (i d : ℕ) → i < length text → column_at tab_len text (i + 1) ≡ column_after (max tab_len 1) (column_at tab_len text i) (get_or text i d)
column_at-more tab_len text i d h =
    ap (end_column (max tab_len 1) 0) (take_more text i d h) ∙ end_column-append (max tab_len 1) 0 (take i text) (get_or text i d ∷ [])

stop-more : (t x : ℕ) → 0 < t → x < next_stop t x
stop-more t x some = let below = mod_below x t some in grind (arith, nat_tests)

column_after-more : (t x c : ℕ) → 0 < t → (c ≡ 9) ⊎ (0 < plain_width c) → x < column_after t x c
column_after-more t x c some (inl e) =
    subst (λ (n : ℕ). x < column_after t x n) (sym e) (stop-more t x some)
column_after-more t x c some (inr wide) =
    elim (nat_eq c 9) as (λ is_tab. x < cond is_tab (next_stop t x) (x + plain_width c)) [ true ↦ stop-more t x some | false ↦ omega arith ]

-- if each character has a column, they increase
pub column_at-less : (tab_len : ℕ) (text : List ℕ) (i j : ℕ) → HasNoZeroWidth text → i < j → j ≤ length text → column_at tab_len text i < column_at tab_len text j
column_at-less tab_len text i j all h within =
    omega (
      arith,
      column_at-le tab_len text (i + 1) j (omega arith),
      column_at-more tab_len text i 0 (omega arith),
      column_after-more (max tab_len 1) (column_at tab_len text i) (get_or text i 0) (omega arith) (all_at (λ c. (c ≡ 9) ⊎ (0 < plain_width c)) text i 0 all (omega arith)),
    )

-- ---- the walk over a row's characters

-- the first of the characters that remain
pub passed : (cs rest : List ℕ) (n c : ℕ) → n ≤ length cs → drop n cs ≡ c ∷ rest → (n < length cs) × (get_or cs n 0 ≡ c) × (drop (n + 1) cs ≡ rest)
passed cs rest n c within e =
    let below : n < length cs = omega (arith, length-drop n cs, ap length e) in
    let components = sym (drop_more cs n 0 below) ∙ e in
    (below, cc, cc)

pub leads_to_first : (t : ℕ) (text : List ℕ) (column index at : ℕ) → index ≤ length text → at ≡ column_at t text index → at ≡ column → ((k : ℕ) → k < index → column_at t text k < column) → LeadsTo t text column index
leads_to_first t text column index at within is same before =
    inl (within, omega (arith, is, same), λ k below e. absurd (omega (arith, before k below, e)))

pub leads_to_covering : (t : ℕ) (text : List ℕ) (column index at next : ℕ) → index < length text → at ≡ column_at t text index → next ≡ column_at t text (index + 1) → at < column → column < next → LeadsTo t text column index
leads_to_covering t text column index at next within is next_is begins ends = inr (inl (within, omega (arith, is, begins), omega (arith, next_is, ends)))

-- ---- up to a column that the characters reach

width_is : (t : ℕ) (text : List ℕ) → column_at t text (length text) ≡ display_end_column t 0 text
width_is t text = ap (end_column (max t 1) 0) (take-length text)

-- the column is at most that of a position
pub leads_to_least : (t : ℕ) (text : List ℕ) (column index i : ℕ) → i ≤ length text → column ≤ column_at t text i → LeadsTo t text column index → LeadsTo t text (min column (display_end_column t 0 text)) index
leads_to_least t text column index i within below leads =
    let least : min column (display_end_column t 0 text) ≡ column = omega (arith, below, column_at-le t text i (length text) within, width_is t text) in
    rw least leads

-- the column is at or past the end, whose column is first that of another position
pub leads_to_width :
    (t : ℕ) (text : List ℕ) (column index at first : ℕ) → index ≡ length text → at ≡ column_at t text index → at ≤ column → first ≤ index
    → column_at t text first ≡ at → ((k : ℕ) → k < first → column_at t text k < at) → LeadsTo t text (min column (display_end_column t 0 text)) first
leads_to_width t text column index at first end is reached within first_at before =
    let width : display_end_column t 0 text ≡ at = sym (width_is t text) ∙ ap (column_at t text) (sym end) ∙ sym is in
    let least : min column (display_end_column t 0 text) ≡ at = omega (arith, width, reached) in
    rw least (inl (omega (arith, within, end), first_at, λ k below e. absurd (omega (arith, before k below, e))))

-- a column that some first characters reach leads to the same position in all of them
pub leads_before : (t n column index : ℕ) (text : List ℕ) → n ≤ length text → column ≤ column_at t text n → LeadsTo t (take n text) column index → LeadsTo t text column index
leads_before t n column index text within reached leads =
    let size : length (take n text) ≡ n = length-take-le n text within in
    let same : (k : ℕ) → k ≤ n → column_at t (take n text) k ≡ column_at t text k =
    λ k inside. ap (end_column (max t 1) 0) (take-take k n text inside) in
    elim leads [
      | inl h ↦ inl (omega (arith, h.0, size, within), sym (same index (omega (arith, h.0, size))) ∙ h.1, λ k below e. h.2 k below (same k (omega (arith, h.0, size, below)) ∙ e))
      | inr (inl h) ↦ inr (inl (omega (arith, h.0, size, within), omega (arith, h.1, same index (omega (arith, h.0, size))), omega (arith, h.2, same (index + 1) (omega (arith, h.0, size)))))
      | inr (inr h) ↦ absurd (omega (arith, h.1, reached, same index (omega (arith, h.0, size)), ap (column_at t text) (h.0 ∙ size)))
    ]

pub leads_in_row :
    (t column index : ℕ) (text reachable : List ℕ) (is_last : Bool) → reachable ≡ reachable_text text is_last → LeadsTo t reachable (min column (display_end_column t 0 reachable)) index
    → LeadsTo t text (min column (if is_last then display_end_column t 0 text else column_at t text (length text - 1))) index
leads_in_row t column index text reachable true is leads = subst (λ (r : List ℕ). LeadsTo t r (min column (display_end_column t 0 r)) index) is leads
leads_in_row t column index text reachable false is leads =
    leads_before t (length text - 1) (min column (column_at t text (length text - 1))) index text (omega arith) (omega arith)
    (subst (λ (r : List ℕ). LeadsTo t r (min column (display_end_column t 0 r)) index) is leads)

-- ---- the characters before the last

pub without_last :
    (Same : Type 0) (text rest : List ℕ) (found : Option ℕ) → (Same → rest ≡ text) → IsUtf8 text → IsUtf8 rest
    → MatchOption found ((length text ≡ 0) × Same) (λ c. text ≡ rest ++ encode_utf8 c) → chars rest ≡ take (length (chars text) - 1) (chars text)
without_last Same text rest None same valid valid' h =
    let none : chars text ≡ [] = ap chars (nil_from_length text h.0) ∙ chars-nil in
    ap chars (same h.1) ∙ none ∙ sym (ap (λ (t : List ℕ). take (length t - 1) t) none)
without_last Same text rest (Some c) same valid valid' h =
    let bytes : text ≡ encode_utf8_all (chars rest ++ c ∷ []) =
    h ∙ ap₂ ◌++◌ (sym (encodes-chars rest valid')) (sym (append-nil (encode_utf8 c))) ∙ sym (encodes-append (chars rest) (c ∷ [])) in
    let spelled : chars text ≡ chars rest ++ c ∷ [] = chars_from_bytes text (chars rest ++ c ∷ []) valid bytes in
    let size : length (chars rest) ≡ length (chars text) - 1 = omega (arith, ap length spelled, length-append (chars rest) (c ∷ [])) in
    sym (ap (take (length (chars text) - 1)) spelled ∙ take_at (chars rest) (c ∷ []) (length (chars text) - 1) size)
