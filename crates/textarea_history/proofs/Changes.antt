-- The symbols of a change, from the content of its edit; and the replacements that make it.
use Rattle.std.proofs.Common.{◌≡◌, ℕ, ◌+◌, ◌<◌, ◌≤◌, Bool, false, cond, List, [], ◌∷◌, length, sym, ap, ◌∙◌, arith, subst, inl, inr, ◌⊎◌, Some, String, encode_utf8, Vec}
use Rattle.std.proofs.lemmas.List.{append-nil, length-map}
use Rattle.textarea_history.specs.Prelude.{Global, IfSome, chars, IsUtf8, Symbol, characters, characters_of, joined, lines_of, text_of, Place, IsPlace, IsPlaceOf, OccursAt, changed, end, inserted}
use Rattle.textarea_history.specs.Prelude.{removed, Splice, Allows, Fits, applied, IsReplacementFor, ReplacesBetween, breaks_of, new_line_count, replaced_line_count, Replacement, Stored, IsWellFormed}
use Rattle.textarea_history.specs.Prelude.{directed, line_count_in, stored_of, symbols_in, Content}
use Rattle.textarea_text.proofs.Columns.{chars_from_bytes}
use Rattle.textarea_text.proofs.StringRows.{changed_by_none, columns_ordered, rows_ordered, rows_place, occurs_until}
use Rattle.textarea_text.proofs.Touching.{breaks_of-joined, end_row}
use Rattle.std.specs.declared.sync.Arc.{Arc}
use Rattle.textarea_history.specs.declared.edit.Content.TheVariants as content

-- ---- symbols

-- a change has the symbols of its edit's content
pub symbols_of_change : {grouped : Bool} (stored_content : Content) (inserts reported : Bool) (start to : Place) (edit : Stored) (now : Splice) →
    stored_of stored_content inserts start to grouped ≡ edit → directed edit.splice reported ≡ now → symbols_in inserts stored_content ≡ now.symbols
symbols_of_change stored_content inserts reported start to edit now view view' = ap (λ (s : Stored). s.splice.symbols) view ∙ ap (λ (s : Splice). s.symbols) view'

-- the symbols of an encoded character
pub characters_of_one : (bs : List ℕ) (c : ℕ) → IsUtf8 bs → bs ≡ encode_utf8 c → characters (chars bs) ≡ characters (c ∷ [])
characters_of_one bs c text e = ap characters (chars_from_bytes bs (c ∷ []) text (e ∙ sym (append-nil (encode_utf8 c))))

-- a fragment of at least two lines is not within a line
has_breaks : {grouped : Bool} (stored_content : Content) (inserts reported : Bool) (start to : Place) (edit : Stored) (now : Splice) (fragment_lines : List (String Global)) →
    stored_of stored_content inserts start to grouped ≡ edit → directed edit.splice reported ≡ now → IsWellFormed edit → breaks_of now.symbols ≡ 0 →
    line_count_in stored_content ≡ Some (length fragment_lines) → symbols_in inserts stored_content ≡ joined (lines_of fragment_lines) → ⊥
has_breaks stored_content inserts reported start to edit now fragment_lines view view' h none count is =
    let many : 2 ≤ length fragment_lines = subst (λ o. IfSome o (λ n. 2 ≤ n)) count (subst (λ (s : Stored). IfSome s.fragment_lines (λ n. 2 ≤ n)) (sym view) h.fragment_lines) in
    let long = length-map fragment_lines characters_of in
    omega (arith, none, many, long, ap breaks_of (symbols_of_change stored_content inserts reported start to edit now view view'), ap breaks_of is, breaks_of-joined (lines_of fragment_lines) (omega (arith, many, long)))

-- a break, or a fragment of at least two lines, is not within a line
pub has_break : {grouped : Bool} (stored_content : Content) (inserts reported : Bool) (start to : Place) (edit : Stored) (now : Splice) → stored_of stored_content inserts start to grouped ≡ edit →
    directed edit.splice reported ≡ now → IsWellFormed edit → breaks_of now.symbols ≡ 0 →
    (stored_content ≡ content.Break) ⊎
    (((fragment_lines : Vec (String Global) Global) × stored_content ≡ content.Lines fragment_lines) ⊎
    ((fragment_lines : Arc (Vec (String Global) Global) Global) × stored_content ≡ content.Shared fragment_lines)) → ⊥
has_break stored_content inserts reported start to edit now view view' h none (inl is) =
    omega (arith, none, ap breaks_of (symbols_of_change stored_content inserts reported start to edit now view view'), ap (λ k. breaks_of (symbols_in inserts k)) is)
has_break stored_content inserts reported start to edit now view view' h none (inr (inl found)) =
    has_breaks stored_content inserts reported start to edit now found.0.items view view' h none (ap line_count_in found.1) (ap (symbols_in inserts) found.1)
has_break stored_content inserts reported start to edit now view view' h none (inr (inr found)) =
    has_breaks stored_content inserts reported start to edit now found.0.value.items view view' h none (ap line_count_in found.1) (ap (symbols_in inserts) found.1)

-- ---- removals

-- the ends are positions, in order, and removing the text between them makes the splice
pub record Removing {Z : Type 0} (items : List (String Z)) (splice : Splice) (start to : Place) : Type 0 where
  pub from : IsPlaceOf (lines_of items) start
  pub end_place : IsPlaceOf (lines_of items) to
  pub rows : start.0 ≤ to.0
  pub text : (none : List Symbol) → none ≡ [] → changed (text_of items) start to none ≡ applied (text_of items) splice

pub removing : {Z : Type 0} (items : List (String Z)) (splice : Splice) (start to : Place) → 0 < length items → Fits (text_of items) splice → splice.inserts ≡ false → start ≡ splice.place →
    to ≡ end splice.place splice.symbols → Removing items splice start to
removing items splice start to some fits removes begins ends =
    let text = text_of items in
    let occurs : OccursAt text splice.place splice.symbols = subst (λ (b : Bool). Allows b text splice.place splice.symbols) removes fits.allowed in
    let until = occurs_until text splice.place splice.symbols fits.is_place occurs in
    let gone : applied text splice ≡ removed text splice.place splice.symbols =
    ap (λ (b : Bool). cond b (inserted text splice.place splice.symbols) (removed text splice.place splice.symbols)) removes in
    record {
      from = rows_place items start some (subst (IsPlace text) (sym begins) fits.is_place);
      end_place = rows_place items to some (subst (IsPlace text) (sym ends) until.0);
      rows = omega (arith, ap (λ (p : Place). p.0) begins, ap (λ (p : Place). p.0) ends, rows_ordered splice.place splice.symbols);
      text = λ none is.
          ap (λ (p : Place). changed text p to none) begins ∙ changed_by_none text splice.place to splice.symbols none fits.is_place occurs ends is ∙ sym gone;
    }

-- symbols without a break end in the row where they begin
pub ends_inside : (splice : Splice) (start to : Place) → breaks_of splice.symbols ≡ 0 → start ≡ splice.place → to ≡ end splice.place splice.symbols →
    ((start.0, to.1) ≡ end splice.place splice.symbols) × (start.1 ≤ to.1)
ends_inside splice start to none begins ends =
    let row : start.0 ≡ to.0 = omega (arith, none, ap (λ (p : Place). p.0) begins, ap (λ (p : Place). p.0) ends, end_row splice.place splice.symbols) in
    let same : (end splice.place splice.symbols).0 ≡ splice.place.0 = omega (arith, none, end_row splice.place splice.symbols) in (
      ap (λ n. (n, to.1)) row ∙ ends,
      omega (arith, ap (λ (p : Place). p.1) begins, ap (λ (p : Place). p.1) ends, columns_ordered splice.place splice.symbols same),
    )

pub removed_by : (items : List (String Global)) (splice : Splice) (start to : Place) (none : List Symbol) (r : Replacement) → 0 < length items → Fits (text_of items) splice → splice.inserts ≡ false →
    start ≡ splice.place → to ≡ end splice.place splice.symbols → none ≡ [] → ReplacesBetween items start to none r → IsReplacementFor items splice r
removed_by items splice start to none r some fits removes begins ends is k =
    let removed_lines : replaced_line_count splice ≡ breaks_of splice.symbols + 1 = ap (λ (b : Bool). cond b 1 (breaks_of splice.symbols + 1)) removes in
    let coming : new_line_count splice ≡ 1 = ap (λ (b : Bool). cond b (breaks_of splice.symbols + 1) 1) removes in
    let row = ap (λ (p : Place). p.0) begins in
    record {
      row = k.row ∙ row;
      removed_lines = omega (arith, k.row, k.removed_lines, row, removed_lines, ap (λ (p : Place). p.0) ends, end_row splice.place splice.symbols);
      coming = omega (arith, k.coming, coming, ap breaks_of is);
      within = k.within;
      text = k.text ∙ (removing items splice start to some fits removes begins ends).text none is;
    }
