-- The end of the next symbols of a text.
use Rattle.std.proofs.Common.{◌≡◌, ℕ, ◌+◌, ◌<◌, nat_lt, min, Bool, true, false, List, length, arith, sym, ap, refl, ◌∙◌, subst}
use Rattle.std.proofs.lemmas.Bool.Decides.{nat_tests}
use Rattle.textarea_text.specs.Text.{Symbol, lines}
use Rattle.textarea_text.specs.Place.{Place, IsPlace, IsPlaceOf, index_of, place_of}
use Rattle.textarea_document.specs.DocumentState.{DocumentState}
use Rattle.textarea_text.proofs.Befores.{pair_is}
use Rattle.textarea_text.proofs.TextPlaces.{index_within, place_of-index}

-- at the cursor: there are none
pub none_ahead : (text : List Symbol) (cursor to : Place) (count : ℕ) → index_of text to ≡ min (index_of text cursor + count) (length text) → to.0 ≡ cursor.0
    → to.1 ≡ cursor.1 → nat_lt (index_of text cursor) (min (index_of text cursor + count) (length text)) ≡ false
none_ahead text cursor to count e rows columns =
    let same : index_of text to ≡ index_of text cursor = ap (index_of text) (pair_is to cursor.0 cursor.1 rows columns) in
    grind (arith, nat_tests)

-- anywhere else: there are some
pub some_ahead : (text : List Symbol) (cursor to : Place) (count : ℕ) → IsPlace text cursor → IsPlace text to
    → index_of text to ≡ min (index_of text cursor + count) (length text) → (to.0 ≡ cursor.0 → to.1 ≡ cursor.1 → ⊥)
    → nat_lt (index_of text cursor) (min (index_of text cursor + count) (length text)) ≡ true
some_ahead text cursor to count h h' e apart = by (nat_lt (index_of text cursor) (min (index_of text cursor + count) (length text))) refl
  where
    by : (b : Bool) → nat_lt (index_of text cursor) (min (index_of text cursor + count) (length text)) ≡ b → b ≡ true
    by true less = refl
    by false less =
        let within = index_within text cursor h in
        let same : index_of text to ≡ index_of text cursor = grind (arith, nat_tests) in
        let places : to ≡ cursor = sym (place_of-index text to h') ∙ ap (place_of text) same ∙ place_of-index text cursor h in
        absurd (apart (ap (λ (p : Place). p.0) places) (ap (λ (p : Place). p.1) places))

pub lesser_ahead : (text : List Symbol) (cursor to : Place) (count : ℕ) → index_of text to ≡ min (index_of text cursor + count) (length text)
    → nat_lt (index_of text cursor) (min (index_of text cursor + count) (length text)) ≡ true → index_of text cursor < index_of text to
lesser_ahead text cursor to count e less = grind (arith, nat_tests)

-- the end that was counted from another form of the cursor's position, and is not that position
pub record IsAhead (document : DocumentState) (to : Place) (count : ℕ) : Type 0 where
  pub some : nat_lt (index_of document.text document.cursor) (min (index_of document.text document.cursor + count) (length document.text)) ≡ true
  pub less : index_of document.text document.cursor < index_of document.text to

pub is_ahead : (document : DocumentState) (text : List Symbol) (rows : List (List ℕ)) (cursor to : Place) (count : ℕ) → text ≡ document.text
    → rows ≡ lines document.text → cursor ≡ document.cursor → IsPlace document.text cursor → IsPlaceOf rows to
    → index_of text to ≡ min (index_of text cursor + count) (length text) → (to.0 ≡ cursor.0 → to.1 ≡ cursor.1 → ⊥) → IsAhead document to count
is_ahead document text rows cursor to count e rows_are at h h' index apart =
    let known : index_of document.text to ≡ min (index_of document.text document.cursor + count) (length document.text) =
    subst (λ (p : Place). index_of document.text to ≡ min (index_of document.text p + count) (length document.text)) at
    (subst (λ t. index_of t to ≡ min (index_of t cursor + count) (length t)) e index) in
    let some = some_ahead document.text document.cursor to count (subst (IsPlace document.text) at h) (subst (λ r. IsPlaceOf r to) rows_are h') known
    (λ same_rows same_columns. apart (same_rows ∙ ap (λ (p : Place). p.0) (sym at)) (same_columns ∙ ap (λ (p : Place). p.1) (sym at))) in
    record { some = some; less = lesser_ahead document.text document.cursor to count known some }
