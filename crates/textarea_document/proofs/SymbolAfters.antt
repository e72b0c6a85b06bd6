-- The symbol directly after a position.
use Rattle.std.proofs.Common.{◌≡◌, ◌≢◌, ℕ, Bool, false, cond, ◌+◌, ◌≤◌, ◌<◌, List, [], ◌∷◌, ◌++◌, length, take, drop, get_or, ap, refl, ◌∙◌, arith, subst, Option, Some, None, encode_utf8, encode_utf8_all}
use Rattle.std.proofs.lemmas.Bool.{ne_eqb}
use Rattle.std.proofs.lemmas.List.{drop_all, length-drop}
use Rattle.std.proofs.lemmas.Str.{length-le-encodes}
use Rattle.textarea_text.proofs.Befores.{next_is}
use Rattle.textarea_document.specs.Prelude.{MatchOption, chars, IsUtf8, Symbol, Character, Break, joined, lines, Place, IsPlace, IsPlaceOf, OccursAt, index_of, line_end, Fits, inserts_of, symbols_of}
use Rattle.textarea_document.specs.Prelude.{EditKind, DocumentState, after_edit, IsSymbolAfter, break_removal, symbol_removed_after}
use Rattle.textarea_text.proofs.Befores.{break_occurs, character_occurs}
use Rattle.textarea_history.specs.Edit.{splice_of}
use Rattle.textarea_text.proofs.TextPlaces.{joined-lines, place_of-index}

-- an index with a symbol is not the text's end
not_end : (text : List Symbol) (index : ℕ) (symbol : Symbol) → take 1 (drop index text) ≡ symbol ∷ [] → index ≢ length text
not_end text index symbol e = λ same. cc (e, drop_all index text (omega arith))

pub character_is_after : (rows : List (List ℕ)) (row column c : ℕ) → IsPlaceOf rows (row, column) → drop column (get_or rows row []) ≡ c ∷ drop (column + 1) (get_or rows row []) →
    IsSymbolAfter (joined rows) (row, column) (row, column + 1) (Character c)
character_is_after rows row column c h e =
    let occurs = character_occurs rows row column c h.0 h.1 e in
    record { index = not_end (joined rows) (index_of (joined rows) (row, column)) (Character c) occurs; symbol_is = occurs; ends = refl }

pub break_is_after : (rows : List (List ℕ)) (row column : ℕ) → row + 1 < length rows → column ≡ length (get_or rows row []) → IsSymbolAfter (joined rows) (row, column) (row + 1, 0) Break
break_is_after rows row column within e =
    let occurs : take 1 (drop (index_of (joined rows) (row, column)) (joined rows)) ≡ Break ∷ [] =
    ap (λ (n : ℕ). take 1 (drop (index_of (joined rows) (row, n)) (joined rows))) e ∙ break_occurs rows row within in
    record { index = not_end (joined rows) (index_of (joined rows) (row, column)) Break occurs; symbol_is = occurs; ends = refl }

-- ---- of strings

-- a call of `next` after the column
pub symbol_after_is : (Same : Type 0) (cs was rest : List ℕ) (column : ℕ) (found : Option ℕ) → column ≤ length cs → was ≡ encode_utf8_all (drop column cs) →
    MatchOption found ((length was ≡ 0) × Same) (λ d. was ≡ encode_utf8 d ++ rest) → MatchOption found (column ≡ length cs) (λ c. drop column cs ≡ c ∷ drop (column + 1) cs)
symbol_after_is Same cs was rest column None within e h = omega (arith, h.0, ap length e, length-le-encodes (drop column cs), length-drop column cs)
symbol_after_is Same cs was rest column (Some c) within e h = next_is Same cs was rest column c (Some c) e h refl

-- ---- the break before a line

-- the removal of the break at the end of a line fits the text, if another line follows
pub break_removal_fits : (text : List Symbol) (row : ℕ) → row + 1 < length (lines text) → Fits text (break_removal text row)
break_removal_fits text row within =
    let rows = lines text in
    record {
      some = omega arith;
      is_place = (omega arith, omega arith);
      allowed = subst (λ t. OccursAt t (line_end rows row) (Break ∷ [])) (joined-lines text) (break_occurs rows row within);
    }

-- ---- the removal of the symbol after the cursor, and of the one before it

pub symbol_removed_after_is : (document : DocumentState) (to : Place) (symbol : Symbol) (typed : Bool) (now : ℕ) → IsPlace document.text document.cursor →
    IsSymbolAfter document.text document.cursor to symbol →
    after_edit document (record { place = document.cursor; symbols = symbol ∷ []; inserts = false }) typed now ≡ symbol_removed_after document typed now
symbol_removed_after_is document to symbol typed now h after =
    rw (ne_eqb (index_of document.text document.cursor) (length document.text) after.index, after.symbol_is, place_of-index document.text document.cursor h) refl

-- the splice of an edit that removes
pub removal_of_kind : (kind : EditKind) (before after : Place) (symbols : List Symbol) → inserts_of kind ≡ false → symbols_of kind ≡ symbols →
    splice_of kind before after ≡ record { place = after; symbols = symbols; inserts = false }
removal_of_kind kind before after symbols removes e =
    ap (λ (b : Bool). record { place = cond b before after; symbols = symbols_of kind; inserts = b }) removes
    ∙ ap (λ (s : List Symbol). record { place = after; symbols = s; inserts = false }) e
