-- The characters of a run as it grows, and of an edit that has just one.
use Rattle.std.proofs.Common.{◌≡◌, ℕ, ◌+◌, ◌-◌, ◌≤◌, Bool, true, false, cond, List, [], ◌∷◌, ◌++◌, length, reverse, sym, ap, refl, ◌∙◌, arith, subst, encode_utf8, encode_utf8_all, String, string_bytes, Result, is_ok, Some, None}
use Rattle.std.proofs.lemmas.List.{append-nil, append_assoc, reverse-append, reverse-reverse, length-append, length-reverse, nil_from_length}
use Rattle.std.proofs.lemmas.Str.{IsUtf8-string_bytes, IsUtf8-past_char, chars_past_char, chars-nil}
use Rattle.textarea_history.specs.Prelude.{IfSome, Global, chars, IsUtf8, string_len, string_capacity, Symbol, Character, characters, characters_of, following, joined, Place, end, Splice}
use Rattle.textarea_history.specs.Prelude.{place_before, place_after, Stored, IsWellFormed, line_count_in, stored_of, symbols_in, character_of, merged, Content, Typed}
use Rattle.textarea_history.specs.declared.edit.Content.TheVariants as content
use Rattle.textarea_text.proofs.Columns.{chars_from_bytes}
use Rattle.textarea_text.proofs.Splices.{characters-append, end-append}
use Rattle.textarea_text.proofs.StringRows.{characters_of-pushed}

-- the first character of an empty text
pub characters_of-first : {Z : Type 0} (new : String Z) (c : ℕ) → string_bytes new ≡ encode_utf8 c → characters_of new ≡ c ∷ []
characters_of-first new c e =
    chars_from_bytes (string_bytes new) (c ∷ []) (IsUtf8-string_bytes new) (e ∙ sym (append-nil (encode_utf8 c)))

-- the symbols of a typed text that grew: at the end for an insertion, at the front for a removal
symbols_grown : (inserts : Bool) (old new : String Global) (c : ℕ) → characters_of new ≡ characters_of old ++ c ∷ [] →
    symbols_in inserts (Typed new) ≡ cond inserts (symbols_in inserts (Typed old) ++ Character c ∷ []) (Character c ∷ symbols_in inserts (Typed old))
symbols_grown true old new c e = ap characters e ∙ characters-append (characters_of old) (c ∷ [])
symbols_grown false old new c e = ap (λ t. characters (reverse t)) e ∙ ap characters (reverse-append (characters_of old) (c ∷ []))

-- the grown run is the run and the edit as one splice
pub grown_splice : {grouped : Bool} (stored_content : Content) (inserts : Bool) (start to edit_start : Place) (old new : String Global) (c : ℕ) (self : Stored) (edit : Splice) →
    stored_of stored_content inserts start to grouped ≡ self → stored_content ≡ Typed old → characters_of new ≡ characters_of old ++ c ∷ [] → edit.symbols ≡ Character c ∷ [] →
    edit.place ≡ edit_start → record { place = cond inserts start edit_start; symbols = symbols_in inserts (Typed new); inserts = inserts } ≡ merged self.splice edit
grown_splice {grouped = grouped} stored_content inserts start to edit_start old new c self edit view is e one at =
    by inserts ∙ ap (λ (s : Stored). merged s.splice edit) (ap (λ k. stored_of k inserts start to grouped) (sym is) ∙ view)
  where
    by : (b : Bool) → record { place = cond b start edit_start; symbols = symbols_in b (Typed new); inserts = b } ≡ merged (stored_of (Typed old) b start to grouped).splice edit
    by true =
        ap (λ (s : List Symbol). record { place = start; symbols = s; inserts = true }) (symbols_grown true old new c e ∙ ap (λ (s : List Symbol). symbols_in true (Typed old) ++ s) (sym one))
    by false =
        ap (λ (s : List Symbol). record { place = edit_start; symbols = s; inserts = false }) (symbols_grown false old new c e ∙ ap (λ (s : List Symbol). s ++ symbols_in false (Typed old)) (sym one))
        ∙ ap (λ (p : Place). record { place = p; symbols = edit.symbols ++ symbols_in false (Typed old); inserts = false }) (sym at)

-- and its ends are those of its symbols
pub grown_content : {grouped : Bool} (stored_content : Content) (inserts : Bool) (start to edit_start edit_end : Place) (old new : String Global) (c : ℕ) (self : Stored) (edit : Splice) →
    IsWellFormed (stored_of stored_content inserts start to grouped) → stored_of stored_content inserts start to grouped ≡ self → stored_content ≡ Typed old →
    characters_of new ≡ characters_of old ++ c ∷ [] → edit.symbols ≡ Character c ∷ [] → edit.place ≡ edit_start → edit_end ≡ end edit_start edit.symbols → edit.inserts ≡ self.splice.inserts →
    place_after self.splice ≡ place_before edit → IsWellFormed (stored_of (Typed new) inserts (cond inserts start edit_start) (cond inserts edit_end to) grouped)
grown_content {grouped = grouped} stored_content inserts start to edit_start edit_end old new c self edit h view is e one at stops same meets =
    by inserts (subst (λ k. IsWellFormed (stored_of k inserts start to grouped)) is h) (same ∙ ap (λ (s : Stored). s.splice.inserts) (sym view))
    (ap (λ (s : Stored). place_after s.splice) (ap (λ k. stored_of k inserts start to grouped) (sym is) ∙ view) ∙ meets)
  where
    by : (b : Bool) → IsWellFormed (stored_of (Typed old) b start to grouped) → edit.inserts ≡ b → place_after (stored_of (Typed old) b start to grouped).splice ≡ place_before edit →
        IsWellFormed (stored_of (Typed new) b (cond b start edit_start) (cond b edit_end to) grouped)
    by true h same meets =
        let begins : place_before edit ≡ edit_start = ap (λ (b : Bool). place_before (record edit { inserts = b })) same ∙ at in
        record {
          ends = stops ∙ ap (end edit_start) one ∙ ap (λ (p : Place). end p (Character c ∷ [])) (sym (meets ∙ begins))
              ∙ sym (end-append start (symbols_in true (Typed old)) (Character c ∷ [])) ∙ ap (end start) (sym (symbols_grown true old new c e));
          some = omega (arith, ap length (symbols_grown true old new c e), length-append (symbols_in true (Typed old)) (Character c ∷ []));
          fragment_lines = tt;
        }
    by false h same meets =
        let begins : place_before edit ≡ end edit_start (Character c ∷ []) =
        ap (λ (b : Bool). place_before (record edit { inserts = b })) same ∙ ap (λ (p : Place). end p edit.symbols) at ∙ ap (end edit_start) one in
        record {
          ends = h.ends ∙ ap (λ (p : Place). end p (symbols_in false (Typed old))) (meets ∙ begins) ∙ ap (end edit_start) (sym (symbols_grown false old new c e));
          some = omega (arith, ap length (symbols_grown false old new c e));
          fragment_lines = tt;
        }

-- a run of one character
pub symbols_first : (inserts : Bool) (new : String Global) (c : ℕ) → characters_of new ≡ c ∷ [] → symbols_in inserts (Typed new) ≡ Character c ∷ []
symbols_first true new c e = ap characters e
symbols_first false new c e = ap (λ t. characters (reverse t)) e

-- ---- texts of one character

pub only_none : (bs : List ℕ) → length bs ≡ 0 → None ≡ character_of (characters (chars bs))
only_none bs e = sym (ap (λ t. character_of (characters t)) (ap chars (nil_from_length bs e) ∙ chars-nil))

pub only_one : (bs rest : List ℕ) (c : ℕ) → IsUtf8 bs → bs ≡ encode_utf8 c ++ rest → length rest ≡ 0 → Some c ≡ character_of (characters (chars bs))
only_one bs rest c text e empty =
    sym (ap (λ t. character_of (characters t)) (chars_past_char bs rest c text e ∙ ap (λ t. c ∷ t) (ap chars (nil_from_length rest empty) ∙ chars-nil)))

pub only_more : (bs rest more : List ℕ) (c d : ℕ) → IsUtf8 bs → bs ≡ encode_utf8 c ++ rest → rest ≡ encode_utf8 d ++ more → None ≡ character_of (characters (chars bs))
only_more bs rest more c d text e e' =
    sym (ap (λ t. character_of (characters t)) (chars_past_char bs rest c text e ∙ ap (λ t. c ∷ t) (chars_past_char rest more d (IsUtf8-past_char bs rest c text e) e')))

-- typed text has one character if the text has, in either direction
pub only_reversed : (inserts : Bool) (cs : List ℕ) → character_of (characters (cond inserts cs (reverse cs))) ≡ character_of (characters cs)
only_reversed true cs = refl
only_reversed false [] = refl
only_reversed false (c ∷ []) = refl
only_reversed false (c ∷ d ∷ cs) = two (reverse (c ∷ d ∷ cs)) (omega (arith, length_reverse (c ∷ d ∷ cs)))
  where
    length_reverse : (xs : List ℕ) → length (reverse xs) ≡ length xs
    length_reverse xs = length-reverse xs

    two : (xs : List ℕ) → 2 ≤ length xs → character_of (characters xs) ≡ None
    two [] h = absurd (omega arith)
    two (x ∷ []) h = absurd (omega arith)
    two (x ∷ y ∷ xs) h = refl

-- two lines have a break between them
pub only_lines : (fragment_lines : List (List ℕ)) → 2 ≤ length fragment_lines → None ≡ character_of (joined fragment_lines)
only_lines [] h = absurd (omega arith)
only_lines (first ∷ []) h = absurd (omega arith)
only_lines (first ∷ second ∷ rest) h = by first
  where
    by : (line : List ℕ) → None ≡ character_of (characters line ++ following (second ∷ rest))
    by [] = refl
    by (c ∷ []) = refl
    by (c ∷ d ∷ line) = refl

-- ---- facts of an edit whose content is known

pub symbols_as : {stored_content same : Content} {inserts grouped : Bool} (start to : Place) {now : Stored} → stored_of stored_content inserts start to grouped ≡ now → stored_content ≡ same →
    symbols_in inserts same ≡ now.splice.symbols
symbols_as {inserts = inserts} start to view is = ap (symbols_in inserts) (sym is) ∙ ap (λ (s : Stored). s.splice.symbols) view

pub line_count_as : {stored_content same : Content} → stored_content ≡ same → IfSome (line_count_in stored_content) (λ n. 2 ≤ n) → IfSome (line_count_in same) (λ n. 2 ≤ n)
line_count_as is h = subst (λ k. IfSome (line_count_in k) (λ n. 2 ≤ n)) is h

-- the content is stored again with the same symbols
pub content_again : {stored_content : Content} {grouped : Bool} (inserts : Bool) (start to : Place) (c : ℕ) (new : String Global) → IsWellFormed (stored_of stored_content inserts start to grouped) →
    stored_content ≡ content.Character c → characters_of new ≡ c ∷ [] → IsWellFormed (stored_of (Typed new) inserts start to grouped)
content_again {stored_content = stored_content} inserts start to c new h is e =
    let same : symbols_in inserts (Typed new) ≡ symbols_in inserts stored_content = symbols_first inserts new c e ∙ ap (symbols_in inserts) (sym is) in
    record { ends = h.ends ∙ ap (end start) (sym same); some = omega (arith, h.some, ap length same); fragment_lines = tt }

pub splice_again : {stored_content : Content} {grouped : Bool} (inserts : Bool) (start to : Place) (c : ℕ) (new : String Global) {now : Stored} →
    stored_of stored_content inserts start to grouped ≡ now → stored_content ≡ content.Character c → characters_of new ≡ c ∷ [] →
    record { place = start; symbols = symbols_in inserts (Typed new); inserts = inserts } ≡ now.splice
splice_again inserts start to c new view is e =
    ap (λ (s : List Symbol). record { place = start; symbols = s; inserts = inserts }) (symbols_first inserts new c e ∙ ap (symbols_in inserts) (sym is))
    ∙ ap (λ (s : Stored). s.splice) view

pub spare_as : {stored_content : Content} {grouped : Bool} (inserts : Bool) (start to : Place) (old : String Global) {now : Stored} → stored_of stored_content inserts start to grouped ≡ now →
    stored_content ≡ Typed old → now.spare ≡ string_capacity old - string_len old
spare_as {grouped = grouped} inserts start to old view is = ap (λ (s : Stored). s.spare) (sym view ∙ ap (λ k. stored_of k inserts start to grouped) is)

-- a character was pushed, for which there was room
pub pushed_in_room : {stored_content : Content} {grouped : Bool} {T E : Type 0} (inserts : Bool) (start to : Place) (old new : String Global) (c : ℕ) {now : Stored} (done : Result T E) →
    stored_of stored_content inserts start to grouped ≡ now → stored_content ≡ Typed old → 4 ≤ now.spare → length (encode_utf8 c) ≤ 4 →
    (string_len old + length (encode_utf8 c) ≤ string_capacity old → is_ok done ≡ true) → string_bytes new ≡ cond (is_ok done) (string_bytes old ++ encode_utf8 c) (string_bytes old) →
    characters_of new ≡ characters_of old ++ c ∷ []
pushed_in_room inserts start to old new c done view is room few succeeds e =
    characters_of-pushed old new c
    (e ∙ ap (λ b. cond b (string_bytes old ++ encode_utf8 c) (string_bytes old)) (succeeds (omega (arith, spare_as inserts start to old view is))))

-- ---- a reversed text

-- the rest of the text, and what was written of it, its last character first
abbrev pub WrittenBack : List ℕ → List ℕ → List ℕ → Type 0
WrittenBack text left written = text ≡ left ++ encode_utf8_all (reverse written)

pub written_none : (text left written : List ℕ) → left ≡ text → written ≡ [] → WrittenBack text left written
written_none text left written e none = sym (append-nil text) ∙ ap (λ t. t ++ []) (sym e) ∙ ap (λ t. left ++ encode_utf8_all (reverse t)) (sym none)

pub written_more : (text left rest written more : List ℕ) (c : ℕ) → WrittenBack text left written → left ≡ rest ++ encode_utf8 c → more ≡ written ++ c ∷ [] → WrittenBack text rest more
written_more text left rest written more c h e is =
    h ∙ ap (λ t. t ++ encode_utf8_all (reverse written)) e
    ∙ append_assoc rest (encode_utf8 c) (encode_utf8_all (reverse written))
    ∙ ap (λ t. rest ++ encode_utf8_all t) (sym (ap reverse is ∙ reverse-append written (c ∷ [])))

pub written_all : (text left written : List ℕ) → IsUtf8 text → WrittenBack text left written → length left ≡ 0 → written ≡ reverse (chars text)
written_all text left written utf8 h none =
    sym (reverse-reverse written)
    ∙ ap reverse (sym (chars_from_bytes text (reverse written) utf8 (h ∙ ap (λ t. t ++ encode_utf8_all (reverse written)) (nil_from_length left none))))
