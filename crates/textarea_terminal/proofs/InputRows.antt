-- Each row is read back.
use Rattle.std.proofs.Common.{◌==◌, ◌≡◌, ◌≢◌, ℕ, zero, suc, ◌+◌, ◌-◌, ◌/◌, ◌%◌, ◌<◌, ◌≤◌, Bool, true, false, cond, List, [], ◌∷◌, ◌++◌, length, get_or, drop, map, Some, None, refl, sym, ap, ◌∙◌, arith, inl, inr, ⊎_elim, subst}
use Rattle.std.specs.Prelude.{Contains}
use Rattle.std.proofs.lemmas.List.{get_or-map, length-append, append_assoc, get_or-append-add, get_or_append_left}
use Rattle.std.proofs.Math.Seq.{take-append_seam, drop-append-add}
use lib.Utf8.{scalar_cases}
use Rattle.std.specs.List.{AllByRecursion}
use Rattle.textarea_terminal.proofs.InputMarks.{IsAt, index_of-first, nowhere-index_of, after_mark-written}
use Rattle.textarea_terminal.proofs.InputUnits.{unit_at-key, unit-paste_at, unit_at-consumed, unit_at-nil}
use Rattle.textarea_terminal.proofs.InputReports.{mouse-read, wheel_up-read, wheel_down-read, size-read, cursor-read}
use Rattle.textarea_terminal.proofs.InputStreams.{decoding-none, decoding-some}
use Rattle.textarea_terminal.specs.InputStream.{decoding, with_event}
use Rattle.textarea_terminal.specs.InputEvent.{EventValue, EventAndRest, input, paste, focus_gained, focus_lost, unknown}
use Rattle.textarea_data.specs.declared.input.Key.TheVariants as key
use Rattle.std.specs.Prelude.{option_map}
use Rattle.std.specs.Char.{IsScalar, encode_utf8}
use Rattle.std.proofs.Math.Dec.{eqb, ltb}
use Rattle.std.proofs.lemmas.Bool.Decides.{nat_tests}
use Rattle.std.proofs.lemmas.Bool.{lt-ltb, le-ltb, ne_eqb, cases_lt, cases_Bool, cond-true, cond-false, eqb-true}
use Rattle.textarea_terminal.specs.InputCharacter.{utf8_character, is_second, code_of_two, code_of_three, code_of_four}
use Rattle.std.specs.Prelude.{◌⊎◌}
use Rattle.textarea_data.specs.Input.{input_of_key}
use Rattle.textarea_terminal.specs.InputKey.{with_alt, byte_input, entry, letter_keys, coded_event}
use Rattle.textarea_data.specs.declared.input.Key.{Key}
use Rattle.textarea_terminal.specs.InputUnit.{unit_at, paste_start, paste_end, mark_index, paste_at, paste_before, after_mark, key_or_sequence, escape_at, second_escape_at, single_at, key_at, alt_event, begins_string}
use Rattle.textarea_terminal.specs.InputSequence.{bracket_at, shift_key_at, shift_key_after_one, shift_key_after_two, control_at, count_front, after_inner, final_at, console_at, sequence_event}
use Rattle.textarea_terminal.specs.InputSequence.{event_of, event_of_one, event_of_two, event_of_three}
use Rattle.textarea_terminal.specs.InputParameter.{parameters_of, number_from, number_after, count_of}
use Rattle.textarea_terminal.specs.InputRow.{KeyRow, byte_rows, letter_rows, numbered_rows, other_rows, older_rows, keypad_rows, coded_rows, key_rows, IsSentFor, key_row, alt_key_row, character_row}
use Rattle.textarea_terminal.specs.InputRow.{alt_character_row, paste_row, mouse_row, wheel_up_row, wheel_down_row, size_row, cursor_row, focus_gained_row, focus_lost_row, bytes_of_rows}

-- what is read of a row's bytes, and of them after one ESC more; and what they are
abbrev read_row : KeyRow → EventAndRest
read_row row = unit_at row.0

abbrev row_value : KeyRow → EventAndRest
row_value row = Some (input row.1, [])

abbrev read_alt_row : KeyRow → EventAndRest
read_alt_row row = unit_at (27 ∷ row.0)

abbrev alt_row_value : KeyRow → EventAndRest
alt_row_value row = Some (input (with_alt row.1), [])

-- one name to unfold where a proof computes what is read of bytes that are written out
unfoldable pub events_computed : Unit {0}
unfolding sequence_event event_of event_of_one event_of_two event_of_three parameters_of number_from number_after count_of coded_event console_at
events_computed = tt

unfoldable pub units_computed : Unit {0}
unfolding events_computed unit_at after_mark key_or_sequence escape_at second_escape_at single_at key_at bracket_at shift_key_at shift_key_after_one shift_key_after_two control_at count_front after_inner final_at
units_computed = tt

key_rows-read : map read_row key_rows ≡ map row_value key_rows
unfolding byte_rows letter_rows numbered_rows other_rows older_rows keypad_rows coded_rows units_computed
key_rows-read = refl

key_rows-read_alt : map read_alt_row key_rows ≡ map alt_row_value key_rows
unfolding byte_rows letter_rows numbered_rows other_rows older_rows keypad_rows coded_rows units_computed
key_rows-read_alt = refl

-- functions that are the same on a list are so at each of its elements
same_at : {A B : Type 0} (f g : A → B) (xs : List A) (x : A) → map f xs ≡ map g xs → Contains xs x → f x ≡ g x
same_at f g xs x e h =
    sym (get_or-map f xs h.0 x (f x) h.1 ∙ ap f h.2) ∙ ap (λ ys. get_or ys h.0 (f x)) e ∙ get_or-map g xs h.0 x (f x) h.1 ∙ ap g h.2

pub key_row-read : (row : KeyRow) → Contains key_rows row → unit_at row.0 ≡ Some (input row.1, [])
key_row-read row h = same_at read_row row_value key_rows row key_rows-read h

pub alt_key_row-read : (row : KeyRow) → Contains key_rows row → unit_at (27 ∷ row.0) ≡ Some (input (with_alt row.1), [])
alt_key_row-read row h = same_at read_alt_row alt_row_value key_rows row key_rows-read_alt h

-- ---- characters

byte_input-character : (c : ℕ) → 32 ≤ c → c ≢ 127 → byte_input c ≡ input_of_key (key.Char c)
byte_input-character c h k = grind (arith, nat_tests)

after_escape : (a : ℕ) (bytes : List ℕ) → 27 < a → a ≢ 91 → a ≢ 79 → begins_string a ≡ false → unit_at (27 ∷ a ∷ bytes) ≡ option_map (λ x. (alt_event x.0, x.1)) (key_at a bytes)
unfolding unit_at after_mark key_or_sequence escape_at
after_escape a bytes h k l m =
    let no : eqb a 27 ≡ false = ne_eqb a 27 (omega arith) in
    let no_bracket : eqb a 91 ≡ false = ne_eqb a 91 k in
    let no_o : eqb a 79 ≡ false = ne_eqb a 79 l in
    rw (no, no_bracket, no_o, m) refl

key_at-byte : (c : ℕ) (bytes : List ℕ) → 32 ≤ c → c < 128 → c ≢ 127 → key_at c bytes ≡ Some (input (input_of_key (key.Char c)), bytes)
unfolding key_at
key_at-byte c bytes h k l =
    let small : ltb c 128 ≡ true = lt-ltb c 128 k in
    rw (small, byte_input-character c h l) refl

-- a letter, or another character from a space to ~
pub unit_at-letter : (bytes rest : List ℕ) (c : ℕ) → bytes ≡ c ∷ rest → 32 ≤ c → c ≤ 126 → unit_at bytes ≡ Some (input (input_of_key (key.Char c)), rest)
unit_at-letter bytes rest c e h k =
    ap unit_at e ∙ unit_at-key c rest (λ e. omega arith) ∙ key_at-byte c rest h (omega arith) (λ e. omega arith)

-- a property of each entry of a table is one of the entry for a number
pub entry-each : {A : Type 0} (P : ℕ → A → Type 0) (rows : List (ℕ × A)) → AllByRecursion (λ r. P r.0 r.1) rows → (n : ℕ) (x : A) → entry rows n ≡ Some x → P n x
entry-each P [] all n x e = cc e
entry-each P (row ∷ rows) all n x e =
    ⊎_elim
    (λ is.
    let found : Some row.1 ≡ Some x = sym (cond-true (n == row.0) (Some row.1) (entry rows n) is) ∙ e in
    let same : row.1 ≡ x = cc found in
    let at : row.0 ≡ n = sym (eqb-true n row.0 is) in
    subst (λ m. P m x) at (subst (λ y. P row.0 y) same all.0))
    (λ other. entry-each P rows all.1 n x (sym (cond-false (n == row.0) (Some row.1) (entry rows n) other) ∙ e))
    (cases_Bool (n == row.0))

-- a key whose sequence is a letter after ESC [
pub unit_at-letter_key : (bytes rest : List ℕ) (letter : ℕ) (k : Key) → bytes ≡ 27 ∷ 91 ∷ letter ∷ rest → entry letter_keys letter ≡ Some k → unit_at bytes ≡ Some (input (input_of_key k), rest)
unfolding units_computed
unit_at-letter_key bytes rest letter k e found =
    ap unit_at e
    ∙ entry-each (λ n x. unit_at (27 ∷ 91 ∷ n ∷ rest) ≡ Some (input (input_of_key x), rest)) letter_keys
    (refl, (refl, (refl, (refl, (refl, (refl, (refl, (refl, (refl, (refl, tt)))))))))) letter k found

key_at-character : (a c : ℕ) (bytes rest : List ℕ) → 160 ≤ a → 160 ≤ c → utf8_character a bytes ≡ Some (c, rest) → key_at a bytes ≡ Some (input (input_of_key (key.Char c)), rest)
unfolding key_at
key_at-character a c bytes rest h k e =
    let great : ltb a 128 ≡ false = le-ltb a 128 (omega arith) in
    let greater : ltb a 160 ≡ false = le-ltb a 160 h in
    rw (great, greater, e) (ap (λ (t : Bool). Some (cond t unknown (input (input_of_key (key.Char c))), rest)) (le-ltb c 160 k))

two-read : (a b : ℕ) (rest : List ℕ) → 0xC2 ≤ a → a < 0xE0 → 0x80 ≤ b → b ≤ 0xBF → utf8_character a (b ∷ rest) ≡ Some (code_of_two a b, rest)
two-read a b rest h k l m = grind (arith, nat_tests)

three-read : (a b c : ℕ) (rest : List ℕ) → 0xE0 ≤ a → a < 0xF0 → is_second a b ≡ true → 0x80 ≤ c → c ≤ 0xBF → utf8_character a (b ∷ c ∷ rest) ≡ Some (code_of_three a b c, rest)
three-read a b c rest h k l m n = grind (arith, nat_tests)

four-read : (a b c d : ℕ) (rest : List ℕ) → 0xF0 ≤ a → a ≤ 0xF4 → is_second a b ≡ true → 0x80 ≤ c → c ≤ 0xBF → 0x80 ≤ d → d ≤ 0xBF → utf8_character a (b ∷ c ∷ d ∷ rest) ≡ Some (code_of_four a b c d, rest)
four-read a b c d rest h k l m n o p = grind (arith, nat_tests)

-- a first byte from 160 on
character_first : (a c : ℕ) (bytes : List ℕ) → 160 ≤ a → 160 ≤ c → utf8_character a bytes ≡ Some (c, []) → unit_at (a ∷ bytes) ≡ Some (input (input_of_key (key.Char c)), [])
character_first a c bytes h k e = unit_at-key a bytes (λ e. omega arith) ∙ key_at-character a c bytes [] h k e

character_after_escape : (a c : ℕ) (bytes : List ℕ) → 160 ≤ a → 160 ≤ c → utf8_character a bytes ≡ Some (c, []) → unit_at (27 ∷ a ∷ bytes) ≡ Some (input (with_alt (input_of_key (key.Char c))), [])
character_after_escape a c bytes h k e =
    let no_string : begins_string a ≡ false = grind (arith, nat_tests) in
    after_escape a bytes (omega arith) (λ k. omega arith) (λ k. omega arith) no_string ∙ ap (option_map (λ x. (alt_event x.0, x.1))) (key_at-character a c bytes [] h k e)

-- a first byte of at least 160 and those after it, that are a character
pub record IsLong (c : ℕ) (bytes : List ℕ) : Type 0 where
  pub first : ℕ
  pub others : List ℕ
  pub whole : bytes ≡ first ∷ others
  pub high : 160 ≤ first
  pub read : utf8_character first others ≡ Some (c, [])

long_two : (c : ℕ) → 128 ≤ c → c < 2048 → IsLong c ((192 + c / 64) ∷ (128 + c % 64) ∷ [])
long_two c h k =
    let code : code_of_two (192 + c / 64) (128 + c % 64) ≡ c = omega arith in
    record {
      first = 192 + c / 64;
      others = (128 + c % 64) ∷ [];
      whole = refl;
      high = omega arith;
      read = two-read (192 + c / 64) (128 + c % 64) [] (omega arith) (omega arith) (omega arith) (omega arith) ∙ ap (λ (n : ℕ). Some (n, [])) code;
    }

-- a second byte in its range
second_in : (a b : ℕ) → (a ≡ 0xE0 → 0xA0 ≤ b) → (a ≡ 0xF0 → 0x90 ≤ b) → (a ≡ 0xED → b ≤ 0x9F) → (a ≡ 0xF4 → b ≤ 0x8F) → 0x80 ≤ b → b ≤ 0xBF → is_second a b ≡ true
second_in a b h k l m n o = grind (arith, nat_tests)

long_three : (c : ℕ) → 2048 ≤ c → c < 65536 → (c < 55296) ⊎ (57344 ≤ c) → IsLong c ((224 + c / 4096) ∷ (128 + (c / 64) % 64) ∷ (128 + c % 64) ∷ [])
long_three c h k l =
    let code : code_of_three (224 + c / 4096) (128 + (c / 64) % 64) (128 + c % 64) ≡ c = omega arith in
    let second = second_in (224 + c / 4096) (128 + (c / 64) % 64) (λ e. omega arith) (λ e. omega arith)
    (λ e. ⊎_elim (λ (low : c < 55296). omega arith) (λ (high : 57344 ≤ c). absurd (omega arith)) l) (λ e. omega arith) (omega arith) (omega arith) in
    record {
      first = 224 + c / 4096;
      others = (128 + (c / 64) % 64) ∷ (128 + c % 64) ∷ [];
      whole = refl;
      high = omega arith;
      read = three-read (224 + c / 4096) (128 + (c / 64) % 64) (128 + c % 64) [] (omega arith) (omega arith) second (omega arith) (omega arith) ∙ ap (λ (n : ℕ). Some (n, [])) code;
    }

long_four : (c : ℕ) → 65536 ≤ c → c < 1114112 → IsLong c ((240 + c / 262144) ∷ (128 + (c / 4096) % 64) ∷ (128 + (c / 64) % 64) ∷ (128 + c % 64) ∷ [])
long_four c h k =
    let code : code_of_four (240 + c / 262144) (128 + (c / 4096) % 64) (128 + (c / 64) % 64) (128 + c % 64) ≡ c = omega arith in
    let second = second_in (240 + c / 262144) (128 + (c / 4096) % 64) (λ e. omega arith) (λ e. omega arith) (λ e. omega arith) (λ e. omega arith) (omega arith) (omega arith) in
    record {
      first = 240 + c / 262144;
      others = (128 + (c / 4096) % 64) ∷ (128 + (c / 64) % 64) ∷ (128 + c % 64) ∷ [];
      whole = refl;
      high = omega arith;
      read = four-read (240 + c / 262144) (128 + (c / 4096) % 64) (128 + (c / 64) % 64) (128 + c % 64) [] (omega arith) (omega arith) second (omega arith) (omega arith) (omega arith) (omega arith) ∙ ap (λ (n : ℕ). Some (n, [])) code;
    }

-- the bytes of a character: itself below 128
encoded_short : (c : ℕ) → c < 128 → encode_utf8 c ≡ c ∷ []
unfolding encode_utf8
encoded_short c h = rw (lt-ltb c 128 h) refl

encoded_long : (c : ℕ) → 128 ≤ c → IsScalar c → IsLong c (encode_utf8 c)
unfolding encode_utf8
encoded_long c h s = ⊎_elim
    (λ (k : c < 2048). rw (le-ltb c 128 h, lt-ltb c 2048 k) (long_two c h k))
    (λ (k : 2048 ≤ c). ⊎_elim
    (λ (l : c < 65536).
    let in_range : (c < 55296) ⊎ (57344 ≤ c) = ⊎_elim (λ (low : c < 55296). inl low) (λ (high : (57344 ≤ c) × (c < 1114112)). inr high.0) (scalar_cases c s) in
    rw (le-ltb c 128 h, le-ltb c 2048 k, lt-ltb c 65536 l) (long_three c k l in_range))
    (λ (l : 65536 ≤ c).
    let below : c < 1114112 = ⊎_elim (λ (low : c < 55296). absurd (omega arith)) (λ (high : (57344 ≤ c) × (c < 1114112)). high.1) (scalar_cases c s) in
    rw (le-ltb c 128 h, le-ltb c 2048 k, le-ltb c 65536 l) (long_four c l below))
    (cases_lt c 65536))
    (cases_lt c 2048)

pub character-read : (c : ℕ) → IsScalar c → 32 ≤ c → (c < 127) ⊎ (160 ≤ c) → unit_at (encode_utf8 c) ≡ Some (input (input_of_key (key.Char c)), [])
character-read c s h k = ⊎_elim
    (λ (short : c < 127). ap unit_at (encoded_short c (omega arith)) ∙ unit_at-key c [] (λ e. omega arith) ∙ key_at-byte c [] h (omega arith) (λ e. omega arith))
    (λ (long : 160 ≤ c). let e = encoded_long c (omega arith) s in ap unit_at e.whole ∙ character_first e.first c e.others e.high long e.read)
    k

pub alt_character-read : (c : ℕ) → IsScalar c → 32 ≤ c → (c < 127) ⊎ (160 ≤ c) → c ≢ 91 → c ≢ 79 → begins_string c ≡ false → unit_at (27 ∷ encode_utf8 c) ≡ Some (input (with_alt (input_of_key (key.Char c))), [])
alt_character-read c s h k l m n = ⊎_elim
    (λ (short : c < 127). ap (λ xs. unit_at (27 ∷ xs)) (encoded_short c (omega arith)) ∙ after_escape c [] (omega arith) l m n ∙ ap (option_map (λ x. (alt_event x.0, x.1))) (key_at-byte c [] h (omega arith) (λ e. omega arith)))
    (λ (long : 160 ≤ c). let e = encoded_long c (omega arith) s in ap (λ xs. unit_at (27 ∷ xs)) e.whole ∙ character_after_escape e.first c e.others e.high long e.read)
    k

-- ---- pasted texts and the focus

not_first : (j : ℕ) → 0 < j → j < 6 → get_or paste_end j 0 ≡ 27 → ⊥
not_first zero h k e = absurd (omega arith)
not_first (suc zero) h k e = absurd (omega (arith, e))
not_first (suc (suc zero)) h k e = absurd (omega (arith, e))
not_first (suc (suc (suc zero))) h k e = absurd (omega (arith, e))
not_first (suc (suc (suc (suc zero)))) h k e = absurd (omega (arith, e))
not_first (suc (suc (suc (suc (suc zero))))) h k e = absurd (omega (arith, e))
not_first (suc (suc (suc (suc (suc (suc j)))))) h k e = absurd (omega arith)

-- the first mark of the end is the one that is written
index_of-written : (text : List ℕ) → mark_index paste_end text ≡ None → mark_index paste_end (text ++ paste_end) ≡ Some (length text)
index_of-written text none = index_of-first paste_end (text ++ paste_end) (length text) (omega arith) here before
  where
    here : IsAt (text ++ paste_end) paste_end (length text)
    here = record {
      fits = omega (arith, length-append text paste_end);
      reads = λ j h. get_or-append-add text paste_end j 0;
    }

    before : (i : ℕ) → i < length text → IsAt (text ++ paste_end) paste_end i → ⊥
    before i h at = ⊎_elim
        (λ (over : length text < i + 6).
        let j = length text - i in
        let sum : i + j ≡ length text + 0 = omega arith in
        let first : get_or (text ++ paste_end) (i + j) 0 ≡ 27 = ap (λ n. get_or (text ++ paste_end) n 0) sum ∙ get_or-append-add text paste_end 0 0 in
        not_first j (omega arith) (omega arith) (sym (at.reads j (omega arith)) ∙ first))
        (λ (inside : i + 6 ≤ length text). nowhere-index_of paste_end text (omega arith) none i (record {
          fits = inside;
          reads = λ j k. sym (get_or_append_left text paste_end 0 (i + j) (omega arith)) ∙ at.reads j k;
        }))
        (cases_lt (length text) (i + 6))

paste_at-written : (text : List ℕ) → mark_index paste_end text ≡ None → paste_at (text ++ paste_end) ≡ Some (paste text, [])
unfolding paste_at
paste_at-written text none =
    ap (option_map (paste_before (text ++ paste_end))) (index_of-written text none)
    ∙ ap (λ (xs : List ℕ). Some (paste xs, drop (length text + 6) (text ++ paste_end))) (take-append_seam text paste_end)
    ∙ ap (λ (xs : List ℕ). Some (paste text, xs)) (drop-append-add text paste_end 6)

pub paste-read : (text : List ℕ) → mark_index paste_end text ≡ None → unit_at (paste_start ++ text ++ paste_end) ≡ Some (paste text, [])
paste-read text none = ap unit_at (append_assoc paste_start text paste_end) ∙ unit-paste_at (paste_start ++ (text ++ paste_end)) (text ++ paste_end) (after_mark-written paste_start (text ++ paste_end)) ∙ paste_at-written text none

focus_gained-read : unit_at (27 ∷ 91 ∷ 73 ∷ []) ≡ Some (focus_gained, [])
unfolding units_computed
focus_gained-read = refl

focus_lost-read : unit_at (27 ∷ 91 ∷ 79 ∷ []) ≡ Some (focus_lost, [])
unfolding units_computed
focus_lost-read = refl

-- ---- all rows

pub written-read : (bytes : List ℕ) (value : EventValue) → IsSentFor bytes value → unit_at bytes ≡ Some (value, [])
written-read bytes value (key_row row h) = key_row-read row h
written-read bytes value (alt_key_row row h) = alt_key_row-read row h
written-read bytes value (character_row c s h k) = character-read c s h k
written-read bytes value (alt_character_row c s h k l m n) = alt_character-read c s h k l m n
written-read bytes value (paste_row text none) = paste-read text none
written-read bytes value (mouse_row m is h k) = mouse-read m is h k
written-read bytes value (wheel_up_row column row ctrl alt shift h k) = wheel_up-read column row ctrl alt shift h k
written-read bytes value (wheel_down_row column row ctrl alt shift h k) = wheel_down-read column row ctrl alt shift h k
written-read bytes value (size_row columns rows h k) = size-read columns rows h k
written-read bytes value (cursor_row column row h k) = cursor-read column row h k
written-read bytes value focus_gained_row = focus_gained-read
written-read bytes value focus_lost_row = focus_lost-read

-- a row is read, whatever comes after it
pub written-read_before : (bytes : List ℕ) (value : EventValue) (more : List ℕ) → IsSentFor bytes value → unit_at (bytes ++ more) ≡ Some (value, more)
written-read_before bytes value more h = (unit_at-consumed bytes (value, []) (written-read bytes value h)).same more

decoding-nil : decoding [] ≡ ([], [])
decoding-nil = decoding-none [] unit_at-nil

pub rows-read : (rows : List (List ℕ × EventValue)) → AllByRecursion (λ r. IsSentFor r.0 r.1) rows → decoding (bytes_of_rows rows) ≡ (map (λ r. r.1) rows, [])
rows-read [] h = decoding-nil
rows-read (r ∷ rows) h =
    decoding-some (r.0 ++ bytes_of_rows rows) (r.1, bytes_of_rows rows) (written-read_before r.0 r.1 (bytes_of_rows rows) h.0)
    ∙ ap (with_event r.1) (rows-read rows h.1)
