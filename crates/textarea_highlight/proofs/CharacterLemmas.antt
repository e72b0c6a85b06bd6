-- The characters of a text with the bytes at which they begin.
use Rattle.std.proofs.Common.{◌≡◌, ℕ, zero, suc, ◌+◌, ◌<◌, ◌≤◌, List, [], ◌∷◌, ◌++◌, take, length, Option, None, Some, sym, ap, ◌∙◌, arith, encode_utf8, encode_utf8_all}
use Rattle.std.specs.Iterator.{AlwaysYields, SkipsThenYields}
use Rattle.std.specs.Prelude.{IfNone}
use Rattle.std.specs.List.{slice_get}
use Rattle.std.specs.Option.{option_map}
use Rattle.std.specs.Str.{chars, IsUtf8}
use Rattle.std.specs.Str.Iter.{char_indices_steps, char_indices_rest, char_indices_offset}
use Rattle.std.specs.declared.str.CharIndices.{CharIndices}
use Rattle.std.proofs.lemmas.List.{length-append}
use Rattle.std.proofs.lemmas.Iterator.Consumers.{nth_from_yields_List}
use Rattle.std.proofs.lemmas.Option.{same_Some}
use Rattle.std.proofs.lemmas.Str.{encode_same, encodes-chars}
use Rattle.textarea_wrap.proofs.ColumnLemmas.{shorter_after}

abbrev pub char_starts : ℕ → List ℕ → List (ℕ × ℕ)
char_starts at [] = []
char_starts at (c ∷ cs) = (at, c) ∷ char_starts (at + length (encode_utf8 c)) cs

pub pair_same : (p : ℕ × ℕ) (a b : ℕ) → p.0 ≡ a → p.1 ≡ b → p ≡ (a, b)
pair_same p a b e f = ap (λ (n : ℕ). (n, p.1)) e ∙ ap (λ (n : ℕ). (a, n)) f

pub indices_give : (at : ℕ) (cs : List ℕ) (s : CharIndices) → encode_utf8_all cs ≡ char_indices_rest s → char_indices_offset s ≡ at →
    AlwaysYields char_indices_steps (λ p. p) s (char_starts at cs)
indices_give at [] s e o = λ x j p. absurd (omega (arith, ap length e, shorter_after x.1 (char_indices_rest j) (char_indices_rest s) p.1))
indices_give at (c ∷ cs) s e o = (
  λ j p. absurd (omega (arith, p.0, shorter_after c (encode_utf8_all cs) (char_indices_rest s) (sym e))),
  λ x j p. let k = encode_same c x.1 (encode_utf8_all cs) (char_indices_rest j) (e ∙ p.1) in (
    pair_same x at c (p.0 ∙ o) (sym k.0),
    indices_give (at + length (encode_utf8 c)) cs j k.1 (p.2 ∙ ap (λ n. n + length (encode_utf8 x.1)) o ∙ ap (λ d. at + length (encode_utf8 d)) (sym k.0)),
  ),
)

-- the character of a column, with its bytes
pub record IsCharacterAt (at : ℕ) (cs : List ℕ) (column : ℕ) (p : ℕ × ℕ) : Type 0 where
  pub within : column < length cs
  pub start : p.0 ≡ at + length (encode_utf8_all (take column cs))
  pub end : p.0 + length (encode_utf8 p.1) ≡ at + length (encode_utf8_all (take (suc column) cs))

later : (at c : ℕ) (cs : List ℕ) (column : ℕ) (p : ℕ × ℕ) → IsCharacterAt (at + length (encode_utf8 c)) cs column p → IsCharacterAt at (c ∷ cs) (suc column) p
later at c cs column p h = record {
  within = omega (arith, h.within);
  start = omega (arith, h.start, length-append (encode_utf8 c) (encode_utf8_all (take column cs)));
  end = omega (arith, h.end, length-append (encode_utf8 c) (encode_utf8_all (take (suc column) cs)));
}

one : (at c : ℕ) → at + length (encode_utf8 c) ≡ at + length (encode_utf8 c ++ [])
one at c = omega (arith, length-append (encode_utf8 c) [])

first : (at c : ℕ) (cs : List ℕ) (p : ℕ × ℕ) → (at, c) ≡ p → IsCharacterAt at (c ∷ cs) zero p
first at c cs p e = record {
  within = omega arith;
  start = omega (arith, ap (λ (q : ℕ × ℕ). q.0) e);
  end = sym (ap (λ (q : ℕ × ℕ). q.0 + length (encode_utf8 q.1)) e) ∙ one at c;
}

pub character_at : (at : ℕ) (cs : List ℕ) (column : ℕ) (p : ℕ × ℕ) → slice_get (char_starts at cs) column ≡ Some p → IsCharacterAt at cs column p
character_at at [] column p e = cc
character_at at (c ∷ cs) zero p e = first at c cs p (same_Some (at, c) p e)
character_at at (c ∷ cs) (suc column) p e = later at c cs column p (character_at (at + length (encode_utf8 c)) cs column p e)

pub no_character_at : (at : ℕ) (cs : List ℕ) (column : ℕ) → slice_get (char_starts at cs) column ≡ None → length cs ≤ column
no_character_at at [] column e = omega arith
no_character_at at (c ∷ cs) zero e = cc
no_character_at at (c ∷ cs) (suc column) e = omega (arith, no_character_at (at + length (encode_utf8 c)) cs column e)

pub none_always : {X : Type 0} (P : Type 0) (o : Option X) → P → IfNone o P
none_always P None p = p
none_always P (Some x) p = tt

-- ---- the result of `nth`

module _ (row : List ℕ) (s u : CharIndices) (r : Option (ℕ × ℕ)) (column : ℕ) (utf8 : IsUtf8 row) (rest : char_indices_rest s ≡ row) (at : char_indices_offset s ≡ 0)
    (ran : SkipsThenYields char_indices_steps s column r u) where
  nth_is : option_map (λ (p : ℕ × ℕ). p) r ≡ slice_get (char_starts 0 (chars row)) column
  nth_is = nth_from_yields_List {steps = char_indices_steps} {s = s} r u column ran (record { runs = indices_give 0 (chars row) s (encodes-chars row utf8 ∙ sym rest) at })

  pub nth_some : (p : ℕ × ℕ) → r ≡ Some p → IsCharacterAt 0 (chars row) column p
  nth_some p e = character_at 0 (chars row) column p (sym nth_is ∙ ap (option_map (λ (q : ℕ × ℕ). q)) e)

  pub nth_none : r ≡ None → length (chars row) ≤ column
  nth_none e = no_character_at 0 (chars row) column (sym nth_is ∙ ap (option_map (λ (q : ℕ × ℕ). q)) e)

  pub nth_bytes : (p : ℕ × ℕ) (n : ℕ) → r ≡ Some p → n ≡ length (encode_utf8 p.1) →
      ◌≡◌ {A = ℕ × ℕ} (p.0, p.0 + n) (length (encode_utf8_all (take column (chars row))), length (encode_utf8_all (take (column + 1) (chars row))))
  nth_bytes p n e len =
      let found = nth_some p e in
      let more : suc column ≡ column + 1 = omega arith in
      let end : p.0 + n ≡ length (encode_utf8_all (take (suc column) (chars row))) = omega (arith, found.end, len) in
      pair_same (p.0, p.0 + n) _ _ (omega (arith, found.start)) (end ∙ ap (λ k. length (encode_utf8_all (take k (chars row)))) more)
