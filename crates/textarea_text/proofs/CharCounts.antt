-- The characters of a text, counted by the bytes that begin them.
use Rattle.std.proofs.Common.{true, false, Bool, ◌≡◌, ℕ, ◌+◌, ◌<◌, ◌≤◌, suc, List, [], ◌∷◌, ◌++◌, length, sym, ap, refl, ◌∙◌, arith, encode_utf8_all, slice_index_or, take, drop, if◌then◌else◌}
use Rattle.textarea_text.proofs.Prelude.{common_steps, nat_tests, length-take-le, take_more, take-append-drop, encodes-chars}
use mathlib.Core.Bool.{cond}
use lib.Utf8.{encode, next}
use Rattle.textarea_text.specs.Prelude.{char_count, is_char_start, chars, IsUtf8}
use mir.Val.{bool_byte}

pub char_count-append : (xs ys : List ℕ) → char_count (xs ++ ys) ≡ char_count xs + char_count ys
unfolding char_count
char_count-append [] ys = omega arith
char_count-append (x ∷ xs) ys = omega (arith, char_count-append xs ys)

one_more-le : (b : Bool) (m n : ℕ) → m ≤ n → (if b then 1 else 0) + m ≤ suc n
one_more-le true m n le = omega arith
one_more-le false m n le = omega arith

pub char_count-le-length : (xs : List ℕ) → char_count xs ≤ length xs
unfolding char_count
char_count-le-length [] = omega arith
char_count-le-length (x ∷ xs) = one_more-le (is_char_start x) (char_count xs) (length xs) (char_count-le-length xs)

pub begins-ascii : (b : ℕ) → b < 128 → is_char_start b ≡ true
begins-ascii b h = grind (arith, nat_tests)

pub begins-wide : (b : ℕ) → 192 ≤ b → is_char_start b ≡ true
begins-wide b h = grind (arith, nat_tests)

continues : (b : ℕ) → 128 ≤ b → b < 192 → is_char_start b ≡ false
continues b l h = grind (arith, nat_tests)

-- the bytes of a character: the first begins it, and the others continue it
by_width : (a b d : Bool) (c w x y z u v : ℕ) → (a ≡ true → is_char_start c ≡ true) → is_char_start w ≡ true → is_char_start y ≡ true → is_char_start v ≡ true →
    is_char_start x ≡ false → is_char_start z ≡ false → is_char_start u ≡ false →
    char_count (cond a (c ∷ []) (cond b (w ∷ x ∷ []) (cond d (y ∷ z ∷ x ∷ []) (v ∷ u ∷ z ∷ x ∷ [])))) ≡ 1
unfolding char_count
by_width true b d c w x y z u v hc hw hy hv hx hz hu = rw (hc refl) refl
by_width false true d c w x y z u v hc hw hy hv hx hz hu = rw (hw, hx) refl
by_width false false true c w x y z u v hc hw hy hv hx hz hu = rw (hy, hz, hx) refl
by_width false false false c w x y z u v hc hw hy hv hx hz hu = rw (hv, hu, hz, hx) refl

follows : (x : ℕ) → is_char_start (next x) ≡ false
follows x = continues (next x) (omega arith) (omega arith)

char_count-encode : (c : ℕ) → char_count (encode c) ≡ 1
unfolding encode
char_count-encode c =
    grind (arith, common_steps, by_width, begins-ascii, begins-wide, follows)

pub char_count-encodes : (cs : List ℕ) → char_count (encode_utf8_all cs) ≡ length cs
unfolding char_count
char_count-encodes [] = refl
char_count-encodes (c ∷ cs) = omega (arith, char_count-append (encode c) (encode_utf8_all cs), char_count-encode c, char_count-encodes cs)

pub char_count-is : (bs : List ℕ) → IsUtf8 bs → char_count bs ≡ length (chars bs)
char_count-is bs text = ap char_count (sym (encodes-chars bs text)) ∙ char_count-encodes (chars bs)

single : (x m : ℕ) (b : Bool) → b ≡ is_char_start x → m ≡ bool_byte b → char_count (x ∷ []) ≡ m
unfolding char_count
single x m true e is = rw (← e, is) refl
single x m false e is = rw (← e, is) refl

-- one byte more
pub char_count-more : (bs : List ℕ) (n m : ℕ) (b : Bool) → n < length bs → b ≡ is_char_start (slice_index_or bs n 0) → m ≡ bool_byte b → char_count (take (n + 1) bs) ≡ char_count (take n bs) + m
char_count-more bs n m b within e is =
    ap char_count (take_more bs n 0 within) ∙ char_count-append (take n bs) (slice_index_or bs n 0 ∷ []) ∙ ap (λ k. char_count (take n bs) + k) (single (slice_index_or bs n 0) m b e is)

pub char_count-take-le : (bs : List ℕ) (n : ℕ) → n ≤ length bs → char_count (take n bs) ≤ n
char_count-take-le bs n within = omega (arith, char_count-le-length (take n bs), length-take-le n bs within)

pub char_count-nil : char_count [] ≡ 0
unfolding char_count
char_count-nil = refl

pub char_count-parts : (bs front back : List ℕ) (n : ℕ) → front ≡ take n bs → back ≡ drop n bs → char_count front + char_count back ≡ char_count bs
char_count-parts bs front back n front_is back_is =
    rw (front_is, back_is) (sym (char_count-append (take n bs) (drop n bs)) ∙ ap char_count (take-append-drop n bs))
