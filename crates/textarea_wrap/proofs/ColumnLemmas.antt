-- Columns of characters and of segments that are put together.
use Rattle.textarea_wrap.proofs.Prelude.{common_steps, div-add-mod, mul-le-mul_left, le-div, mod_below, nat_tests, flat_map-append, length-encode, len_utf8_bounds}
use Rattle.std.proofs.Common.{length, length-append, ◌≡◌, ℕ, ◌+◌, ◌-◌, ◌%◌, ◌<◌, ◌≤◌, true, false, cond, nat_eq, le_refl, le_trans, List, [], ◌∷◌, ◌++◌, refl, sym, ap, subst, ◌∙◌, append-nil, arith}
use Rattle.textarea_wrap.specs.Prelude.{flat_map, chars, Stretch, plain_width, next_stop, column_after, end_column, stretch_width}
use Rattle.std.specs.Prelude.{encode_utf8}

-- the text after a character is shorter
pub shorter_after : (c : ℕ) (left text : List ℕ) → text ≡ encode_utf8 c ++ left → length left + 1 ≤ length text
shorter_after c left text is = omega (arith, ap length is, length-append (encode_utf8 c) left, length-encode c, len_utf8_bounds c)

pub end_column-append : (tab_len column : ℕ) (cs ds : List ℕ) → end_column tab_len column (cs ++ ds) ≡ end_column tab_len (end_column tab_len column cs) ds
end_column-append tab_len column [] ds = refl
end_column-append tab_len column (c ∷ cs) ds = end_column-append tab_len (column_after tab_len column c) cs ds

pub stretch_width-one : (tab_len : ℕ) (segment : List ℕ) → stretch_width tab_len (segment ∷ []) ≡ end_column tab_len 0 (chars segment)
stretch_width-one tab_len segment = ap (end_column tab_len 0) (append-nil (chars segment))

pub stretch_width-push : (tab_len : ℕ) (stretch : List (List ℕ)) (segment : List ℕ) → stretch_width tab_len (stretch ++ segment ∷ []) ≡ end_column tab_len (stretch_width tab_len stretch) (chars segment)
stretch_width-push tab_len stretch segment =
    grind (arith, common_steps, flat_map-append chars stretch (segment ∷ []), append-nil (chars segment), end_column-append tab_len 0 (flat_map chars stretch) (chars segment))

-- ---- columns that begin later

stop-le : (t x y : ℕ) → 0 < t → x ≤ y → x + (t - x % t) ≤ y + (t - y % t)
stop-le t x y some h = grind (arith, common_steps, le-div, div-add-mod x t, div-add-mod y t, mod_below x t some, mod_below y t some, mul-le-mul_left)

next_stop-le : (t x y : ℕ) → x ≤ y → next_stop t x ≤ next_stop t y
next_stop-le t x y h = grind (arith, nat_tests, stop-le t x y)

pub next_stop-after : (t x : ℕ) → x ≤ next_stop t x
next_stop-after t x = grind (arith, nat_tests)

column_after-le : (t x y c : ℕ) → x ≤ y → column_after t x c ≤ column_after t y c
column_after-le t x y c h = grind (arith, common_steps, next_stop-le t x y h)

column_after-after : (t x c : ℕ) → x ≤ column_after t x c
column_after-after t x c =
    elim (nat_eq c 9) as (λ is_tab. x ≤ cond is_tab (next_stop t x) (x + plain_width c)) [ true ↦ next_stop-after t x | false ↦ omega arith ]

-- characters that begin later end no earlier
pub end_column-le : (t x y : ℕ) (cs : List ℕ) → x ≤ y → end_column t x cs ≤ end_column t y cs
end_column-le t x y [] h = h
end_column-le t x y (c ∷ cs) h = end_column-le t (column_after t x c) (column_after t y c) cs (column_after-le t x y c h)

pub end_column-after : (t x : ℕ) (cs : List ℕ) → x ≤ end_column t x cs
end_column-after t x [] = le_refl x
end_column-after t x (c ∷ cs) = le_trans (column_after-after t x c) (end_column-after t (column_after t x c) cs)

stretch_width-append : (t : ℕ) (front back : Stretch) → stretch_width t (front ++ back) ≡ end_column t (stretch_width t front) (flat_map chars back)
stretch_width-append t front back = ap (end_column t 0) (flat_map-append chars front back) ∙ end_column-append t 0 (flat_map chars front) (flat_map chars back)

-- a stretch that begins later is never wider, tabs included
pub stretch_width-back : (t : ℕ) (front back : Stretch) → stretch_width t back ≤ stretch_width t (front ++ back)
stretch_width-back t front back =
    subst (λ n. stretch_width t back ≤ n) (sym (stretch_width-append t front back)) (end_column-le t 0 (stretch_width t front) (flat_map chars back) (omega arith))

pub stretch_width-front : (t : ℕ) (front back : Stretch) → stretch_width t front ≤ stretch_width t (front ++ back)
stretch_width-front t front back =
    subst (λ n. stretch_width t front ≤ n) (sym (stretch_width-append t front back)) (end_column-after t (stretch_width t front) (flat_map chars back))
