-- The steps of `replace_items` as equations of lists.
use Rattle.std.proofs.Common.{◌≡◌, ℕ, ◌+◌, ◌-◌, ◌≤◌, List, ◌++◌, length, take, drop, sym, ap, ◌∙◌, arith}
use Rattle.std.proofs.lemmas.List.{append_assoc, take_at, drop_at, take_all, drop-drop, length-append, length-drop, length-take-le, take-append-drop}
use Rattle.textarea_util.specs.Replaced.{replaced}

pub take_two : {X : Type 0} (above middle below : List X) (n : ℕ) → length above + length middle ≡ n → take n (above ++ (middle ++ below)) ≡ above ++ middle
take_two above middle below n e =
    ap (take n) (sym (append_assoc above middle below)) ∙ take_at (above ++ middle) below n (length-append above middle ∙ e)

pub drop_two : {X : Type 0} (above middle below : List X) (n : ℕ) → length above + length middle ≡ n → drop n (above ++ (middle ++ below)) ≡ below
drop_two above middle below n e =
    ap (drop n) (sym (append_assoc above middle below)) ∙ drop_at (above ++ middle) below n (length-append above middle ∙ e)

pub length-replaced : {X : Type 0} (items : List X) (start count : ℕ) (new : List X) → start + count ≤ length items → length (replaced items start count new) + count ≡ length items + length new
length-replaced items start count new within =
    omega (arith, length-append (take start items) (new ++ drop (start + count) items), length-append new (drop (start + count) items), length-take-le start items (omega arith), length-drop (start + count) items)

-- fewer new items than old ones: the rest of the old ones is removed
pub replaced_by_fewer : {X : Type 0} (items new : List X) (start count shared : ℕ) → start + count ≤ length items → shared ≤ count → shared ≡ length new →
    take (start + shared) (replaced items start shared (take shared new)) ++ drop (start + count) (replaced items start shared (take shared new)) ≡ replaced items start count new
replaced_by_fewer items new start count shared within few all =
    let above = take start items in
    let below = drop (start + shared) items in
    let size : length above ≡ start = length-take-le start items (omega arith) in
    let same : take shared new ≡ new = take_all shared new (omega arith) in
    let more : (start + shared) + (count - shared) ≡ start + count = omega arith in
    let seam : length above + length new ≡ start + shared = omega arith in
    ap (λ t. take (start + shared) (above ++ (t ++ below)) ++ drop (start + count) (above ++ (t ++ below))) same
    ∙ ap (λ t. t ++ drop (start + count) (above ++ (new ++ below))) (take_two above new below (start + shared) seam)
    ∙ ap (λ n. (above ++ new) ++ drop n (above ++ (new ++ below))) (sym more)
    ∙ ap (λ t. (above ++ new) ++ t)
    (sym (drop-drop (count - shared) (start + shared) (above ++ (new ++ below)))
    ∙ ap (drop (count - shared)) (drop_two above new below (start + shared) seam)
    ∙ drop-drop (count - shared) (start + shared) items
    ∙ ap (λ n. drop n items) more)
    ∙ append_assoc above new (drop (start + count) items)

-- more new items than old ones: the rest is appended, and the items below are moved after it
pub replaced_by_more : {X : Type 0} (items new : List X) (start count shared below : ℕ) → start + count ≤ length items → shared ≡ count → shared ≤ length new →
    below ≡ length items - (start + shared) →
    take (start + shared) (replaced items start shared (take shared new) ++ drop shared new)
    ++ (drop (start + shared + below) (replaced items start shared (take shared new) ++ drop shared new)
    ++ take below (drop (start + shared) (replaced items start shared (take shared new) ++ drop shared new))) ≡ replaced items start count new
replaced_by_more items new start count shared below within all some size =
    let above = take start items in
    let first = take shared new in
    let rest = drop shared new in
    let under = drop (start + shared) items in
    let seam : length above + length first ≡ start + shared = omega (arith, length-take-le start items (omega arith), length-take-le shared new some) in
    let low : length under ≡ below = omega (arith, length-drop (start + shared) items) in
    let whole : (above ++ (first ++ under)) ++ rest ≡ above ++ (first ++ (under ++ rest)) = append_assoc above (first ++ under) rest ∙ ap (λ t. above ++ t) (append_assoc first under rest) in
    let front : take (start + shared) ((above ++ (first ++ under)) ++ rest) ≡ above ++ first = ap (take (start + shared)) whole ∙ take_two above first (under ++ rest) (start + shared) seam in
    let after : drop (start + shared) ((above ++ (first ++ under)) ++ rest) ≡ under ++ rest = ap (drop (start + shared)) whole ∙ drop_two above first (under ++ rest) (start + shared) seam in
    let last : drop (start + shared + below) ((above ++ (first ++ under)) ++ rest) ≡ rest =
    sym (drop-drop below (start + shared) ((above ++ (first ++ under)) ++ rest)) ∙ ap (drop below) after ∙ drop_at under rest below low in
    ap (λ t. t ++ (drop (start + shared + below) ((above ++ (first ++ under)) ++ rest) ++ take below (drop (start + shared) ((above ++ (first ++ under)) ++ rest)))) front
    ∙ ap (λ t. (above ++ first) ++ (t ++ take below (drop (start + shared) ((above ++ (first ++ under)) ++ rest)))) last
    ∙ ap (λ t. (above ++ first) ++ (rest ++ take below t)) after
    ∙ ap (λ t. (above ++ first) ++ (rest ++ t)) (take_at under rest below low)
    ∙ append_assoc above first (rest ++ under)
    ∙ ap (λ t. above ++ t) (sym (append_assoc first rest under) ∙ ap (λ t. t ++ under) (take-append-drop shared new))
    ∙ ap (λ n. above ++ (new ++ drop (start + n) items)) all
