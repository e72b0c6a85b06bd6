-- Rows that are replaced in two steps.
use Rattle.std.proofs.lemmas.Grind.{common_steps}
use Rattle.std.proofs.Common.{◌≡◌, ℕ, ◌+◌, ◌≤◌, List, [], ◌++◌, length, take, drop, sym, ap, ◌∙◌, arith}
use Rattle.std.proofs.lemmas.List.{append_assoc, drop_at, drop-drop, length-take-le, take-append-drop, take-append-le, take-take}
use Rattle.textarea_util.specs.Replaced.{replaced}
use Rattle.textarea_util.proofs.Replacing.{drop_two, take_two}

-- first the first lines are replaced, then those after them are removed
pub rest_removed : {X : Type 0} (items new : List X) (row first rest : ℕ) → row ≤ length items → replaced (replaced items row first new) (row + length new) rest [] ≡ replaced items row (first + rest) new
rest_removed items new row first rest within =
    let above = take row items in
    let below = drop (row + first) items in
    let size : length above ≡ row = length-take-le row items within in
    let end : row + length new + rest ≡ row + length new + rest = omega arith in
    let seam : length above + length new ≡ row + length new = omega arith in
    let sum : row + first + rest ≡ row + (first + rest) = omega arith in
    ap (λ t. t ++ drop (row + length new + rest) (above ++ (new ++ below))) (take_two above new below (row + length new) seam)
    ∙ ap (λ t. (above ++ new) ++ t) (sym (drop-drop rest (row + length new) (above ++ (new ++ below))) ∙ ap (drop rest) (drop_two above new below (row + length new) seam) ∙ drop-drop rest (row + first) items ∙ ap (λ n. drop n items) sum)
    ∙ append_assoc above new (drop (row + (first + rest)) items)

-- first the last lines are removed, then those before them
pub first_removed : {X : Type 0} (items : List X) (row first rest : ℕ) → row + first ≤ length items → replaced (replaced items (row + first) rest []) row first [] ≡ replaced items row (first + rest) []
first_removed items row first rest within = grind (arith, common_steps, length-take-le (row + first) items within, take-append-le, take-take, drop_at)

-- nothing is removed, and nothing is added
pub none_removed : {X : Type 0} (items : List X) (n : ℕ) → replaced items n 0 [] ≡ items
none_removed items n = grind (arith, common_steps, take-append-drop n items)
