-- Control characters, counted in parts of a line.
use Rattle.std.proofs.Common.{true, false, Bool, ◌≡◌, ℕ, ◌+◌, ◌<◌, ◌≤◌, List, length, sym, ap, ◌∙◌, arith, slice_index_or, take, drop}
use Rattle.std.proofs.lemmas.List.{length-take-le, take-append-drop}
use Rattle.std.proofs.lemmas.List.Sums.{count_by-le-length, count_by_more_no, count_by_more_yes, sum_by-append}
use Rattle.std.specs.List.{count_by}
use Rattle.textarea_editor.specs.ControlCharacters.{is_control}
use mathlib.Core.Bool.{cond}
use mir.Val.{bool_byte}

-- one byte more
pub controls-more : (bytes : List ℕ) (n m : ℕ) (b : Bool) → n < length bytes → b ≡ is_control (slice_index_or bytes n 0) → m ≡ bool_byte b →
    count_by is_control (take (n + 1) bytes) ≡ count_by is_control (take n bytes) + m
controls-more bytes n m true within e is = rw is (count_by_more_yes is_control bytes n 0 within (sym e))
controls-more bytes n m false within e is = rw is (count_by_more_no is_control bytes n 0 within (sym e) ∙ omega arith)

pub controls-take-le : (bytes : List ℕ) (n : ℕ) → n ≤ length bytes → count_by is_control (take n bytes) ≤ n
controls-take-le bytes n within = omega (arith, count_by-le-length is_control (take n bytes), length-take-le n bytes within)

pub controls-parts : (bytes front back : List ℕ) (n : ℕ) → front ≡ take n bytes → back ≡ drop n bytes → count_by is_control front + count_by is_control back ≡ count_by is_control bytes
controls-parts bytes front back n front_is back_is =
    rw (front_is, back_is) (sym (sum_by-append (λ x. cond (is_control x) 1 0) (take n bytes) (drop n bytes)) ∙ ap (count_by is_control) (take-append-drop n bytes))
