-- Positions of a text and of some of its lines.
use Rattle.std.proofs.lemmas.Grind.{common_steps}
use Rattle.std.proofs.Common.{◌≡◌, ℕ, zero, suc, ◌+◌, ◌-◌, ◌<◌, ◌≤◌, List, [], ◌∷◌, map, length, get_or, take, drop, refl, sym, le_of_suc-le-suc, ap, ◌∙◌, subst, arith, string_bytes, Global, Option, None, Some, IfSome}
use Rattle.std.specs.Prelude.{String}
use Rattle.std.specs.Str.{chars}
use Rattle.std.proofs.lemmas.List.{get_or-map, get_or-take, get_or-drop, take-map, drop-map, length-take-le, length-drop, take_rest}
use Rattle.textarea_search.specs.Starts.{IsPlaceFrom, IsPlaceIn, bytes_at}

abbrev texts_of : List (String Global) → List (List ℕ)
texts_of = map (λ line. chars (string_bytes line))

text_of_line : (lines : List (String Global)) (i : ℕ) (line : String Global) → i < length lines → line ≡ get_or lines i line →
    get_or (texts_of lines) i [] ≡ chars (string_bytes line)
text_of_line lines i line within is = get_or-map (λ (s : String Global). chars (string_bytes s)) lines i line [] within ∙ ap (λ (s : String Global). chars (string_bytes s)) (sym is)

-- a column of one of the lines
pub place_here : (lines : List (String Global)) (row i column : ℕ) (line : String Global) → i < length lines → line ≡ get_or lines i line →
    column ≤ length (chars (string_bytes line)) → IsPlaceFrom row lines (row + i, column)
place_here lines row i column line within is fits = grind (arith, common_steps, text_of_line lines i line within is)

-- the same by the bytes of the line
texts_at : (lines : List (String Global)) (row : ℕ) → row < length lines → get_or (texts_of lines) row [] ≡ chars (bytes_at lines row)
texts_at [] row within = absurd (omega arith)
texts_at (line ∷ lines) zero within = refl
texts_at (line ∷ lines) (suc row) within = texts_at lines row (le_of_suc-le-suc within)

pub place_at_bytes : (lines : List (String Global)) (row column : ℕ) → row < length lines → column ≤ length (chars (bytes_at lines row)) → IsPlaceIn lines (row, column)
place_at_bytes lines row column within fits = (within, subst (λ (cs : List ℕ). column ≤ length cs) (sym (texts_at lines row within)) fits)

-- a position in the lines before a row
pub place_in_front : (lines : List (String Global)) (n : ℕ) (p : ℕ × ℕ) → n ≤ length lines → IsPlaceFrom 0 (take n lines) p → IsPlaceIn lines p
place_in_front lines n p le h = grind (arith, common_steps, length-take-le n lines le, take-map, get_or-take)

-- a position in the lines from a row on
pub place_in_rest : (lines : List (String Global)) (n : ℕ) (p : ℕ × ℕ) → n ≤ length lines → IsPlaceFrom n (take (length lines - n) (drop n lines)) p → IsPlaceIn lines p
place_in_rest lines n p le supplied = grind (arith, common_steps, take_rest lines n, length-drop n lines, drop-map, get_or-drop)

pub place_of_some : {P Q : ℕ × ℕ → Type 0} (o : Option (ℕ × ℕ)) → IfSome o P → ((p : ℕ × ℕ) → P p → Q p) → IfSome o Q
place_of_some None h f = tt
place_of_some (Some p) h f = f p h
