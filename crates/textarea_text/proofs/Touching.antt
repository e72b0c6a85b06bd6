-- The rows that symbols span.
use Rattle.std.proofs.Common.{◌≡◌, ℕ, ◌+◌, ◌<◌, List, [], ◌∷◌, ◌++◌, length, refl, arith}
use Rattle.textarea_text.specs.Prelude.{Symbol, Character, Break, characters, following, joined, Place, end, breaks_of}

pub breaks_of-append : (xs ys : List Symbol) → breaks_of (xs ++ ys) ≡ breaks_of xs + breaks_of ys
breaks_of-append [] ys = omega arith
breaks_of-append (Character c ∷ xs) ys = breaks_of-append xs ys
breaks_of-append (Break ∷ xs) ys = omega (arith, breaks_of-append xs ys)

pub breaks_of-characters : (cs : List ℕ) → breaks_of (characters cs) ≡ 0
breaks_of-characters [] = refl
breaks_of-characters (c ∷ cs) = breaks_of-characters cs

pub breaks_of-following : (rows : List (List ℕ)) → breaks_of (following rows) ≡ length rows
breaks_of-following [] = refl
breaks_of-following (line ∷ rows) =
    omega (arith, breaks_of-append (characters line) (following rows), breaks_of-characters line, breaks_of-following rows)

-- a fragment has a break between each two lines
pub breaks_of-joined : (rows : List (List ℕ)) → 0 < length rows → breaks_of (joined rows) + 1 ≡ length rows
breaks_of-joined [] some = absurd (omega arith)
breaks_of-joined (line ∷ rows) some =
    omega (arith, breaks_of-append (characters line) (following rows), breaks_of-characters line, breaks_of-following rows)

-- symbols end one row further down for each of their breaks
pub end_row : (place : Place) (symbols : List Symbol) → (end place symbols).0 ≡ place.0 + breaks_of symbols
end_row place [] = omega arith
end_row place (Character c ∷ symbols) = end_row (place.0, place.1 + 1) symbols
end_row place (Break ∷ symbols) = omega (arith, end_row (place.0 + 1, 0) symbols)
