-- The text between two positions.
use Rattle.std.proofs.Common.{◌≡◌, ℕ, ◌+◌, ◌-◌, ◌≤◌, ◌<◌, List, [], ◌∷◌, ◌++◌, length, length-append, map, take, drop, get_or, sym, ap, ◌∙◌, subst, arith, String, Global}
use Rattle.std.proofs.lemmas.List.{append-nil, length-drop, length-take-le, map-append}
use Rattle.std.proofs.Math.Seq.{take-add}
use Rattle.textarea_document.specs.Prelude.{IfSome, Symbol, characters, characters_of, lines_of, text_of, Place, IsPlace, OccursAt, end, index_of, Splice, Fits, Stored, IsWellFormed, symbols_between, removal}
use Rattle.textarea_text.proofs.TextPlaces.{index_within, place_of-index}
use Rattle.textarea_text.proofs.Splices.{end-append}

length-segment : (text : List Symbol) (from to : Place) → IsPlace text to → index_of text from ≤ index_of text to → length (symbols_between text from to) ≡ index_of text to - index_of text from
length-segment text from to h ordered =
    let i = index_of text from in
    let j = index_of text to in
    length-take-le (j - i) (drop i text) (omega (arith, length-drop i text, index_within text to h))

-- the text between two positions is at the first, and ends at the second
pub between_occurs : (text : List Symbol) (from to : Place) → IsPlace text to → index_of text from ≤ index_of text to → OccursAt text from (symbols_between text from to)
between_occurs text from to h ordered = ap (λ n. take n (drop (index_of text from) text)) (length-segment text from to h ordered)

pub between_ends : (text : List Symbol) (from to : Place) → IsPlace text from → IsPlace text to → index_of text from ≤ index_of text to → to ≡ end from (symbols_between text from to)
between_ends text from to h h' ordered =
    let i = index_of text from in
    let j = index_of text to in
    let size : j ≡ i + (j - i) = omega arith in
    sym (place_of-index text to h')
    ∙ ap (λ n. end (0, 0) (take n text)) size
    ∙ ap (end (0, 0)) (take-add i (j - i) text)
    ∙ end-append (0, 0) (take i text) (take (j - i) (drop i text))
    ∙ ap (λ (p : Place). end p (symbols_between text from to)) (place_of-index text from h)

pub between_some : (text : List Symbol) (from to : Place) → IsPlace text to → index_of text from < index_of text to → 0 < length (symbols_between text from to)
between_some text from to h ordered = omega (arith, length-segment text from to h (omega arith))

-- its removal fits the text
pub removal_fits : (text : List Symbol) (from to : Place) → IsPlace text from → IsPlace text to → index_of text from < index_of text to → Fits text (removal text from to)
removal_fits text from to h h' ordered = record { some = between_some text from to h' ordered; is_place = h; allowed = between_occurs text from to h' (omega arith) }

-- an edit of this splice with these ends is well formed
pub well_formed : (edit : Stored) (splice : Splice) → edit.splice ≡ splice → 0 < length splice.symbols → edit.end ≡ end splice.place splice.symbols → IfSome edit.fragment_lines (λ n. 2 ≤ n) →
    IsWellFormed edit
well_formed edit splice is some ends fragment_lines = record {
  some = subst (λ (s : Splice). 0 < length s.symbols) (sym is) some;
  fragment_lines = fragment_lines;
  ends = ends ∙ ap (λ (s : Splice). end s.place s.symbols) (sym is);
}

-- a fragment with a symbol has at least one string
pub some_lines : {Z : Type 0} (fragment_lines : List (String Z)) {symbols : List Symbol} → text_of fragment_lines ≡ symbols → 0 < length symbols → 0 < length fragment_lines
some_lines [] e some = omega (arith, ap length e)
some_lines (fragment_line ∷ fragment_lines) e some = omega arith

-- the line of a fragment of one line, or of a copy of it
pub only_text : (fragment_lines copies : List (String Global)) (rest : List (String Global)) (line : String Global) → lines_of copies ≡ lines_of fragment_lines → length fragment_lines ≡ 1 →
    copies ≡ rest ++ line ∷ [] → characters (characters_of line) ≡ text_of fragment_lines
only_text [] copies rest line same one is = absurd (omega (arith, one))
only_text (first ∷ second ∷ more) copies rest line same one is = absurd (omega (arith, one))
only_text (first ∷ []) copies rest line same one is =
    let copied : lines_of (rest ++ line ∷ []) ≡ characters_of first ∷ [] = ap lines_of (sym is) ∙ same in
    ap characters (last_of rest copied) ∙ sym (append-nil (characters (characters_of first)))
  where
    last_of : (rest : List (String Global)) → lines_of (rest ++ line ∷ []) ≡ characters_of first ∷ [] → characters_of line ≡ characters_of first
    last_of [] e = ap (λ (lines : List (List ℕ)). get_or lines 0 []) e
    last_of (other ∷ rest) e = absurd (omega (arith, ap length e, ap length (map-append characters_of rest (line ∷ [])), length-append (map characters_of rest) (characters_of line ∷ [])))
