-- Searches of lines, as searches of the text.
use Rattle.std.proofs.Common.{◌≡◌, ◌∙◌, ℕ, ◌<◌, Bool, List, [], ◌∷◌, length, map, Option, Some, None, IfSome, Result, Ok, Err, IfOk, OnOk, ap, sym, refl, subst, arith, encode_utf8_all, String, string_bytes, Global}
use Rattle.std.specs.declared.alloc.AllocError.{AllocError}
use Rattle.std.proofs.lemmas.Str.{IsUtf8-string_bytes, encodes-chars}
use Rattle.std.proofs.lemmas.List.{length-map}
use Rattle.textarea_text.specs.Text.{Symbol, characters_of, lines, lines_of}
use Rattle.textarea_text.specs.Place.{Place, IsPlace, IsPlaceOf}
use Rattle.textarea_search.specs.Matches.{match_columns}
use Rattle.textarea_search.specs.Starts.{IsPlaceIn, starts_from, starts_of}
use Rattle.textarea_document.specs.DocumentState.{DocumentState}
use Rattle.tui_textarea.specs.Search.{starts_in}

-- the bytes of lines, by their characters
pub bytes_of : (strings : List (String Global)) → map string_bytes strings ≡ map encode_utf8_all (lines_of strings)
bytes_of [] = refl
bytes_of (s ∷ strings) =
    ap (λ (line : List ℕ). line ∷ map string_bytes strings) (sym (encodes-chars (string_bytes s) (IsUtf8-string_bytes s)))
    ∙ ap (λ (rest : List (List ℕ)). encode_utf8_all (characters_of s) ∷ rest) (bytes_of strings)

-- the starts in a text are those in its lines
pub starts_are : (pattern : Option (List ℕ)) (strings : List (String Global)) (text : List Symbol) → lines_of strings ≡ lines text → starts_of pattern strings ≡ starts_in pattern text
starts_are None strings text e = refl
starts_are (Some pattern) strings text e =
    ap (starts_from (match_columns pattern) 0) (bytes_of strings ∙ ap (map encode_utf8_all) e)

-- a search of the lines of a document's text, from its cursor, is one of the text
pub search_is : (leads : List Place → Place → Bool → Option Place) (pattern : Option (List ℕ)) (strings : List (String Global)) (document : DocumentState) (cursor : Place) (at_cursor : Bool)
    → lines_of strings ≡ lines document.text → cursor ≡ document.cursor
    → leads (starts_of pattern strings) cursor at_cursor ≡ leads (starts_in pattern document.text) document.cursor at_cursor
search_is leads pattern strings document cursor at_cursor e at =
    ap (λ starts. leads starts cursor at_cursor) (starts_are pattern strings document.text e)
    ∙ ap (λ (place : Place). leads (starts_in pattern document.text) place at_cursor) at

-- a position in the lines is one in the text
in_text : (found : Option Place) (strings : List (String Global)) (text : List Symbol) → lines_of strings ≡ lines text → IfSome found (IsPlaceIn strings) → IfSome found (IsPlace text)
in_text None strings text e within = tt
in_text (Some place) strings text e within =
    let row : place.0 < length (lines_of strings) = omega (arith, within.0, length-map strings characters_of) in
    subst (λ (rows : List (List ℕ)). IsPlaceOf rows place) e (row, within.1)

-- the same for a position that a search of the lines found
pub target_in_text : (result : Result (Option Place) AllocError) (leads : Option Place) (strings : List (String Global)) (text : List Symbol)
    → lines_of strings ≡ lines text → IfOk result (λ found. found ≡ leads) → IfOk result (λ found. IfSome found (IsPlaceIn strings))
    → OnOk result (IfSome leads (IsPlace text))
target_in_text (Ok found) leads strings text e is within =
    subst (λ (f : Option Place). IfSome f (IsPlace text)) is (in_text found strings text e within)
target_in_text (Err error) leads strings text e is within = tt
