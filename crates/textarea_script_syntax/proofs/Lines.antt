-- The meanings of lines, and the lines of a script one after another.
use Rattle.std.proofs.Common.{◌≡◌, ℕ, ◌+◌, ◌<◌, Bool, true, false, if◌then◌else◌, List, [], ◌∷◌, ◌++◌, length, map, take, nat_lt, Option, Some, None, is_some, refl, ap, subst, ◌∙◌, arith}
use Rattle.std.specs.Prelude.{IsUtf8, filter}
use Rattle.std.specs.Str.{is_utf8}
use Rattle.std.specs.List.{list_all}
use Rattle.std.proofs.lemmas.List.{append-nil, map-append, take_more}
use Rattle.std.proofs.lemmas.List.Elements.{filter-append}
use Rattle.std.proofs.lemmas.Bool.{false_from_ne_true}
use Rattle.std.proofs.lemmas.Bool.Decides.{nat_tests}
use Rattle.textarea_script_syntax.proofs.Scripts.{IsTurn}
use Rattle.std.proofs.lemmas.Str.{IsUtf8-from_is_utf8, is_utf8-from_IsUtf8}
use Rattle.textarea_script_syntax.specs.Commands.{line_meaning}
use Rattle.textarea_script_syntax.specs.Meaning.{Meaning}
use Rattle.textarea_script_syntax.specs.Script.{is_filled_line, meaning_of_line, meanings_of_lines}

pub meaning_of_line-utf8 : (line : List ℕ) → IsUtf8 line → meaning_of_line line ≡ line_meaning line
unfolding meaning_of_line
meaning_of_line-utf8 line text = ap (λ (test : Bool). if test then line_meaning line else None) (is_utf8-from_IsUtf8 line text)

pub meaning_of_line-other : (line : List ℕ) → (IsUtf8 line → ⊥) → meaning_of_line line ≡ None
unfolding meaning_of_line
meaning_of_line-other line other =
    ap (λ (test : Bool). if test then line_meaning line else None) (false_from_ne_true (is_utf8 line) (λ test. other (IsUtf8-from_is_utf8 line test)))

-- ---- ---- the lines up to one of them

meanings_of_lines-append : (lines : List (List ℕ)) (line : List ℕ) (more : List (List ℕ)) → filter (λ line. is_filled_line line) (line ∷ []) ≡ more
    → meanings_of_lines (lines ++ line ∷ []) ≡ meanings_of_lines lines ++ map meaning_of_line more
meanings_of_lines-append lines line more is =
    ap (map meaning_of_line) (filter-append (λ line. is_filled_line line) lines (line ∷ []) ∙ ap (λ (rest : List (List ℕ)). filter (λ line. is_filled_line line) lines ++ rest) is)
    ∙ map-append meaning_of_line (filter (λ line. is_filled_line line) lines) more

next_line : (lines : List (List ℕ)) (count index : ℕ) (line : List ℕ) → IsTurn lines count index line → take (count + 1) lines ≡ take count lines ++ line ∷ []
next_line lines count index line turn = take_more lines count line turn.within ∙ ap (λ (l : List ℕ). take count lines ++ l ∷ []) turn.line_is

-- an empty line adds no meaning
pub meanings_of_lines-empty : (lines : List (List ℕ)) (count index : ℕ) (line : List ℕ) → IsTurn lines count index line → length line ≡ 0 → meanings_of_lines (take (count + 1) lines) ≡ meanings_of_lines (take count lines)
meanings_of_lines-empty lines count index line turn none =
    let test : is_filled_line line ≡ false = ap (nat_lt 0) none in
    ap meanings_of_lines (next_line lines count index line turn)
    ∙ meanings_of_lines-append (take count lines) line [] (ap (λ (test : Bool). if test then line ∷ [] else []) test)
    ∙ append-nil (meanings_of_lines (take count lines))

-- a line that is not empty adds one meaning
pub meanings_of_lines-filled : (lines : List (List ℕ)) (count index : ℕ) (line : List ℕ) → IsTurn lines count index line → 0 < length line
    → meanings_of_lines (take (count + 1) lines) ≡ meanings_of_lines (take count lines) ++ meaning_of_line line ∷ []
meanings_of_lines-filled lines count index line turn some =
    let test : is_filled_line line ≡ true = grind (arith, nat_tests) in
    ap meanings_of_lines (next_line lines count index line turn)
    ∙ meanings_of_lines-append (take count lines) line (line ∷ []) (ap (λ (test : Bool). if test then line ∷ [] else []) test)

all_some : {C : Type 0} → (view : C → Meaning) (commands : List C) → list_all (λ (one : Option Meaning). is_some one) (map (λ command. Some (view command)) commands) ≡ true
all_some view [] = refl
all_some view (command ∷ commands) = all_some view commands

-- if each line is read, each has a meaning
pub all_meanings : {C : Type 0} → (view : C → Meaning) (commands : List C) (meaning : List (Option Meaning)) → map (λ command. Some (view command)) commands ≡ meaning → list_all (λ one. is_some one) meaning ≡ true
all_meanings view commands meaning is = subst (λ (m : List (Option Meaning)). list_all (λ one. is_some one) m ≡ true) is (all_some view commands)
