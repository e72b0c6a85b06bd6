-- The one line that symbols without a break change.
use Rattle.std.proofs.lemmas.Grind.{common_steps}
use Rattle.std.proofs.Common.{◌≡◌, ℕ, ◌+◌, ◌<◌, Bool, true, false, cond, List, [], ◌∷◌, ◌++◌, length, take, drop, get_or, sym, ap, refl, ◌∙◌, arith, subst}
use Rattle.std.proofs.lemmas.List.{append-nil, length-append, length-take-le, take_at}
use Rattle.textarea_util.specs.Replaced.{replaced}
use Rattle.textarea_text.specs.Text.{Symbol, Character, Break, characters, joined, lines}
use Rattle.textarea_text.specs.Place.{Place, IsPlace, IsPlaceOf, changed, end, inserted, removed}
use Rattle.textarea_text.specs.Splice.{Splice, Allows, Fits, applied}
use Rattle.textarea_text.specs.Touched.{breaks_of}
use Rattle.textarea_text.proofs.Splices.{characters-append, lines-joined}
use Rattle.textarea_text.proofs.StringRows.{changed_by_none, rows_replaced, occurs_until}
use Rattle.textarea_text.proofs.Touching.{end_row}

only_characters : (symbols : List Symbol) → breaks_of symbols ≡ 0 → (cs : List ℕ) × (symbols ≡ characters cs)
only_characters [] e = ([], refl)
only_characters (Character c ∷ symbols) e =
    let rest = only_characters symbols e in (c ∷ rest.0, ap (λ t. Character c ∷ t) rest.1)
only_characters (Break ∷ symbols) e = absurd (omega arith)

-- the lines are the same but for the one of the place, which is the same before the place
pub record ChangesLine (rows new : List (List ℕ)) (place : Place) : Type 0 where
  pub line : List ℕ
  pub within : place.0 < length rows
  pub new_is : new ≡ replaced rows place.0 1 (line ∷ [])
  pub front : take place.1 line ≡ take place.1 (get_or rows place.0 [])

line_between :
    (rows new : List (List ℕ)) (start to : Place) (symbols : List Symbol) → 0 < length new → IsPlaceOf rows start → IsPlaceOf rows to → to.0 ≡ start.0
    → breaks_of symbols ≡ 0 → joined new ≡ changed (joined rows) start to symbols → ChangesLine rows new start
line_between rows new start to symbols some h h' same none e =
    let cs = only_characters symbols none in
    let old = get_or rows start.0 [] in
    let head = take start.1 old in
    let tail = drop to.1 (get_or rows to.0 []) in
    let line = head ++ (cs.0 ++ tail) in
    let is : joined (line ∷ []) ≡ characters head ++ (symbols ++ characters tail) =
    append-nil (characters line) ∙ characters-append head (cs.0 ++ tail)
    ∙ ap (λ t. characters head ++ t) (characters-append cs.0 tail ∙ ap (λ t. t ++ characters tail) (sym cs.1)) in
    let whole = rows_replaced rows (line ∷ []) start to symbols h h' (omega arith, is) in
    let there : 0 < length (take start.0 rows ++ (line ∷ drop (to.0 + 1) rows)) =
    omega (arith, length-append (take start.0 rows) (line ∷ drop (to.0 + 1) rows)) in
    record {
      line = line;
      within = h.0;
      new_is = sym (lines-joined new some) ∙ ap lines (e ∙ sym whole) ∙ lines-joined (take start.0 rows ++ (line ∷ drop (to.0 + 1) rows)) there
          ∙ ap (λ n. take start.0 rows ++ (line ∷ drop (n + 1) rows)) same;
      front = take_at head (cs.0 ++ tail) start.1 (length-take-le start.1 old h.1);
    }

line_of_splice :
    (b : Bool) (rows new : List (List ℕ)) (place : Place) (symbols : List Symbol) → 0 < length new → IsPlaceOf rows place → 0 < length rows
    → Allows b (joined rows) place symbols → breaks_of symbols ≡ 0 → joined new ≡ cond b (inserted (joined rows) place symbols) (removed (joined rows) place symbols) → ChangesLine rows new place
line_of_splice true rows new place symbols some h some' allowed none e =
    line_between rows new place place symbols some h h refl none e
line_of_splice false rows new place symbols some h some' allowed none e =
    let text = joined rows in
    let is_place : IsPlace text place = subst (λ (t : List (List ℕ)). IsPlaceOf t place) (sym (lines-joined rows some')) h in
    let to = end place symbols in
    let there : IsPlaceOf rows to = subst (λ (t : List (List ℕ)). IsPlaceOf t to) (lines-joined rows some') (occurs_until text place symbols is_place allowed).0 in
    line_between rows new place to [] some h there (omega (arith, end_row place symbols)) refl
    (e ∙ sym (changed_by_none text place to symbols [] is_place allowed refl refl))

-- a splice without a break changes only one line
pub changes_line : (rows new : List (List ℕ)) (splice : Splice) → 0 < length rows → 0 < length new → Fits (joined rows) splice → breaks_of splice.symbols ≡ 0 → joined new ≡ applied (joined rows) splice → ChangesLine rows new splice.place
changes_line rows new splice some some' fits none e =
    grind (arith, common_steps, line_of_splice, lines-joined rows some)
