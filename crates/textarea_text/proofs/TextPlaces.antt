-- Positions of a text, and what a splice and its inverse do there.
use Rattle.std.proofs.Common.{◌≤◌, ◌≡◌, ℕ, ◌+◌, ◌-◌, ◌<◌, Bool, true, false, List, [], ◌∷◌, ◌++◌, length, take, drop, sym, ap, refl, ◌∙◌, arith, get_or, subst}
use Rattle.textarea_text.proofs.Prelude.{common_steps, append_assoc, length-append, take-append-drop, length-take-le, take_at, drop_at, get_or_at}
use Rattle.textarea_text.specs.Prelude.{Symbol, Character, Break, characters, following, leading, joined, lines, on_first, Place, end, index_of, place_of}
use Rattle.textarea_text.specs.Prelude.{inserted, removed, OccursAt, IsPlaceOf, IsPlace, IsSymbolBefore, Splice, Fits, Allows, applied, inverse, place_after}
use Rattle.textarea_text.proofs.Splices.{whole, index_after_rows, end_of_front, end-append, inserted_at, removed_at, occurs_at}
use Rattle.textarea_text.proofs.RowEdits.{rows_around, wrap_line}

-- ---- each text is whole lines and the start of one more

pub record SplitText (text : List Symbol) : Type 0 where
  pub above : List (List ℕ)
  pub start : List ℕ
  pub is : text ≡ leading above ++ characters start

split_more : (c : ℕ) (text : List Symbol) (above : List (List ℕ)) (start : List ℕ) → text ≡ leading above ++ characters start → SplitText (Character c ∷ text)
split_more c text [] start e = record { above = []; start = c ∷ start; is = ap (λ t. Character c ∷ t) e }
split_more c text (line ∷ above) start e = record { above = (c ∷ line) ∷ above; start = start; is = ap (λ t. Character c ∷ t) e }

pub split_text : (text : List Symbol) → SplitText text
split_text [] = record { above = []; start = []; is = refl }
split_text (Character c ∷ text) = let rest = split_text text in split_more c text rest.above rest.start rest.is
split_text (Break ∷ text) = let rest = split_text text in record { above = [] ∷ rest.above; start = rest.start; is = ap (λ t. Break ∷ t) rest.is }

-- the lines of a text of which a prefix is known
first_line : (line : List ℕ) (text : List Symbol) → (more : List ℕ) × (rest : List (List ℕ)) × (lines (characters line ++ text) ≡ (line ++ more) ∷ rest)
first_line [] [] = ([], [], refl)
first_line [] (Character c ∷ text) = let found = first_line [] text in (c ∷ found.0, found.1, ap (on_first c) found.2)
first_line [] (Break ∷ text) = ([], lines text, refl)
first_line (c ∷ line) text = let found = first_line line text in (found.0, found.1, ap (on_first c) found.2)

lines-line : (line : List ℕ) (text : List Symbol) → lines (characters line ++ (Break ∷ text)) ≡ line ∷ lines text
lines-line [] text = refl
lines-line (c ∷ line) text = ap (on_first c) (lines-line line text)

lines-leading : (above : List (List ℕ)) (text : List Symbol) → lines (leading above ++ text) ≡ above ++ lines text
lines-leading [] text = refl
lines-leading (line ∷ above) text =
    ap lines (append_assoc (characters line) (Break ∷ leading above) text)
    ∙ lines-line line (leading above ++ text)
    ∙ ap (λ t. line ∷ t) (lines-leading above text)

-- the end of a prefix is a position of the text, and the prefix's length is its index
pub IsPlace-end : (front back : List Symbol) → IsPlace (front ++ back) (end (0, 0) front)
IsPlace-end front back =
    let components = split_text front in
    let found = first_line components.start back in
    let above = components.above in
    let line = components.start ++ found.0 in
    let split = append_assoc (leading above) (characters components.start) back in
    let rows = lines-leading above (characters components.start ++ back) in
    let ends = end_of_front above components.start in
    grind (arith, common_steps, split, rows, ends, get_or_at above line found.1, length-append above (line ∷ found.1), length-append components.start found.0)

pub index_of-end : (front back : List Symbol) → index_of (front ++ back) (end (0, 0) front) ≡ length front
index_of-end front back =
    grind (arith, common_steps, split_text front, front, back, end_of_front, index_after_rows)

-- ---- a position splits the text

pub record Parted (text : List Symbol) (place : Place) : Type 0 where
  pub front : List Symbol
  pub back : List Symbol
  pub is : text ≡ front ++ back
  pub ends : end (0, 0) front ≡ place

unfoldable pub parted_rows : (rows : List (List ℕ)) (row column : ℕ) → IsPlaceOf rows (row, column) → Parted (joined rows) (row, column)
parted_rows rows row column place =
    let line = get_or rows row [] in
    record {
      front = leading (take row rows) ++ characters (take column line);
      back = characters (drop column line) ++ following (drop (row + 1) rows);
      is = ap joined (rows_around rows row place.0)
          ∙ whole (take row rows) (line ∷ []) (drop (row + 1) rows) (take column line) (characters (drop column line)) (omega arith) (wrap_line line column);
      ends = end_of_front (take row rows) (take column line)
          ∙ ap (λ (n : ℕ). (n, length (take column line))) (length-take-le row rows (omega (arith, place.0)))
          ∙ ap (λ (n : ℕ). (row, n)) (length-take-le column line place.1);
    }

on_first-joined : (c : ℕ) (rows : List (List ℕ)) → joined (on_first c rows) ≡ Character c ∷ joined rows
on_first-joined c [] = refl
on_first-joined c (line ∷ rest) = refl

following-lines : (text : List Symbol) → following (lines text) ≡ Break ∷ text
following-lines [] = refl
following-lines (Break ∷ text) = ap (λ t. Break ∷ t) (following-lines text)
following-lines (Character c ∷ text) = following-on_first c (lines text) text (following-lines text)
  where
    following-on_first : (c : ℕ) (rows : List (List ℕ)) (text : List Symbol) → following rows ≡ Break ∷ text → following (on_first c rows) ≡ Break ∷ (Character c ∷ text)
    following-on_first c [] text e = cc
    following-on_first c (line ∷ rest) text e = ap (λ t. Break ∷ (Character c ∷ drop 1 t)) e

-- joining the lines of a text gives back the text
pub joined-lines : (text : List Symbol) → joined (lines text) ≡ text
joined-lines [] = refl
joined-lines (Character c ∷ text) = on_first-joined c (lines text) ∙ ap (λ t. Character c ∷ t) (joined-lines text)
joined-lines (Break ∷ text) = following-lines text

pub parted : (text : List Symbol) (place : Place) → IsPlace text place → Parted text place
parted text place h =
    let components = parted_rows (lines text) place.0 place.1 h in
    record { front = components.front; back = components.back; is = sym (joined-lines text) ∙ components.is; ends = components.ends }

pub index_parted : (place : Place) (front back : List Symbol) → end (0, 0) front ≡ place → index_of (front ++ back) place ≡ length front
index_parted place front back e = ap (λ (p : Place). index_of (front ++ back) p) (sym e) ∙ index_of-end front back

pub place_parted : (place : Place) (front back : List Symbol) → end (0, 0) front ≡ place → IsPlace (front ++ back) place
place_parted place front back e = subst (IsPlace (front ++ back)) e (IsPlace-end front back)

-- a position is the one at its index, which is at most the text's length
index_front : (text : List Symbol) (place : Place) (h : IsPlace text place) → index_of text place ≡ length (parted text place h).front
index_front text place h =
    grind (arith, common_steps, parted text place h, index_parted)

pub place_of-index : (text : List Symbol) (place : Place) → IsPlace text place → place_of text (index_of text place) ≡ place
place_of-index text place h =
    grind (arith, common_steps, parted text place h, index_front text place h, take_at)

pub index_within : (text : List Symbol) (place : Place) → IsPlace text place → index_of text place ≤ length text
index_within text place h =
    grind (arith, common_steps, parted text place h, index_front text place h, length-append)

-- ---- the text at a position

pub standing : (text : List Symbol) (place : Place) (symbols : List Symbol) (components : Parted text place) → OccursAt text place symbols → take (length symbols) components.back ≡ symbols
standing text place symbols components h =
    grind (arith, common_steps, index_parted place components.front components.back components.ends, drop_at components.front components.back (length components.front))

-- ---- a splice and its inverse

-- the inverse of a splice fits the text after it, and gives back the text
pub record TakesBack (text : List Symbol) (splice : Splice) : Type 0 where
  pub fits : Fits (applied text splice) (inverse splice)
  pub back : applied (applied text splice) (inverse splice) ≡ text
  pub is_place : IsPlace (applied text splice) (place_after splice)

inserted_parted : (text : List Symbol) (place : Place) (symbols : List Symbol) (components : Parted text place) → inserted text place symbols ≡ components.front ++ (symbols ++ components.back)
inserted_parted text place symbols components =
    ap (λ t. inserted t place symbols) components.is ∙ inserted_at components.front components.back symbols place (index_parted place components.front components.back components.ends)

removed_parted : (front back symbols : List Symbol) (place : Place) → end (0, 0) front ≡ place → removed (front ++ (symbols ++ back)) place symbols ≡ front ++ back
removed_parted front back symbols place e = removed_at front back symbols place (index_parted place front (symbols ++ back) e)

takes_back_inserted : (text : List Symbol) (place : Place) (symbols : List Symbol) (components : Parted text place) → 0 < length symbols → TakesBack text (record { place = place; symbols = symbols; inserts = true })
takes_back_inserted text place symbols components some =
    let now : inserted text place symbols ≡ components.front ++ (symbols ++ components.back) = inserted_parted text place symbols components in
    let whole_place : IsPlace (components.front ++ (symbols ++ components.back)) place = place_parted place components.front (symbols ++ components.back) components.ends in
    let occurs : OccursAt (components.front ++ (symbols ++ components.back)) place symbols = occurs_at components.front components.back symbols place (index_parted place components.front (symbols ++ components.back) components.ends) in
    let ended : IsPlace ((components.front ++ symbols) ++ components.back) (end place symbols) =
    place_parted (end place symbols) (components.front ++ symbols) components.back (end-append (0, 0) components.front symbols ∙ ap (λ (p : Place). end p symbols) components.ends) in
    record {
      fits = record {
        some = some;
        is_place = subst (λ t. IsPlace t place) (sym now) whole_place;
        allowed = subst (λ t. OccursAt t place symbols) (sym now) occurs;
      };
      back = ap (λ t. removed t place symbols) now ∙ removed_parted components.front components.back symbols place components.ends ∙ sym components.is;
      is_place = subst (λ t. IsPlace t (end place symbols)) (append_assoc components.front symbols components.back ∙ sym now) ended;
    }

takes_back_removed : (text : List Symbol) (place : Place) (symbols : List Symbol) (components : Parted text place) → 0 < length symbols → OccursAt text place symbols →
    TakesBack text (record { place = place; symbols = symbols; inserts = false })
takes_back_removed text place symbols components some occurs =
    let rest = drop (length symbols) components.back in
    let was : text ≡ components.front ++ (symbols ++ rest) =
    components.is ∙ ap (λ t. components.front ++ t) (sym (take-append-drop (length symbols) components.back) ∙ ap (λ t. t ++ rest) (standing text place symbols components occurs)) in
    let now : removed text place symbols ≡ components.front ++ rest = ap (λ t. removed t place symbols) was ∙ removed_parted components.front rest symbols place components.ends in
    let whole_place : IsPlace (components.front ++ rest) place = place_parted place components.front rest components.ends in
    record {
      fits = record { some = some; is_place = subst (λ t. IsPlace t place) (sym now) whole_place; allowed = tt };
      back = ap (λ t. inserted t place symbols) now ∙ inserted_at components.front rest symbols place (index_parted place components.front rest components.ends) ∙ sym was;
      is_place = subst (λ t. IsPlace t place) (sym now) whole_place;
    }

takes_back_by : (inserts : Bool) (text : List Symbol) (place : Place) (symbols : List Symbol) → 0 < length symbols → IsPlace text place → Allows inserts text place symbols →
    TakesBack text (record { place = place; symbols = symbols; inserts = inserts })
takes_back_by true text place symbols some h allowed = takes_back_inserted text place symbols (parted text place h) some
takes_back_by false text place symbols some h allowed = takes_back_removed text place symbols (parted text place h) some allowed

pub takes_back : (text : List Symbol) (splice : Splice) → Fits text splice → TakesBack text splice
takes_back text splice h = takes_back_by splice.inserts text splice.place splice.symbols h.some h.is_place h.allowed

-- ---- the symbol before a position

pub is_before : (text : List Symbol) (start : Place) (symbol : Symbol) (place : Place) → IsPlace text start → OccursAt text start (symbol ∷ []) → place ≡ end start (symbol ∷ []) → IsSymbolBefore text place start symbol
is_before text start symbol place h occurs e =
    let components = parted text start h in
    let found : take 1 components.back ≡ symbol ∷ [] = standing text start (symbol ∷ []) components occurs in
    let split : text ≡ (components.front ++ symbol ∷ []) ++ drop 1 components.back =
    components.is ∙ ap (λ t. components.front ++ t) (sym (take-append-drop 1 components.back) ∙ ap (λ t. t ++ drop 1 components.back) found)
    ∙ sym (append_assoc components.front (symbol ∷ []) (drop 1 components.back)) in
    let ended : end (0, 0) (components.front ++ symbol ∷ []) ≡ place =
    end-append (0, 0) components.front (symbol ∷ []) ∙ ap (λ (p : Place). end p (symbol ∷ [])) components.ends ∙ sym e in
    let after : index_of text place ≡ length (components.front ++ symbol ∷ []) =
    ap (λ t. index_of t place) split ∙ index_parted place (components.front ++ symbol ∷ []) (drop 1 components.back) ended in
    let at : index_of text place - 1 ≡ length components.front = omega (arith, length-append components.front (symbol ∷ [])) in
    record {
      index = omega (arith, length-append components.front (symbol ∷ []));
      start_is = ap (λ n. end (0, 0) (take n text)) at ∙ ap (λ t. end (0, 0) (take (length components.front) t)) components.is
          ∙ ap (end (0, 0)) (take_at components.front components.back (length components.front) refl) ∙ components.ends;
      symbol_is = ap (λ n. take 1 (drop n text)) at ∙ ap (λ t. take 1 (drop (length components.front) t)) components.is
          ∙ ap (take 1) (drop_at components.front components.back (length components.front) refl) ∙ found;
      is_place = h;
      occurs = occurs;
      ends = e;
    }

-- ---- splices of any symbols
