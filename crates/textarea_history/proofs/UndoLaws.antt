-- Splices one after another, and the undo of a run with the edit that joins it.
use Rattle.std.proofs.Common.{◌≡◌, ◌<◌, arith, Bool, true, false, not, List, [], ◌∷◌, ◌++◌, length, drop, sym, ap, refl, ◌∙◌, subst}
use Rattle.std.proofs.lemmas.List.{append_assoc, length-append, take-append-drop}
use Rattle.textarea_history.specs.Prelude.{Symbol, Place, IsPlace, OccursAt, end, inserted, removed, Splice, Fits, applied, inverse, place_before, place_after, CanApply, CanUndo, applied_all, merged}
use Rattle.textarea_text.proofs.Splices.{end-append, inserted_at, removed_at, occurs_at}
use Rattle.textarea_text.proofs.TextPlaces.{parted, standing, place_parted, index_parted}

pub inverse-inverse : (splice : Splice) → inverse (inverse splice) ≡ splice
inverse-inverse splice = ap (λ (b : Bool). record splice { inserts = b }) (not-not splice.inserts)
  where
    not-not : (b : Bool) → not (not b) ≡ b
    not-not true = refl
    not-not false = refl

pub applied_all-last : (text : List Symbol) (changes : List Splice) (splice : Splice) → applied_all text (changes ++ splice ∷ []) ≡ applied (applied_all text changes) splice
applied_all-last text [] splice = refl
applied_all-last text (change ∷ changes) splice = applied_all-last (applied text change) changes splice

pub CanApply-last : (text : List Symbol) (changes : List Splice) (splice : Splice) → CanApply text changes → Fits (applied_all text changes) splice → CanApply text (changes ++ splice ∷ [])
CanApply-last text [] splice can fits = (fits, tt)
CanApply-last text (change ∷ changes) splice can fits = (can.0, CanApply-last (applied text change) changes splice can.1 fits)

-- ---- a run and the edit that joins it

-- undoing the two as one splice fits if undoing each does, and leads to the same text
pub record Merges (text : List Symbol) (run edit : Splice) : Type 0 where
  pub fits : Fits (applied text edit) (inverse (merged run edit))
  pub back : applied (applied text edit) (inverse (merged run edit)) ≡ applied text (inverse run)

record SplitAtSymbols (text : List Symbol) (place : Place) (symbols : List Symbol) : Type 0 where
  front : List Symbol
  rest : List Symbol
  is : text ≡ front ++ (symbols ++ rest)
  ends : end (0, 0) front ≡ place

split_at_symbols : (text : List Symbol) (place : Place) (symbols : List Symbol) → IsPlace text place → OccursAt text place symbols → SplitAtSymbols text place symbols
split_at_symbols text place symbols h occurs =
    let components = parted text place h in
    record {
      front = components.front;
      rest = drop (length symbols) components.back;
      is = components.is ∙ ap (λ t. components.front ++ t) (sym (take-append-drop (length symbols) components.back) ∙ ap (λ t. t ++ drop (length symbols) components.back) (standing text place symbols components occurs));
      ends = components.ends;
    }

-- the text, grouped the other way, and where its first two lists end
after : (front symbols : List Symbol) (place to : Place) → end (0, 0) front ≡ place → end place symbols ≡ to → end (0, 0) (front ++ symbols) ≡ to
after front symbols place to e e' = end-append (0, 0) front symbols ∙ ap (λ (p : Place). end p symbols) e ∙ e'

merges_inserted : (text : List Symbol) (p q : Place) (s c : List Symbol) → 0 < length s → IsPlace text p → OccursAt text p s → end p s ≡ q →
    Merges text (record { place = p; symbols = s; inserts = true }) (record { place = q; symbols = c; inserts = true })
merges_inserted text p q s c some h occurs e =
    let components = split_at_symbols text p s h occurs in
    let f = components.front in
    let r = components.rest in
    let now : inserted text q c ≡ f ++ ((s ++ c) ++ r) =
    ap (λ t. inserted t q c) (components.is ∙ sym (append_assoc f s r))
    ∙ inserted_at (f ++ s) r c q (index_parted q (f ++ s) r (after f s p q components.ends e))
    ∙ append_assoc f s (c ++ r) ∙ ap (λ t. f ++ t) (sym (append_assoc s c r)) in
    record {
      fits = record {
        some = omega (arith, length-append s c);
        is_place = subst (λ t. IsPlace t p) (sym now) (place_parted p f ((s ++ c) ++ r) components.ends);
        allowed = subst (λ t. OccursAt t p (s ++ c)) (sym now) (occurs_at f r (s ++ c) p (index_parted p f ((s ++ c) ++ r) components.ends));
      };
      back = ap (λ t. removed t p (s ++ c)) now ∙ removed_at f r (s ++ c) p (index_parted p f ((s ++ c) ++ r) components.ends)
          ∙ sym (ap (λ t. removed t p s) components.is ∙ removed_at f r s p (index_parted p f (s ++ r) components.ends));
    }

merges_removed : (text : List Symbol) (p q : Place) (s c : List Symbol) → 0 < length s → IsPlace text q → OccursAt text q c → end q c ≡ p →
    Merges text (record { place = p; symbols = s; inserts = false }) (record { place = q; symbols = c; inserts = false })
merges_removed text p q s c some h occurs e =
    let components = split_at_symbols text q c h occurs in
    let g = components.front in
    let r = components.rest in
    let now : removed text q c ≡ g ++ r = ap (λ t. removed t q c) components.is ∙ removed_at g r c q (index_parted q g (c ++ r) components.ends) in
    record {
      fits = record { some = omega (arith, length-append c s); is_place = subst (λ t. IsPlace t q) (sym now) (place_parted q g r components.ends); allowed = tt };
      back = ap (λ t. inserted t q (c ++ s)) now ∙ inserted_at g r (c ++ s) q (index_parted q g r components.ends)
          ∙ ap (λ t. g ++ t) (append_assoc c s r) ∙ sym (append_assoc g c (s ++ r))
          ∙ sym (ap (λ t. inserted t p s) (components.is ∙ sym (append_assoc g c r)) ∙ inserted_at (g ++ c) r s p (index_parted p (g ++ c) r (after g c q p components.ends e)));
    }

pub merges : (text : List Symbol) (run edit : Splice) → Fits text (inverse run) → Fits text edit → edit.inserts ≡ run.inserts → place_after run ≡ place_before edit → Merges text run edit
merges text run edit back fits same meets = by run.inserts edit.inserts same run.place edit.place run.symbols edit.symbols back fits meets
  where
    by : (b b' : Bool) → b' ≡ b → (p q : Place) (s c : List Symbol) → Fits text (inverse (record { place = p; symbols = s; inserts = b })) →
        Fits text (record { place = q; symbols = c; inserts = b' }) → place_after (record { place = p; symbols = s; inserts = b }) ≡ place_before (record { place = q; symbols = c; inserts = b' }) →
        Merges text (record { place = p; symbols = s; inserts = b }) (record { place = q; symbols = c; inserts = b' })
    by true true same p q s c back fits meets = merges_inserted text p q s c back.some back.is_place back.allowed meets
    by false false same p q s c back fits meets = merges_removed text p q s c back.some fits.is_place fits.allowed (sym meets)
    by true false same p q s c back fits meets = absurd cc
    by false true same p q s c back fits meets = absurd cc

-- so if the edits of a log can be undone, they can be after an edit joins the newest one
pub CanUndo-merged : (text : List Symbol) (run edit : Splice) (rest : List Splice) → CanUndo text (run ∷ rest) → Fits text edit → edit.inserts ≡ run.inserts → place_after run ≡ place_before edit →
    CanUndo (applied text edit) (merged run edit ∷ rest)
CanUndo-merged text run edit rest can fits same meets =
    let m = merges text run edit can.0 fits same meets in
    (m.fits, subst (λ t. CanUndo t rest) (sym m.back) can.1)
