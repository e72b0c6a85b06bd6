-- Where a splice moves the positions of a text.
use Rattle.std.proofs.Common.{◌≡◌, ℕ, ◌+◌, ◌⊎◌, inl, inr, Bool, true, false, List, [], ◌∷◌, ◌++◌, length, take, drop, sym, ap, refl, ◌∙◌, arith, subst}
use Rattle.textarea_text.proofs.Prelude.{common_steps, nat_tests, append_assoc, length-append, take-append-drop, take_at, drop_at}
use Rattle.textarea_text.specs.Prelude.{Symbol, Character, Break, Place, IsBefore, IsPlace, IsUpTo, end, index_of, Splice, Allows, Fits, applied, place_after, place_before, FollowsText, Stays, carried_place, carried_index, shifted}
use Rattle.textarea_text.proofs.Splices.{end-append, inserted_at, removed_at}
use Rattle.textarea_text.proofs.TextPlaces.{Parted, index_parted, parted, place_parted, standing}

-- ---- a splice divides the text: before it, what it removes, what it inserts, and after it

pub record Spliced (text : List Symbol) (splice : Splice) : Type 0 where
  pub front : List Symbol
  pub gone : List Symbol
  pub come : List Symbol
  pub back : List Symbol
  pub was : text ≡ front ++ (gone ++ back)
  pub now : applied text splice ≡ front ++ (come ++ back)
  pub starts : end (0, 0) front ≡ splice.place
  pub before : end splice.place gone ≡ place_before splice
  pub after : end splice.place come ≡ place_after splice
  pub index : (n : ℕ) → carried_index splice (length gone + n) ≡ length come + n

spliced_in : (text : List Symbol) (place : Place) (symbols : List Symbol) → Parted text place → Spliced text (record { place = place; symbols = symbols; inserts = true })
spliced_in text place symbols components = record {
  front = components.front;
  gone = [];
  come = symbols;
  back = components.back;
  was = components.is;
  now = ap (λ t. applied t (record { place = place; symbols = symbols; inserts = true })) components.is
      ∙ inserted_at components.front components.back symbols place (index_parted place components.front components.back components.ends);
  starts = components.ends;
  before = refl;
  after = refl;
  index = λ n. omega arith;
}

spliced_out : (text : List Symbol) (place : Place) (symbols : List Symbol) (components : Parted text place) → take (length symbols) components.back ≡ symbols → Spliced text (record { place = place; symbols = symbols; inserts = false })
spliced_out text place symbols components occurs =
    let rest = drop (length symbols) components.back in
    let was : text ≡ components.front ++ (symbols ++ rest) =
    components.is ∙ ap (λ t. components.front ++ t) (sym (take-append-drop (length symbols) components.back) ∙ ap (λ t. t ++ rest) occurs) in
    record {
      front = components.front;
      gone = symbols;
      come = [];
      back = rest;
      was = was;
      now = ap (λ t. applied t (record { place = place; symbols = symbols; inserts = false })) was
          ∙ removed_at components.front rest symbols place (index_parted place components.front (symbols ++ rest) components.ends);
      starts = components.ends;
      before = refl;
      after = refl;
      index = λ n. omega arith;
    }

spliced_by : (inserts : Bool) (text : List Symbol) (place : Place) (symbols : List Symbol) → IsPlace text place → Allows inserts text place symbols → Spliced text (record { place = place; symbols = symbols; inserts = inserts })
spliced_by true text place symbols h allowed = spliced_in text place symbols (parted text place h)
spliced_by false text place symbols h allowed =
    let components = parted text place h in
    spliced_out text place symbols components (standing text place symbols components allowed)

pub spliced : (text : List Symbol) (splice : Splice) → Fits text splice → Spliced text splice
spliced text splice h = spliced_by splice.inserts text splice.place splice.symbols h.is_place h.allowed

-- ---- the order of positions, and where symbols end

pub end_from : (place : Place) (symbols : List Symbol) → IsUpTo place (end place symbols)
end_from place [] = (omega arith, λ same. omega arith)
end_from place (Character c ∷ symbols) =
    grind (arith, common_steps, end_from (place.0, place.1 + 1) symbols)
end_from place (Break ∷ symbols) =
    grind (arith, common_steps, end_from (place.0 + 1, 0) symbols)

pub end_after : (place : Place) (symbol : Symbol) (symbols : List Symbol) → IsBefore place (end place (symbol ∷ symbols))
end_after place (Character c) symbols =
    grind (arith, common_steps, end_from (place.0, place.1 + 1) symbols)
end_after place Break symbols =
    grind (arith, common_steps, end_from (place.0 + 1, 0) symbols)

never : (one other : Place) → IsBefore one other → IsUpTo other one → ⊥
never one other h k = grind (arith, nat_tests)

-- ---- the end of symbols moves with their position

shifted_none : (old new : Place) → shifted old new old ≡ new
shifted_none old new = grind (arith, nat_tests)

shifted_column : (old new place : Place) → IsUpTo (old.0, old.1 + 1) place → shifted old new place ≡ shifted (old.0, old.1 + 1) (new.0, new.1 + 1) place
shifted_column old new place h = grind (arith, nat_tests)

shifted_row : (old new place : Place) → IsUpTo (old.0 + 1, 0) place → shifted old new place ≡ shifted (old.0 + 1, 0) (new.0 + 1, 0) place
shifted_row old new place h = grind (arith, nat_tests)

pub shifted_end : (old new : Place) (symbols : List Symbol) → shifted old new (end old symbols) ≡ end new symbols
shifted_end old new [] = shifted_none old new
shifted_end old new (Character c ∷ symbols) =
    grind (arith, common_steps, shifted_column old new (end (old.0, old.1 + 1) symbols) (end_from (old.0, old.1 + 1) symbols), end_from (old.0, old.1 + 1) symbols, shifted_end (old.0, old.1 + 1) (new.0, new.1 + 1) symbols)
shifted_end old new (Break ∷ symbols) =
    grind (arith, common_steps, shifted_row old new (end (old.0 + 1, 0) symbols) (end_from (old.0 + 1, 0) symbols), end_from (old.0 + 1, 0) symbols, shifted_end (old.0 + 1, 0) (new.0 + 1, 0) symbols)

-- ---- two prefixes of one text: one is a prefix of the other

fork : (xs ys zs ws : List Symbol) → xs ++ ys ≡ zs ++ ws → ((more : List Symbol) × (xs ≡ zs ++ more) × (ws ≡ more ++ ys)) ⊎ ((symbol : Symbol) × (more : List Symbol) × (zs ≡ xs ++ (symbol ∷ more)))
fork xs ys [] ws e = inl (xs, refl, sym e)
fork [] ys (z ∷ zs) ws e = inr (z, zs, refl)
fork (x ∷ xs) ys (z ∷ zs) ws e =
    let first : x ≡ z = cc in
    let rest : xs ++ ys ≡ zs ++ ws = cc in
    elim (fork xs ys zs ws rest) [
      | inl found ↦ inl (found.0, (ap (λ (s : Symbol). s ∷ xs) first ∙ ap (λ t. z ∷ t) found.1), found.2)
      | inr found ↦ inr (found.0, found.1, (ap (λ (s : Symbol). s ∷ zs) (sym first) ∙ ap (λ t. x ∷ t) found.2))
    ]

-- ---- the text before a position before the splice stays, and so does the text after one after it

pub record FrontStays (text : List Symbol) (splice : Splice) (front : List Symbol) : Type 0 where
  pub back : List Symbol
  pub is : applied text splice ≡ front ++ back

pub front_stays : (text : List Symbol) (splice : Splice) → Fits text splice → (place : Place) (components : Parted text place) → IsUpTo place splice.place → FrontStays text splice components.front
front_stays text splice h place components up =
    let split_text = spliced text splice h in
    elim (fork split_text.front (split_text.gone ++ split_text.back) components.front components.back (sym split_text.was ∙ components.is)) [
      | inl found ↦ record {
        back = found.0 ++ (split_text.come ++ split_text.back);
        is = split_text.now ∙ ap (λ t. t ++ (split_text.come ++ split_text.back)) found.1 ∙ append_assoc components.front found.0 (split_text.come ++ split_text.back);
      }
      | inr found ↦
          let ends : end splice.place (found.0 ∷ found.1) ≡ place =
          ap (λ (p : Place). end p (found.0 ∷ found.1)) (sym split_text.starts) ∙ sym (end-append (0, 0) split_text.front (found.0 ∷ found.1))
          ∙ ap (end (0, 0)) (sym found.2) ∙ components.ends in
          absurd (never splice.place place (subst (IsBefore splice.place) ends (end_after splice.place found.0 found.1)) up)
    ]

pub record BackStays (text : List Symbol) (splice : Splice) (place : Place) (back : List Symbol) : Type 0 where
  pub front : List Symbol
  pub is : applied text splice ≡ front ++ back
  pub ends : end (0, 0) front ≡ carried_place splice place
  pub index : length front ≡ carried_index splice (index_of text place)

pub back_stays : (text : List Symbol) (splice : Splice) → Fits text splice → (place : Place) (components : Parted text place) → IsUpTo (place_before splice) place → BackStays text splice place components.back
back_stays text splice h place components up =
    let split_text = spliced text splice h in
    let old : end (0, 0) (split_text.front ++ split_text.gone) ≡ place_before splice =
    end-append (0, 0) split_text.front split_text.gone ∙ ap (λ (p : Place). end p split_text.gone) split_text.starts ∙ split_text.before in
    let new : end (0, 0) (split_text.front ++ split_text.come) ≡ place_after splice =
    end-append (0, 0) split_text.front split_text.come ∙ ap (λ (p : Place). end p split_text.come) split_text.starts ∙ split_text.after in
    elim (fork components.front components.back (split_text.front ++ split_text.gone) split_text.back (sym components.is ∙ split_text.was ∙ sym (append_assoc split_text.front split_text.gone split_text.back))) [
      | inl found ↦
          let more = found.0 in
          let there : end (place_before splice) more ≡ place =
          ap (λ (p : Place). end p more) (sym old) ∙ sym (end-append (0, 0) (split_text.front ++ split_text.gone) more)
          ∙ ap (end (0, 0)) (sym found.1) ∙ components.ends in
          let at : index_of text place ≡ length split_text.gone + (length split_text.front + length more) =
          ap (λ t. index_of t place) components.is ∙ index_parted place components.front components.back components.ends
          ∙ omega (arith, ap length found.1, length-append (split_text.front ++ split_text.gone) more, length-append split_text.front split_text.gone) in
          record {
            front = (split_text.front ++ split_text.come) ++ more;
            is = split_text.now ∙ sym (append_assoc split_text.front split_text.come split_text.back)
                ∙ ap (λ t. (split_text.front ++ split_text.come) ++ t) found.2
                ∙ sym (append_assoc (split_text.front ++ split_text.come) more components.back);
            ends = end-append (0, 0) (split_text.front ++ split_text.come) more
                ∙ ap (λ (p : Place). end p more) new
                ∙ sym (shifted_end (place_before splice) (place_after splice) more)
                ∙ ap (carried_place splice) there;
            index = omega (arith, length-append (split_text.front ++ split_text.come) more, length-append split_text.front split_text.come)
                ∙ sym (split_text.index (length split_text.front + length more)) ∙ ap (carried_index splice) (sym at);
          }
      | inr found ↦
          let ends : end place (found.0 ∷ found.1) ≡ place_before splice =
          ap (λ (p : Place). end p (found.0 ∷ found.1)) (sym components.ends) ∙ sym (end-append (0, 0) components.front (found.0 ∷ found.1))
          ∙ ap (end (0, 0)) (sym found.2) ∙ old in
          absurd (never place (place_before splice) (subst (IsBefore place) ends (end_after place found.0 found.1)) up)
    ]

-- ---- the same for positions

pub stays : (text : List Symbol) (splice : Splice) (place : Place) → Fits text splice → IsPlace text place → IsUpTo place splice.place → Stays text splice place
stays text splice place h is_place up =
    let components = parted text place is_place in
    let retained = front_stays text splice h place components up in
    let at : index_of text place ≡ length components.front =
    ap (λ t. index_of t place) components.is ∙ index_parted place components.front components.back components.ends in
    let now : index_of (applied text splice) place ≡ length components.front =
    ap (λ t. index_of t place) retained.is ∙ index_parted place components.front retained.back components.ends in
    record {
      is_place = subst (λ t. IsPlace t place) (sym retained.is) (place_parted place components.front retained.back components.ends);
      index = now ∙ sym at;
      before = ap (λ n. take n (applied text splice)) at
          ∙ ap (take (length components.front)) retained.is
          ∙ take_at components.front retained.back (length components.front) refl
          ∙ sym (take_at components.front components.back (length components.front) refl)
          ∙ ap (take (length components.front)) (sym components.is)
          ∙ ap (λ n. take n text) (sym at);
    }

pub follows_splice : (text : List Symbol) (splice : Splice) (place : Place) → Fits text splice → IsPlace text place → IsUpTo (place_before splice) place → FollowsText text splice place
follows_splice text splice place h is_place up =
    let components = parted text place is_place in
    let retained = back_stays text splice h place components up in
    let at : index_of text place ≡ length components.front =
    ap (λ t. index_of t place) components.is ∙ index_parted place components.front components.back components.ends in
    let now : index_of (applied text splice) (carried_place splice place) ≡ length retained.front =
    ap (λ t. index_of t (carried_place splice place)) retained.is ∙ index_parted (carried_place splice place) retained.front components.back retained.ends in
    record {
      is_place = subst (λ t. IsPlace t (carried_place splice place)) (sym retained.is) (place_parted (carried_place splice place) retained.front components.back retained.ends);
      index = now ∙ retained.index;
      after = ap (λ n. drop n (applied text splice)) now
          ∙ ap (drop (length retained.front)) retained.is
          ∙ drop_at retained.front components.back (length retained.front) refl
          ∙ sym (drop_at components.front components.back (length components.front) refl)
          ∙ ap (drop (length components.front)) (sym components.is)
          ∙ ap (λ n. drop n text) (sym at);
    }
