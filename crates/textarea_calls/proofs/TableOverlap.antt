-- A test finds the cases of a table that have an input in common, without trying inputs. If it
-- finds none, no two cases have one.
use Rattle.std.proofs.Common.{◌≡◌, ℕ, ◌+◌, ◌≤◌, Bool, true, false, cond, ◌&&◌, ◌||◌, not, List, [], ◌∷◌, refl, ap, subst, arith}
use Rattle.std.proofs.lemmas.Bool.{and_from, and_parts, eqb-true, false≢true, or_right}
use Rattle.std.proofs.lemmas.List.Sums.{sum_by-cons}
use Rattle.std.specs.Prelude.{count_by}
use Rattle.std.specs.List.{list_any}
use Rattle.textarea_data.specs.declared.input.Input.{Input}
use Rattle.textarea_data.specs.declared.input.Key.{Key}
use Rattle.textarea_data.specs.declared.input.Key.TheVariants as key
use Rattle.textarea_calls.specs.Table.{ModifierRule, Keys, these, characters_but, Inputs, ActionRow, HasNoOverlap, has_modifiers, is_same_key, has_key, is_among, fits_row}

-- ---- tests

or_grows : (a b c d : Bool) → (a ≡ true → b ≡ true) → (c ≡ true → d ≡ true) → (a || c) ≡ true → (b || d) ≡ true
or_grows true b c d first rest h = rw (first refl)
or_grows false b c d first rest h = rw (rest h) (or_right b true refl)

-- if some element passes a test, some element passes each weaker test
any_grows : {X : Type 0} (p q : X → Bool) (xs : List X) → ((x : X) → p x ≡ true → q x ≡ true) → list_any p xs ≡ true → list_any q xs ≡ true
any_grows p q [] each h = h
any_grows p q (x ∷ xs) each h =
    or_grows (p x) (q x) (list_any p xs) (list_any q xs) (each x) (any_grows p q xs each) h

not_true : (a : Bool) → not a ≡ true → a ≡ true → ⊥
not_true true h e = false≢true h
not_true false h e = false≢true e

count_step : (b rest : Bool) (count : ℕ) → ((b || rest) ≡ true → ⊥) → ((rest ≡ true → ⊥) → count ≡ 0) → cond b 1 0 + count ≡ 0
count_step true rest count none later = absurd (none refl)
count_step false rest count none later = rw (later none)

-- if no element passes, the count is 0
count_none : {X : Type 0} (p : X → Bool) (xs : List X) → (list_any p xs ≡ true → ⊥) → count_by p xs ≡ 0
count_none p [] none = refl
count_none p (x ∷ xs) none =
    rw (sum_by-cons (λ y. cond (p y) 1 0) x xs)
    (count_step (p x) (list_any p xs) (count_by p xs) none (count_none p xs))

-- ---- inputs

same : (one other : Key) → is_same_key one other ≡ true → one ≡ other
same (key.Char c) (key.Char d) h = ap key.Char (eqb-true c d h)
same (key.F m) (key.F n) h = ap key.F (eqb-true m n h)
same key.Backspace key.Backspace h = refl
same key.Enter key.Enter h = refl
same key.Left key.Left h = refl
same key.Right key.Right h = refl
same key.Up key.Up h = refl
same key.Down key.Down h = refl
same key.Tab key.Tab h = refl
same key.Delete key.Delete h = refl
same key.Home key.Home h = refl
same key.End key.End h = refl
same key.PageUp key.PageUp h = refl
same key.PageDown key.PageDown h = refl
same key.Esc key.Esc h = refl
same key.Copy key.Copy h = refl
same key.Cut key.Cut h = refl
same key.Paste key.Paste h = refl
same key.MouseScrollDown key.MouseScrollDown h = refl
same key.MouseScrollUp key.MouseScrollUp h = refl
same key.Null key.Null h = refl
same _ _ h = absurd (false≢true h)

-- whether two sets of keys share a key; two sets of all characters except some always do
abbrev share : Keys → Keys → Bool
share (these keys) others = list_any (has_key others) keys
share (characters_but left_out) (these keys) = list_any (has_key (characters_but left_out)) keys
share (characters_but left_out) (characters_but others) = true

share_has : (keys others : Keys) (asked : Key) → has_key keys asked ≡ true → has_key others asked ≡ true → share keys others ≡ true
share_has (these keys) others asked h k =
    any_grows (is_same_key asked) (has_key others) keys (λ x e. subst (λ y. has_key others y ≡ true) (same asked x e) k) h
share_has (characters_but left_out) (these keys) asked h k =
    any_grows (is_same_key asked) (has_key (characters_but left_out)) keys
    (λ x e. subst (λ y. has_key (characters_but left_out) y ≡ true) (same asked x e) h) k
share_has (characters_but left_out) (characters_but others) asked h k = refl

-- whether two requirements on modifier keys can be met together
abbrev meet : ModifierRule → ModifierRule → Bool
meet one other =
    has_modifiers one false false && has_modifiers other false false || (has_modifiers one true false && has_modifiers other true false
    || (has_modifiers one false true && has_modifiers other false true || has_modifiers one true true && has_modifiers other true true))

meet_modifiers : (one other : ModifierRule) (with_ctrl with_alt : Bool) → has_modifiers one with_ctrl with_alt ≡ true → has_modifiers other with_ctrl with_alt ≡ true → meet one other ≡ true
meet_modifiers one other false false h k = rw (h, k)
meet_modifiers one other true false h k = rw (h, k) (or_right _ true refl)
meet_modifiers one other false true h k = rw (h, k) (rw (or_right _ true refl) (or_right _ true refl))
meet_modifiers one other true true h k = rw (h, k) (rw (or_right _ true refl) (rw (or_right _ true refl) (or_right _ true refl)))

-- whether two sets of inputs share an input
abbrev overlap : Inputs → Inputs → Bool
overlap (modifiers, keys) (other_modifiers, other_keys) = meet modifiers other_modifiers && share keys other_keys

overlap_among : (input : Input) (one other : Inputs) → is_among input one ≡ true → is_among input other ≡ true → overlap one other ≡ true
overlap_among input (modifiers, keys) (other_modifiers, other_keys) h k =
    let one = and_parts (has_modifiers modifiers input.ctrl input.alt) (has_key keys input.key) h in
    let other = and_parts (has_modifiers other_modifiers input.ctrl input.alt) (has_key other_keys input.key) k in
    and_from _ _ (meet_modifiers modifiers other_modifiers input.ctrl input.alt one.0 other.0) (share_has keys other_keys input.key one.1 other.1)

-- ---- ---- cases

-- whether two cases share an input
abbrev rows_overlap : ActionRow → ActionRow → Bool
rows_overlap one other = list_any (λ inputs. list_any (overlap inputs) other.inputs) one.inputs

overlap_fits : (input : Input) (one other : ActionRow) → fits_row input one ≡ true → fits_row input other ≡ true → rows_overlap one other ≡ true
overlap_fits input one other h k =
    any_grows (is_among input) (λ inputs. list_any (overlap inputs) other.inputs) one.inputs
    (λ inputs e. any_grows (is_among input) (overlap inputs) other.inputs (λ others. overlap_among input inputs others e) k) h

-- whether no two cases of a table share an input
abbrev pub is_disjoint : List ActionRow → Bool
is_disjoint [] = true
is_disjoint (row ∷ rows) = not (list_any (rows_overlap row) rows) && is_disjoint rows

at_most_one : (b : Bool) (count : ℕ) → (b ≡ true → count ≡ 0) → count ≤ 1 → cond b 1 0 + count ≤ 1
at_most_one true count none least = rw (none refl) (omega arith)
at_most_one false count none least = omega arith

-- each input is one of at most one case of such a table
pub no_overlap : (rows : List ActionRow) → is_disjoint rows ≡ true → HasNoOverlap rows
no_overlap [] h input = omega arith
no_overlap (row ∷ rows) h input =
    let apart = and_parts (not (list_any (rows_overlap row) rows)) (is_disjoint rows) h in
    rw (sum_by-cons (λ other. cond (fits_row input other) 1 0) row rows)
    (at_most_one (fits_row input row) (count_by (fits_row input) rows)
    (λ here. count_none (fits_row input) rows (λ there.
    not_true (list_any (rows_overlap row) rows) apart.0
    (any_grows (fits_row input) (rows_overlap row) rows (λ other. overlap_fits input row other here) there)))
    (no_overlap rows apart.1 input))
