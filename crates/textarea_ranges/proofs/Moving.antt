-- Where atomic ranges move with their text.
use Rattle.std.proofs.Common.{◌≡◌, ◌≤◌, ◌<◌, ℕ, ◌+◌, ◌-◌, ◌⊎◌, ◌↔◌, inl, inr, Bool, true, false, List, [], ◌∷◌, ◌++◌, length, take, drop, filter_map, nat_eq, Option, Some, None, sym, ap, refl, ◌∙◌, arith, subst}
use Rattle.std.proofs.lemmas.Bool.{cases_Bool}
use Rattle.std.proofs.lemmas.Bool.Decides.{nat_tests}
use Rattle.std.proofs.lemmas.List.{append_assoc, length-append, length-drop, length-take-le, take-append-drop, take_at, drop_at, get_or_at}
use Rattle.std.proofs.lemmas.List.Elements.{All-from_recursion, recursion_from_All}
use Rattle.textarea_ranges.specs.Prelude.{AllByRecursion, cons_option, Symbol, Character, Break, characters, following, joined, leading, lines, on_first, Place, IsUpTo, end, line_of}
use Rattle.textarea_ranges.specs.Prelude.{Splice, Fits, applied, place_after, place_before, is_up_to, shifted, AtomicRange, range_end, range_start, CoversTheSame, Disturbs, DisturbsBy}
use Rattle.textarea_ranges.specs.Prelude.{covered_characters, moved_range, moved_ranges, shifted_range, AreInOrder, is_range_before, AreDisjoint, AreValid, IsRangeOfLine}
use Rattle.textarea_text.proofs.Splices.{characters-append, end-append, end_of_front, end-characters, joined-append, lines-joined}
use Rattle.textarea_text.proofs.TextPlaces.{Parted, split_text, joined-lines, parted_rows}
use Rattle.textarea_text.proofs.PlacesAfterSplice.{back_stays, end_from, front_stays}
use Rattle.textarea_ranges.proofs.Lists.{AllPairs-later, EachLater, later-AllPairs}
use Rattle.textarea_util.proofs.Alls.{all_both}
use Rattle.textarea_ranges.proofs.Searching.{up_to-not_before}
use Rattle.textarea_ranges.proofs.OrderLemmas.{in_order-sorted, sorted-in_order}
use Rattle.textarea_ranges.proofs.Sorts.{NotBefore}

-- ---- a range in the flat text

pub record Segment (text : List Symbol) (range : AtomicRange) : Type 0 where
  pub front : List Symbol
  pub back : List Symbol
  pub is : text ≡ front ++ (characters (covered_characters (lines text) range) ++ back)
  pub starts : end (0, 0) front ≡ range_start range
  pub ends : range.start_col + length (covered_characters (lines text) range) ≡ range.end_col

pub segment : (text : List Symbol) (range : AtomicRange) → IsRangeOfLine (lines text) range → Segment text range
unfolding parted_rows
segment text range in_line =
    let rows = lines text in
    let line = line_of rows range.row in
    let count = range.end_col - range.start_col in
    let components = parted_rows rows range.row range.start_col (in_line.0, omega (arith, in_line.1, in_line.2)) in
    let rest = drop range.start_col line in
    let split : characters rest ≡ characters (take count rest) ++ characters (drop count rest) =
    ap characters (sym (take-append-drop count rest)) ∙ characters-append (take count rest) (drop count rest) in
    let below = following (drop (range.row + 1) rows) in
    record {
      front = components.front;
      back = characters (drop count rest) ++ below;
      is = sym (joined-lines text) ∙ components.is
          ∙ ap (λ t. components.front ++ (t ++ below)) split
          ∙ ap (λ t. components.front ++ t) (append_assoc (characters (take count rest)) (characters (drop count rest)) below);
      starts = components.ends;
      ends = omega (arith, length-take-le count rest (omega (arith, length-drop range.start_col line, in_line.2)), in_line.1);
    }

filled : (text : List Symbol) → (line : List ℕ) × (rest : List (List ℕ)) × (lines text ≡ line ∷ rest)
filled [] = ([], [], refl)
filled (Character c ∷ text) = let found = filled text in (c ∷ found.0, found.1, ap (on_first c) found.2)
filled (Break ∷ text) = ([], lines text, refl)

-- characters in a text that are a range of the line in which they begin
pub record OccursInLine (text : List Symbol) (range : AtomicRange) (cs : List ℕ) : Type 0 where
  pub in_line : IsRangeOfLine (lines text) range
  pub is : covered_characters (lines text) range ≡ cs

occurs_in : (rows above rest : List (List ℕ)) (before cs after : List ℕ) (range : AtomicRange) → rows ≡ above ++ ((before ++ (cs ++ after)) ∷ rest) → range.row ≡ length above →
    range.start_col ≡ length before → range.end_col ≡ length before + length cs → 0 < length cs → IsRangeOfLine rows range × (covered_characters rows range ≡ cs)
occurs_in rows above rest before cs after range e row start to some =
    let line = before ++ (cs ++ after) in
    let here : line_of rows range.row ≡ line =
    ap (λ (r : List (List ℕ)). line_of r range.row) e ∙ get_or_at above line rest [] range.row (sym row) in
    let within : range.row < length rows = omega (arith, ap length e, length-append above (line ∷ rest), row) in
    let inside : range.end_col ≤ length (line_of rows range.row) =
    omega (arith, ap length here, length-append before (cs ++ after), length-append cs after, to) in
    let count : range.end_col - range.start_col ≡ length cs = omega (arith, to, start) in (
      (within, omega (arith, start, to, some), inside),
      ap (λ (n : ℕ). take n (drop range.start_col (line_of rows range.row))) count
          ∙ ap (λ (l : List ℕ). take (length cs) (drop range.start_col l)) here
          ∙ ap (take (length cs)) (drop_at before (cs ++ after) range.start_col (sym start))
          ∙ take_at cs after (length cs) refl,
    )

pub occurs : (text front back : List Symbol) (cs : List ℕ) (range : AtomicRange) → text ≡ front ++ (characters cs ++ back) → end (0, 0) front ≡ range_start range →
    range.start_col + length cs ≡ range.end_col → 0 < length cs → OccursInLine text range cs
occurs text front back cs range e starts ends some =
    let components = split_text front in
    let next = filled back in
    let line = components.start ++ (cs ++ next.0) in
    let rows = components.above ++ (line ∷ next.1) in
    let last : back ≡ characters next.0 ++ following next.1 = sym (joined-lines back) ∙ ap joined next.2 in
    let lined : characters components.start ++ (characters cs ++ back) ≡ joined (line ∷ next.1) =
    ap (λ t. characters components.start ++ (characters cs ++ t)) last
    ∙ ap (λ t. characters components.start ++ t) (sym (append_assoc (characters cs) (characters next.0) (following next.1)))
    ∙ ap (λ t. characters components.start ++ (t ++ following next.1)) (sym (characters-append cs next.0))
    ∙ sym (append_assoc (characters components.start) (characters (cs ++ next.0)) (following next.1))
    ∙ ap (λ t. t ++ following next.1) (sym (characters-append components.start (cs ++ next.0))) in
    let whole : text ≡ joined rows =
    e ∙ ap (λ t. t ++ (characters cs ++ back)) components.is
    ∙ append_assoc (leading components.above) (characters components.start) (characters cs ++ back)
    ∙ ap (λ t. leading components.above ++ t) lined
    ∙ sym (joined-append components.above (line ∷ next.1) (omega arith)) in
    let wrapped_so : lines text ≡ rows = ap lines whole ∙ lines-joined rows (omega (arith, length-append components.above (line ∷ next.1))) in
    let at : (length components.above, length components.start) ≡ range_start range =
    sym (end_of_front components.above components.start) ∙ ap (end (0, 0)) (sym components.is) ∙ starts in
    let row : range.row ≡ length components.above = sym (ap (λ (p : Place). p.0) at) in
    let column : range.start_col ≡ length components.start = sym (ap (λ (p : Place). p.1) at) in
    let found = occurs_in (lines text) components.above next.1 components.start cs next.0 range wrapped_so row column (omega (arith, ends, column)) some in
    record { in_line = found.0; is = found.1 }

-- ---- the two ways in which a range is left

-- it stays, or moves
pub data Left (splice : Splice) (old new : AtomicRange) : Type 0 where
  StaysThere : IsUpTo (range_end old) splice.place → new ≡ old → Left splice old new
  MovesOn : IsUpTo (place_before splice) (range_start old) → new ≡ shifted_range (place_before splice) (place_after splice) old → Left splice old new

up_to-test : (one other : Place) → is_up_to one other ≡ true → IsUpTo one other
up_to-test one other e = (grind (arith, nat_tests), λ same. grind (arith, nat_tests))

pub left : (splice : Splice) (old new : AtomicRange) → moved_range splice old ≡ Some new → Left splice old new
left splice old new e =
    elim (cases_Bool (is_up_to (range_end old) splice.place)) [
      | inl before ↦ StaysThere (up_to-test (range_end old) splice.place before) (grind (arith, nat_tests))
      | inr not_before ↦ elim (cases_Bool (is_up_to (place_before splice) (range_start old))) [
        | inl after ↦ MovesOn (up_to-test (place_before splice) (range_start old) after) (grind (arith, nat_tests))
        | inr not_after ↦ absurd (grind (arith, nat_tests))
      ]
    ]

-- both ends of a range that moves are moved alike
shifted_ends : (old new : Place) (row start to : ℕ) → IsUpTo old (row, start) → (shifted old new (row, start + to)).1 ≡ (shifted old new (row, start)).1 + to
shifted_ends old new row start to h = grind (arith, nat_tests)

-- ---- a range that is left covers the same characters

pub covers_the_same : (text : List Symbol) (splice : Splice) (old new : AtomicRange) → Fits text splice → IsRangeOfLine (lines text) old → moved_range splice old ≡ Some new → CoversTheSame text (applied text splice) old new
covers_the_same text splice old new h in_line e = by_cases (left splice old new e)
  where
    cs : List ℕ
    cs = covered_characters (lines text) old

    at : Segment text old
    at = segment text old in_line

    some : 0 < length cs
    some = omega (arith, at.ends, in_line.1)

    after : end (0, 0) (at.front ++ characters cs) ≡ range_end old
    after = end-append (0, 0) at.front (characters cs) ∙ ap (λ (p : Place). end p (characters cs)) at.starts
        ∙ end-characters old.row old.start_col cs ∙ ap (λ (n : ℕ). (old.row, n)) at.ends

    result : OccursInLine (applied text splice) new cs → CoversTheSame text (applied text splice) old new
    result found = record { in_line = found.in_line; same = found.is }

    by_cases : Left splice old new → CoversTheSame text (applied text splice) old new
    by_cases (StaysThere up same) =
        let components : Parted text (range_end old) = record { front = at.front ++ characters cs; back = at.back; is = at.is ∙ sym (append_assoc at.front (characters cs) at.back); ends = after } in
        let retained = front_stays text splice h (range_end old) components up in
        result (occurs (applied text splice) at.front retained.back cs new (retained.is ∙ append_assoc at.front (characters cs) retained.back)
        (at.starts ∙ ap range_start (sym same)) (subst (λ (r : AtomicRange). r.start_col + length cs ≡ r.end_col) (sym same) at.ends) some)
    by_cases (MovesOn up same) =
        let components : Parted text (range_start old) = record { front = at.front; back = characters cs ++ at.back; is = at.is; ends = at.starts } in
        let retained = back_stays text splice h (range_start old) components up in
        let moves_by = shifted_range (place_before splice) (place_after splice) old in
        let ends : moves_by.start_col + length cs ≡ moves_by.end_col =
        sym (shifted_ends (place_before splice) (place_after splice) old.row old.start_col (length cs) up)
        ∙ ap (λ (n : ℕ). (shifted (place_before splice) (place_after splice) (old.row, n)).1) at.ends in
        result (occurs (applied text splice) retained.front at.back cs new retained.is
        (retained.ends ∙ ap range_start (sym same)) (subst (λ (r : AtomicRange). r.start_col + length cs ≡ r.end_col) (sym same) ends) some)

-- ---- which ranges are dropped

dropped_by : (inserts : Bool) (place : Place) (symbols : List Symbol) (range : AtomicRange) → (moved_range (record { place = place; symbols = symbols; inserts = inserts }) range ≡ None) ↔ DisturbsBy inserts place (end place symbols) range
dropped_by true place symbols range = (λ e. (grind (arith, nat_tests), grind (arith, nat_tests), grind (arith, nat_tests)), λ h. grind (arith, nat_tests))
dropped_by false place symbols range = (
  λ e. ((grind (arith, nat_tests), λ same. grind (arith, nat_tests)), (grind (arith, nat_tests), λ same. grind (arith, nat_tests))),
  λ h. grind (arith, nat_tests),
)

pub dropped : (splice : Splice) (range : AtomicRange) → (moved_range splice range ≡ None) ↔ Disturbs splice range
dropped splice range = dropped_by splice.inserts splice.place splice.symbols range

-- ---- facts of each range that is left, and of each two

each_cons : {X : Type 0} (Q : X → Type 0) (found : Option X) (rest : List X) → ((y : X) → found ≡ Some y → Q y) → AllByRecursion Q rest → AllByRecursion Q (cons_option found rest)
each_cons Q None rest here all = all
each_cons Q (Some y) rest here all = (here y refl, all)

each_left : {X Y : Type 0} (P : X → Type 0) (Q : Y → Type 0) (f : X → Option Y) → ((x : X) (y : Y) → P x → f x ≡ Some y → Q y) → (xs : List X) → AllByRecursion P xs → AllByRecursion Q (filter_map f xs)
each_left P Q f keeps [] all = tt
each_left P Q f keeps (x ∷ xs) all = each_cons Q (f x) (filter_map f xs) (λ y e. keeps x y all.0 e) (each_left P Q f keeps xs all.1)

later_cons : {X : Type 0} (R : X → X → Type 0) (found : Option X) (rest : List X) → ((y : X) → found ≡ Some y → AllByRecursion (R y) rest) → EachLater R rest → EachLater R (cons_option found rest)
later_cons R None rest here later = later
later_cons R (Some y) rest here later = (here y refl, later)

later_left : {X : Type 0} (P : X → Type 0) (R Q : X → X → Type 0) (f : X → Option X) → ((x z y w : X) → P x → P z → R x z → f x ≡ Some y → f z ≡ Some w → Q y w) → (xs : List X) →
    AllByRecursion P xs → EachLater R xs → EachLater Q (filter_map f xs)
later_left P R Q f keeps [] all later = tt
later_left {X} P R Q f keeps (x ∷ xs) all later =
    later_cons Q (f x) (filter_map f xs)
    (λ y e. each_left (λ (z : X). P z × R x z) (Q y) f (λ z w h k. keeps x z y w all.0 h.0 h.1 e k) xs (all_both P (R x) (λ (z : X). P z × R x z) (λ z p r. (p, r)) xs all.1 later.0))
    (later_left P R Q f keeps xs all.1 later.1)

-- ---- two ranges that are left

-- the splice's start is at or before both ends of what changes
starts_by : (inserts : Bool) (place : Place) (symbols : List Symbol) →
    IsUpTo place (place_before (record { place = place; symbols = symbols; inserts = inserts })) × IsUpTo place (place_after (record { place = place; symbols = symbols; inserts = inserts }))
starts_by true place symbols = (end_from place [], end_from place symbols)
starts_by false place symbols = (end_from place symbols, end_from place [])

starts : (splice : Splice) → IsUpTo splice.place (place_before splice) × IsUpTo splice.place (place_after splice)
starts splice = starts_by splice.inserts splice.place splice.symbols

-- a moved range is in the new position's row with moved columns, or below it with a moved row
record InRow (old new : Place) (range there : AtomicRange) : Type 0 where
  pub row_was : range.row ≡ old.0
  pub from : old.1 ≤ range.start_col
  pub row : there.row ≡ new.0
  pub start : there.start_col + old.1 ≡ new.1 + range.start_col
  pub to : there.end_col + old.1 ≡ new.1 + range.end_col

record BelowRow (old new : Place) (range there : AtomicRange) : Type 0 where
  pub row_was : old.0 < range.row
  pub row : there.row + old.0 ≡ new.0 + range.row
  pub start : there.start_col ≡ range.start_col
  pub to : there.end_col ≡ range.end_col

shift_cases : (old new : Place) (range : AtomicRange) → range.start_col ≤ range.end_col → IsUpTo old (range_start range) → InRow old new range (shifted_range old new range) ⊎ BelowRow old new range (shifted_range old new range)
shift_cases old new range ordered h =
    elim (cases_Bool (nat_eq range.row old.0)) [
      | inl here ↦ inl (record { row_was = grind (arith, nat_tests); from = grind (arith, nat_tests); row = grind (arith, nat_tests); start = grind (arith, nat_tests); to = grind (arith, nat_tests) })
      | inr below ↦ inr (record { row_was = grind (arith, nat_tests); row = grind (arith, nat_tests); start = grind (arith, nat_tests); to = grind (arith, nat_tests) })
    ]

-- a range that stays ends before one that moves starts
stays_before : (start old new : Place) (one other there : AtomicRange) → IsUpTo start new → IsUpTo (range_end one) start → InRow old new other there ⊎ BelowRow old new other there → IsUpTo (range_end one) (range_start there)
stays_before start old new one other there up stays (inl h) = (omega (arith, up.0, stays.0, h.row), λ same. omega (arith, up.0, up.1, stays.0, stays.1, h.row, h.start, h.from, same))
stays_before start old new one other there up stays (inr h) = (omega (arith, up.0, stays.0, h.row, h.row_was), λ same. absurd (omega (arith, up.0, stays.0, h.row, h.row_was, same)))

-- two ranges that move share no character, and stay in order
go_apart : (old new : Place) (one other there away : AtomicRange) → AreDisjoint one other → InRow old new one there ⊎ BelowRow old new one there → InRow old new other away ⊎ BelowRow old new other away → AreDisjoint there away
go_apart old new one other there away apart (inl h) (inl k) same =
    elim (apart (omega (arith, h.row_was, k.row_was))) [ inl before ↦ inl (omega (arith, h.to, k.start, before)) | inr after ↦ inr (omega (arith, k.to, h.start, after)) ]
go_apart old new one other there away apart (inl h) (inr k) same = absurd (omega (arith, h.row, k.row, k.row_was, same))
go_apart old new one other there away apart (inr h) (inl k) same = absurd (omega (arith, h.row, k.row, h.row_was, same))
go_apart old new one other there away apart (inr h) (inr k) same =
    elim (apart (omega (arith, h.row, k.row, same))) [ inl before ↦ inl (omega (arith, h.to, k.start, before)) | inr after ↦ inr (omega (arith, k.to, h.start, after)) ]

go_in_order : (old new : Place) (one other there away : AtomicRange) → IsUpTo (range_start one) (range_start other) → InRow old new one there ⊎ BelowRow old new one there →
    InRow old new other away ⊎ BelowRow old new other away → IsUpTo (range_start there) (range_start away)
go_in_order old new one other there away up (inl h) (inl k) = (omega (arith, h.row, k.row), λ same. omega (arith, h.start, k.start, h.row_was, k.row_was, up.1))
go_in_order old new one other there away up (inl h) (inr k) = (omega (arith, h.row, k.row, k.row_was), λ same. absurd (omega (arith, h.row, k.row, k.row_was, same)))
go_in_order old new one other there away up (inr h) (inl k) = absurd (omega (arith, up.0, h.row_was, k.row_was))
go_in_order old new one other there away up (inr h) (inr k) = (omega (arith, h.row, k.row, up.0), λ same. omega (arith, h.start, k.start, h.row, k.row, same, up.1))

-- facts of two ranges are also facts of what is left of them
module _ (splice : Splice) (one other there away : AtomicRange) (one_some : one.start_col < one.end_col) (other_some : other.start_col < other.end_col) where
  abbrev Goes : AtomicRange → AtomicRange → Type 0
  Goes range moved = InRow (place_before splice) (place_after splice) range moved ⊎ BelowRow (place_before splice) (place_after splice) range moved

  go_one : IsUpTo (place_before splice) (range_start one) → there ≡ shifted_range (place_before splice) (place_after splice) one → Goes one there
  go_one up same = subst (Goes one) (sym same) (shift_cases (place_before splice) (place_after splice) one (omega arith) up)

  go_other : IsUpTo (place_before splice) (range_start other) → away ≡ shifted_range (place_before splice) (place_after splice) other → Goes other away
  go_other up same = subst (Goes other) (sym same) (shift_cases (place_before splice) (place_after splice) other (omega arith) up)

  apart_by : Left splice one there → Left splice other away → AreDisjoint one other → AreDisjoint there away
  apart_by (StaysThere up same) (StaysThere up' same') apart = subst (λ (r : AtomicRange). AreDisjoint r away) (sym same) (subst (AreDisjoint one) (sym same') apart)
  apart_by (StaysThere up same) (MovesOn up' same') apart =
      let before = stays_before splice.place (place_before splice) (place_after splice) one other away (starts splice).1 up (go_other up' same') in
      subst (λ (r : AtomicRange). AreDisjoint r away) (sym same) (λ row. inl (before.1 row))
  apart_by (MovesOn up same) (StaysThere up' same') apart =
      let before = stays_before splice.place (place_before splice) (place_after splice) other one there (starts splice).1 up' (go_one up same) in
      subst (AreDisjoint there) (sym same') (λ row. inr (before.1 (sym row)))
  apart_by (MovesOn up same) (MovesOn up' same') apart = go_apart (place_before splice) (place_after splice) one other there away apart (go_one up same) (go_other up' same')

  ordered_by : Left splice one there → Left splice other away → IsUpTo (range_start one) (range_start other) → IsUpTo (range_start there) (range_start away)
  ordered_by (StaysThere up same) (StaysThere up' same') h = subst (λ (r : AtomicRange). IsUpTo (range_start r) (range_start away)) (sym same) (subst (λ (r : AtomicRange). IsUpTo (range_start one) (range_start r)) (sym same') h)
  ordered_by (StaysThere up same) (MovesOn up' same') h =
      let before = stays_before splice.place (place_before splice) (place_after splice) one other away (starts splice).1 up (go_other up' same') in
      subst (λ (r : AtomicRange). IsUpTo (range_start r) (range_start away)) (sym same) (before.0, λ row. omega (arith, before.1 row))
  ordered_by (MovesOn up same) (StaysThere up' same') h =
      let between = (starts splice).0 in
      absurd (omega (arith, up.0, up.1, up'.0, up'.1, h.0, h.1, between.0, between.1))
  ordered_by (MovesOn up same) (MovesOn up' same') h = go_in_order (place_before splice) (place_after splice) one other there away h (go_one up same) (go_other up' same')

-- ---- ranges that are left are valid and in order

pub valid_moved : (text : List Symbol) (splice : Splice) (ranges : List AtomicRange) → Fits text splice → AreValid (lines text) ranges → AreValid (lines (applied text splice)) (moved_ranges ranges splice)
unfolding moved_ranges
valid_moved text splice ranges h valid =
    let Was : AtomicRange → Type 0 = IsRangeOfLine (lines text) in
    let components : AllByRecursion Was ranges = recursion_from_All Was ranges valid.components in
    record {
      components = All-from_recursion (IsRangeOfLine (lines (applied text splice))) (moved_ranges ranges splice)
          (each_left Was (IsRangeOfLine (lines (applied text splice))) (moved_range splice) (λ old new in_line e. (covers_the_same text splice old new h in_line e).in_line) ranges components);
      disjoint = AllPairs-later AreDisjoint (moved_ranges ranges splice)
          (later_left Was AreDisjoint AreDisjoint (moved_range splice)
          (λ one other there away p q apart e k. apart_by splice one other there away p.1 q.1 (left splice one there e) (left splice other away k) apart)
          ranges components (later-AllPairs AreDisjoint ranges valid.disjoint));
    }

not_before-up_to : (one other : AtomicRange) → IsUpTo (range_start one) (range_start other) → is_range_before other one ≡ false
not_before-up_to one other h = grind (arith, nat_tests)

pub in_order_moved : (text : List Symbol) (splice : Splice) (ranges : List AtomicRange) → Fits text splice → AreValid (lines text) ranges → AreInOrder ranges → AreInOrder (moved_ranges ranges splice)
unfolding moved_ranges
in_order_moved text splice ranges h valid ordered =
    let Was : AtomicRange → Type 0 = IsRangeOfLine (lines text) in
    let later : EachLater (NotBefore is_range_before) ranges = subst (EachLater (NotBefore is_range_before)) ordered (sorted-in_order ranges) in
    sym (in_order-sorted (moved_ranges ranges splice) (moved_ranges ranges splice)
    (later_left Was (NotBefore is_range_before) (NotBefore is_range_before) (moved_range splice)
    (λ one other there away p q up e k. not_before-up_to there away (ordered_by splice one other there away p.1 q.1 (left splice one there e) (left splice other away k) (up_to-not_before one other up)))
    ranges (recursion_from_All Was ranges valid.components) later) (λ z. refl))
