-- A row that is split border by border.
use Rattle.std.proofs.Common.{◌≡◌, ℕ, ◌+◌, ◌-◌, ◌<◌, ◌≤◌, max, Bool, true, false, nat_le, List, [], ◌∷◌, ◌++◌, map, take, drop, length, get_or, slice_range, Option, refl, sym, ap, ◌∙◌, subst, inl}
use Rattle.std.proofs.Common.{inr, ⊎_elim, arith, IsUtf8, IsCharBoundary, ◌⊎◌}
use Rattle.std.specs.List.{filter, All, Any}
use Rattle.std.specs.Str.{chars}
use Rattle.std.proofs.lemmas.Bool.{cases_lt}
use Rattle.std.proofs.lemmas.Bool.Decides.{nat_tests}
use Rattle.std.proofs.lemmas.Grind.{common_steps}
use Rattle.std.proofs.lemmas.List.{append-nil, append_assoc, take-append-drop, length-take-le, get_or-take, get_or-drop, get_or_default, map_more, drop-take, take-take, length-drop}
use Rattle.std.proofs.lemmas.List.Elements.{filter-append, All-head, All-tail}
use Rattle.std.proofs.lemmas.Str.{chars-append, IsUtf8-take}
use Rattle.textarea_screen.specs.declared.screen.style.Style.{Style}
use Rattle.textarea_screen.specs.Text.{SpanView}
use Rattle.textarea_highlight.specs.declared.highlight.borders.BorderEffect.{BorderEffect}
use Rattle.textarea_highlight.specs.declared.highlight.brackets.OpenStyles.{OpenStyles}
use Rattle.textarea_highlight.specs.declared.highlight.display.Display.{Display}
use Rattle.textarea_highlight.specs.declared.highlight.borders.Border.{Border}
use Rattle.textarea_highlight.specs.OpenStyles.{ArePassed, base_of}
use Rattle.textarea_wrap.specs.Columns.{end_column}
use Rattle.textarea_wrap.proofs.ColumnLemmas.{end_column-append}
use Rattle.textarea_highlight.specs.Borders.{ArePlacedWithin}
use Rattle.textarea_highlight.specs.Columns.{IsColumnKnown}
use Rattle.textarea_highlight.specs.Split.{IsAscending, marks_upto, segment_of, ShowsSegment, IsSplit, ShowsNext, AddsSegment}

-- ---- the borders up to an offset

filter-all : {X : Type 0} (p : X → Bool) (xs : List X) → All (λ x. p x ≡ true) xs → filter p xs ≡ xs
filter-all p [] h = refl
filter-all p (x ∷ xs) h = rw (All-head (λ y. p y ≡ true) x xs h) (ap (λ ys. x ∷ ys) (filter-all p xs (All-tail (λ y. p y ≡ true) x xs h)))

filter-none : {X : Type 0} (p : X → Bool) (xs : List X) → All (λ x. p x ≡ false) xs → filter p xs ≡ []
filter-none p [] h = refl
filter-none p (x ∷ xs) h = rw (All-head (λ y. p y ≡ false) x xs h) (filter-none p xs (All-tail (λ y. p y ≡ false) x xs h))

-- the first `n` borders are up to an offset, and the others from another on
pub record Splits (borders : List Border) (n from to : ℕ) : Type 0 where
  pub within : n ≤ length borders
  pub passed : (k : ℕ) (d : Border) → k < n → (get_or borders k d).offset ≤ from
  pub ahead : (k : ℕ) (d : Border) → n ≤ k → k < length borders → to ≤ (get_or borders k d).offset

marks_upto-is : (borders : List Border) (n from to : ℕ) → Splits borders n from to → from < to →
    marks_upto borders from ≡ map (λ border. border.mark) (take n borders)
marks_upto-is borders n from to h below =
    let test : Border → Bool = λ border. nat_le border.offset from in
    let front : filter test (take n borders) ≡ take n borders =
    filter-all test (take n borders) (λ k d lt.
    let passed = h.passed k d (omega (arith, length-take-le n borders h.within)) in
    rw (get_or-take n borders k d (omega (arith, length-take-le n borders h.within))) (grind (arith, nat_tests))) in
    let back : filter test (drop n borders) ≡ [] =
    filter-none test (drop n borders) (λ k d lt.
    let ahead = h.ahead (n + k) d (omega arith) (omega (arith, length-drop n borders)) in
    rw (get_or-drop n borders k d) (grind (arith, nat_tests))) in
    ap (map (λ (border : Border). border.mark)) (rw (take-append-drop, front, back, append-nil) at (filter-append test (take n borders) (drop n borders)))

uncut : (borders : List Border) (n from to : ℕ) → Splits borders n from to → All (λ border. (border.offset ≤ from) ⊎ (to ≤ border.offset)) borders
uncut borders n from to h = λ k d lt. ⊎_elim (λ below. inl (h.passed k d below)) (λ above. inr (h.ahead k d above lt)) (cases_lt k n)

-- ---- one more span

IsSplit-push : (row : List ℕ) (borders : List Border) (base : Style) (tab_len : ℕ) (mask : Option ℕ) (spans : List SpanView) (span : SpanView) (from mid to : ℕ) →
    IsSplit row borders base tab_len mask from spans mid → ShowsSegment row borders base tab_len mask mid to span →
    IsSplit row borders base tab_len mask from (spans ++ span ∷ []) to
IsSplit-push row borders base tab_len mask [] span from mid to h segment =
    (to, subst (λ m. ShowsSegment row borders base tab_len mask m to span) (sym h) segment, refl)
IsSplit-push row borders base tab_len mask (s ∷ spans) span from mid to h segment =
    (h.0, h.1, IsSplit-push row borders base tab_len mask spans span h.0 mid to h.2 segment)

-- ---- the row so far: n borders are passed, and the segments come after the earlier spans

abbrev pub HasSegments : List ℕ → List Border → Style → ℕ → Option ℕ → List SpanView → ℕ → ℕ → List SpanView → Type 0
HasSegments row borders base tab_len mask before from start spans =
    (segments : List SpanView) × IsSplit row borders base tab_len mask from segments start × (spans ≡ before ++ segments)

pub record IsSplitSoFar (row : List ℕ) (borders : List Border) (base : Style) (tab_len : ℕ) (mask : Option ℕ) (before : List SpanView) (from n start : ℕ) (display : Display) (styles : OpenStyles) (spans : List SpanView) : Type 0 where
  pub within : n ≤ length borders
  pub passed : (k : ℕ) (d : Border) → k < n → (get_or borders k d).offset ≤ start
  pub boundary : IsCharBoundary row start
  pub tab : display.tab_len ≡ tab_len
  pub masked : display.mask ≡ mask
  pub known : IsColumnKnown row display start
  pub base_is : base_of styles ≡ base
  pub after : ArePassed styles (map (λ border. border.mark) (take n borders))
  pub split : HasSegments row borders base tab_len mask before from start spans

abbrev pub IsEdge : List ℕ → List Border → ℕ → Type 0
IsEdge row borders to = (to ≡ length row) ⊎ Any (λ border. border.offset ≡ to) borders

pub edge_at : (row : List ℕ) (borders : List Border) (n : ℕ) (d : Border) → n < length borders → IsEdge row borders (get_or borders n d).offset
edge_at row borders n d within = grind (arith, common_steps)

pub take_split : (row : List ℕ) (start to : ℕ) → start ≤ to → take to row ≡ take start row ++ slice_range row start to
take_split row start to h =
    grind (arith, common_steps, take-append-drop start (take to row), take-take start to row h, drop-take start (to - start) row)

pub column_to : (tab_len : ℕ) (row : List ℕ) (start to : ℕ) → IsUtf8 row → start ≤ to → IsCharBoundary row start → IsCharBoundary row to →
    end_column tab_len (end_column tab_len 0 (chars (take start row))) (segment_of row start to) ≡ end_column tab_len 0 (chars (take to row))
column_to tab_len row start to u h at at' =
    rw (take_split row start to h, chars-append (take start row) (slice_range row start to) (IsUtf8-take row start u at), end_column-append) refl

segment_displayed : (row : List ℕ) (borders : List Border) (base : Style) (tab_len : ℕ) (mask : Option ℕ) (before : List SpanView) (from n start to : ℕ) (display : Display) (styles : OpenStyles) (spans : List SpanView) (span : SpanView) →
    IsSplitSoFar row borders base tab_len mask before from n start display styles spans → Splits borders n start to → IsEdge row borders to → start < to →
    ShowsNext row display.tab_len display.mask styles start to span → ShowsSegment row borders base tab_len mask start to span
segment_displayed row borders base tab_len mask before from n start to display styles spans span h splits edge below shown =
    let next : ShowsNext row tab_len mask styles start to span =
    subst (λ t. ShowsNext row t mask styles start to span) h.tab (subst (λ (m : Option ℕ). ShowsNext row display.tab_len m styles start to span) h.masked shown) in
    record {
      not_empty = below;
      edge = edge;
      uncut = uncut borders n start to splits;
      style = rw (marks_upto-is borders n start to splits below, ← h.base_is) (next.style (map (λ border. border.mark) (take n borders)) h.after);
      text = next.text;
      borrowed = next.borrowed;
    }

segments_more : (row : List ℕ) (borders : List Border) (base : Style) (tab_len : ℕ) (mask : Option ℕ) (before spans : List SpanView) (from start to : ℕ) (span : SpanView) →
    HasSegments row borders base tab_len mask before from start spans → ShowsSegment row borders base tab_len mask start to span →
    HasSegments row borders base tab_len mask before from to (spans ++ span ∷ [])
segments_more row borders base tab_len mask before spans from start to span h segment = (
  h.0 ++ span ∷ [],
  IsSplit-push row borders base tab_len mask h.0 span from start to h.1 segment,
  ap (λ ss. ss ++ span ∷ []) h.2 ∙ append_assoc before h.0 (span ∷ []),
)

-- the column of an offset is also known at a later one
known_later : {row : List ℕ} {display : Display} {offset : ℕ} (later : ℕ) → IsColumnKnown row display offset → offset ≤ later → IsColumnKnown row display later
known_later later known order = record { order = omega (arith, known.order, order); boundary = known.boundary; column = known.column; near = known.near }

-- the next segment is appended, which is empty or reaches up to the next border or to the end
pub split_more : (row : List ℕ) (borders : List Border) (base : Style) (tab_len : ℕ) (mask : Option ℕ) (before : List SpanView) (from n start to : ℕ) (display display' : Display) (styles : OpenStyles) (spans spans' : List SpanView) →
    IsSplitSoFar row borders base tab_len mask before from n start display styles spans → start ≤ to → IsCharBoundary row to → (start < to → IsEdge row borders to) →
    (start < to → (k : ℕ) (d : Border) → n ≤ k → k < length borders → to ≤ (get_or borders k d).offset) →
    AddsSegment row display.tab_len display.mask styles start to spans spans' → IsColumnKnown row display' start → display'.tab_len ≡ display.tab_len → display'.mask ≡ display.mask →
    IsSplitSoFar row borders base tab_len mask before from n to display' styles spans'
split_more row borders base tab_len mask before from n start to display display' styles spans spans' h order at edge ahead added known same_tab same_mask = record {
  within = h.within;
  passed = λ k d lt. omega (arith, h.passed k d lt);
  boundary = at;
  tab = same_tab ∙ h.tab;
  masked = same_mask ∙ h.masked;
  known = known_later to known order;
  base_is = h.base_is;
  after = h.after;
  split = ⊎_elim
      (λ none. subst (λ m. HasSegments row borders base tab_len mask before from m spans') none.0 (subst (λ ss. HasSegments row borders base tab_len mask before from start ss) (sym none.1) h.split))
      (λ one. subst (λ ss. HasSegments row borders base tab_len mask before from to ss) (sym one.1.2)
      (segments_more row borders base tab_len mask before spans from start to one.1.0 h.split
      (segment_displayed row borders base tab_len mask before from n start to display styles spans one.1.0 h
      (record { within = h.within; passed = h.passed; ahead = ahead one.0 }) (edge one.0) one.0 one.1.1)))
      added;
}

passed_more : (borders : List Border) (n start k : ℕ) (d e : Border) → n < length borders → (get_or borders n d).offset ≤ start →
    ((j : ℕ) (f : Border) → j < n → (get_or borders j f).offset ≤ start) → k < n + 1 → (get_or borders k e).offset ≤ start
passed_more borders n start k d e within last passed below =
    ⊎_elim (λ before. passed k e before)
    (λ after.
    let same : k ≡ n = omega arith in
    omega (arith, ap (λ j. (get_or borders j e).offset) same, ap (λ (b : Border). b.offset) (get_or_default borders n e d within), last)) (cases_lt k n)

-- one more border is passed
pub pass_more : (row : List ℕ) (borders : List Border) (base : Style) (tab_len : ℕ) (mask : Option ℕ) (before : List SpanView) (from n start : ℕ) (d : Border) (display : Display) (styles styles' : OpenStyles) (spans : List SpanView) →
    IsSplitSoFar row borders base tab_len mask before from n start display styles spans → n < length borders → (get_or borders n d).offset ≤ start →
    base_of styles' ≡ base_of styles → ((marks : List BorderEffect) → ArePassed styles marks → ArePassed styles' (marks ++ (get_or borders n d).mark ∷ [])) →
    IsSplitSoFar row borders base tab_len mask before from (n + 1) start display styles' spans
pass_more row borders base tab_len mask before from n start d display styles styles' spans h within last based passes = record {
  within = omega arith;
  passed = λ k e below. passed_more borders n start k d e within last h.passed below;
  boundary = h.boundary;
  tab = h.tab;
  masked = h.masked;
  known = h.known;
  base_is = based ∙ h.base_is;
  after = subst (ArePassed styles') (sym (map_more (λ (border : Border). border.mark) borders n d within)) (passes (map (λ border. border.mark) (take n borders)) h.after);
  split = h.split;
}

-- ---- the next border

boundary_at_max : (row : List ℕ) (a b m : ℕ) → m ≡ max a b → IsCharBoundary row a → IsCharBoundary row b → IsCharBoundary row m
boundary_at_max row a b m is at_a at_b =
    ⊎_elim (λ less. let same : b ≡ m = omega arith in subst (IsCharBoundary row) same at_b) (λ more. let same : a ≡ m = omega arith in subst (IsCharBoundary row) same at_a) (cases_lt a b)

-- a segment that ends at the next border, or is empty if that is before its start
pub record IsNextSegment (row : List ℕ) (borders : List Border) (i start end : ℕ) (d : Border) : Type 0 where
  pub order : start ≤ end
  pub boundary : IsCharBoundary row end
  pub edge : start < end → IsEdge row borders end
  pub ahead : start < end → (k : ℕ) (e : Border) → i ≤ k → k < length borders → end ≤ (get_or borders k e).offset
  pub last : (get_or borders i d).offset ≤ end

pub next_segment : (row : List ℕ) (borders : List Border) (i start end : ℕ) (d : Border) → end ≡ max (get_or borders i d).offset start → i < length borders → IsAscending borders →
    ArePlacedWithin row borders → (get_or borders i d).offset ≤ length row → IsCharBoundary row start → IsNextSegment row borders i start end d
next_segment row borders i start end d is within ascending placed inside begun = record {
  order = omega arith;
  boundary = boundary_at_max row (get_or borders i d).offset start end is (placed i d within inside) begun;
  edge = λ more. let same : (get_or borders i d).offset ≡ end = omega arith in subst (IsEdge row borders) same (edge_at row borders i d within);
  ahead = λ more k e le below. omega (arith, ascending i k d e le below);
  last = omega arith;
}

pub past_end : (row : List ℕ) (borders : List Border) (i : ℕ) (d : Border) → length row < (get_or borders i d).offset → IsAscending borders →
    (k : ℕ) (e : Border) → i ≤ k → k < length borders → length row ≤ (get_or borders k e).offset
past_end row borders i d past ascending k e le below = omega (arith, ascending i k d e le below)
