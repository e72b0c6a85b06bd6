-- A row is shown by only one line: its borders have one order, and it has one list of spans.
use Rattle.std.proofs.Common.{◌≡◌, ℕ, zero, suc, ◌<◌, ◌≤◌, Bool, true, false, not, List, [], ◌∷◌, ◌++◌, length, get_or, Option, Some, refl, sym, ap, subst, ◌∙◌, inl, inr, ⊎_elim, arith, is_lt, suc-le-suc, zero-le}
use Rattle.std.specs.Cmp.{IsStrictWeakOrder}
use Rattle.std.specs.List.{All, filter, slice_get}
use Rattle.std.specs.List.Sorted.{ties}
use Rattle.std.proofs.lemmas.Bool.{cases_Bool, cases_lt, and_parts, not-true, cond-true, cond-false}
use Rattle.std.proofs.lemmas.List.Elements.{All-head, All-tail}
use Rattle.std.proofs.lemmas.List.Sorted.{sorted_far}
use Rattle.std.proofs.lemmas.Grind.{common_steps}
use Rattle.textarea_screen.specs.declared.screen.style.Style.{Style}
use Rattle.textarea_screen.specs.Text.{ContentView, LineView, SpanView}
use Rattle.textarea_screen.specs.Text.ContentView.{BorrowedBytes, OwnedBytes}
use Rattle.textarea_highlight.specs.declared.highlight.borders.Border.{Border}
use Rattle.textarea_highlight.specs.declared.highlight.borders.BorderEffect.{BorderEffect}
use Rattle.textarea_highlight.specs.declared.highlight.borders.BorderEffect.TheVariants.{Start}
use Rattle.textarea_highlight.specs.Borders.{IsBorderOrder, border_key, border_cmp}
use Rattle.textarea_highlight.specs.Brackets.{OpensLast, IsStyleAfter}
use Rattle.textarea_highlight.specs.Split.{marks_upto, IsSplit, ShowsSegment}
use Rattle.textarea_highlight.specs.Highlights.{Highlights, end_style, end_cell}
use Rattle.textarea_highlight.specs.Row.{ShowsRow}
use Rattle.textarea_highlight.specs.Texts.{text_bytes_of, IsUncopied}
use Rattle.textarea_highlight.proofs.BorderLemmas.{order_of_borders}

-- ---- a sorted list, whose tied elements are ordered as in another list

module _ {X : Type 0} (lt : X → X → Bool) (order : IsStrictWeakOrder lt) where
  -- no element is less than one before it
  abbrev IsInOrder : List X → Type 0
  IsInOrder xs = (i j : ℕ) (d : X) → i ≤ j → j < length xs → lt (get_or xs j d) (get_or xs i d) ≡ false

  after_first : (x : X) (xs : List X) → IsInOrder (x ∷ xs) → IsInOrder xs
  after_first x xs h = λ i j d le below. h (suc i) (suc j) d (suc-le-suc le) (suc-le-suc below)

  none_below_first : (x : X) (xs : List X) → IsInOrder (x ∷ xs) → All (λ y. lt y x ≡ false) (x ∷ xs)
  none_below_first x xs h = λ k d below. h zero k d zero-le below

  ties-components : (x y : X) → ties lt x y ≡ true → (lt x y ≡ false) × (lt y x ≡ false)
  ties-components x y h = grind (arith, common_steps, and_parts (not (lt x y)) (not (lt y x)) h, not-true)

  ties-from_components : (x y : X) → lt x y ≡ false → lt y x ≡ false → ties lt x y ≡ true
  ties-from_components x y a b = rw (a, b) refl

  never_below_itself : (b : Bool) → (b ≡ true → b ≡ false) → b ≡ false
  never_below_itself true h = h refl
  never_below_itself false h = refl

  ties_itself : (x : X) → ties lt x x ≡ true
  ties_itself x =
      let not_below : lt x x ≡ false = never_below_itself (lt x x) (order.one_way x x) in
      ties-from_components x x not_below not_below

  -- if no element is less than `first`, nothing that ties with an element is
  not_below : (first x : X) (xs : List X) (found : X) (others : List X) → All (λ y. lt y first ≡ false) xs →
      filter (ties lt x) xs ≡ found ∷ others → lt x first ≡ false
  not_below first x [] found others h e = cc
  not_below first x (y ∷ ys) found others h e = elim (cases_Bool (ties lt x y)) [
    | inl tie ↦ order.chain x y first (ties-components x y tie).0 (All-head (λ z. lt z first ≡ false) y ys h)
    | inr apart ↦
        not_below first x ys found others (All-tail (λ z. lt z first ≡ false) y ys h)
        (sym (cond-false (ties lt x y) (y ∷ filter (ties lt x) ys) (filter (ties lt x) ys) apart) ∙ e)
  ]

  filter_first : (x y : X) (ys : List X) → ties lt x y ≡ true → filter (ties lt x) (y ∷ ys) ≡ y ∷ filter (ties lt x) ys
  filter_first x y ys h = cond-true (ties lt x y) (y ∷ filter (ties lt x) ys) (filter (ties lt x) ys) h

  dropped : (x y : X) (ys : List X) → ties lt x y ≡ false → filter (ties lt x) (y ∷ ys) ≡ filter (ties lt x) ys
  dropped x y ys h = cond-false (ties lt x y) (y ∷ filter (ties lt x) ys) (filter (ties lt x) ys) h

  one_order : (xs ys : List X) → IsInOrder xs → IsInOrder ys → ((x : X) → filter (ties lt x) xs ≡ filter (ties lt x) ys) → xs ≡ ys
  one_order [] [] left right same = refl
  one_order [] (y ∷ ys) left right same = let clash = same y ∙ filter_first y y ys (ties_itself y) in cc
  one_order (x ∷ xs) [] left right same = let clash = sym (same x) ∙ filter_first x x xs (ties_itself x) in cc
  one_order (x ∷ xs) (y ∷ ys) left right same =
      let at_x = filter_first x x xs (ties_itself x) in
      let at_y = filter_first y y ys (ties_itself y) in
      let up : lt x y ≡ false = not_below y x (y ∷ ys) x (filter (ties lt x) xs) (none_below_first y ys right) (sym (same x) ∙ at_x) in
      let down : lt y x ≡ false = not_below x y (x ∷ xs) y (filter (ties lt y) ys) (none_below_first x xs left) (same y ∙ at_y) in
      let heads = sym at_x ∙ same x ∙ filter_first x y ys (ties-from_components x y up down) in
      let head : x ≡ y = cc in
      let tails : (z : X) → filter (ties lt z) xs ≡ filter (ties lt z) ys =
      λ z. elim (cases_Bool (ties lt z x)) [
        | inl tie ↦
            let both = sym (filter_first z x xs tie) ∙ same z ∙ filter_first z y ys (ap (ties lt z) (sym head) ∙ tie) in cc
        | inr apart ↦
            sym (dropped z x xs apart) ∙ same z ∙ dropped z y ys (ap (ties lt z) (sym head) ∙ apart)
      ] in
      let rest : xs ≡ ys = one_order xs ys (after_first x xs left) (after_first y ys right) tails in
      cc

one_border_order : (added sorted other : List Border) → IsBorderOrder added sorted → IsBorderOrder added other → sorted ≡ other
one_border_order added sorted other h k =
    let below : Border → Border → Bool = λ a b. is_lt (border_cmp (border_key a) (border_key b)) in
    one_order below order_of_borders sorted other (sorted_far below order_of_borders sorted h.in_order) (sorted_far below order_of_borders other k.in_order)
    (λ x. h.stable x ∙ sym (k.stable x))

-- ---- one style after marks

one_last : (marks : List BorderEffect) (style other : Style) → OpensLast marks style → OpensLast marks other → style ≡ other
one_last marks style other h k = elim (cases_lt h.0 k.0) [
  | inl before ↦ absurd (h.2 k.0 other before k.1)
  | inr from ↦ elim (cases_lt k.0 h.0) [
    | inl after ↦ absurd (k.2 h.0 style after h.1)
    | inr to ↦
        let same : h.0 ≡ k.0 = omega (arith, from, to) in
        let both : Some (Start style) ≡ Some (Start other) = sym h.1.0 ∙ ap (slice_get marks) same ∙ k.1.0 in
        cc
  ]
]

one_style : (marks : List BorderEffect) (base style other : Style) → IsStyleAfter marks base style → IsStyleAfter marks base other → style ≡ other
one_style marks base style other (inl h) (inl k) = one_last marks style other h k
one_style marks base style other (inl h) (inr k) = absurd (k.0 h.0 style h.1)
one_style marks base style other (inr h) (inl k) = absurd (h.0 k.0 other k.1)
one_style marks base style other (inr h) (inr k) = h.1 ∙ sym k.1

-- ---- one span shows a segment

one_content : (content other : ContentView) → text_bytes_of content ≡ text_bytes_of other → (IsUncopied content → IsUncopied other) → (IsUncopied other → IsUncopied content) → content ≡ other
one_content (BorrowedBytes text) (BorrowedBytes text') e there back = ap BorrowedBytes e
one_content (BorrowedBytes text) (OwnedBytes text') e there back = absurd (there tt)
one_content (OwnedBytes text) (BorrowedBytes text') e there back = absurd (back tt)
one_content (OwnedBytes text) (OwnedBytes text') e there back = ap OwnedBytes e

module _ (row : List ℕ) (borders : List Border) (base : Style) (tab_len : ℕ) (mask : Option ℕ) where
  one_span : (from to : ℕ) (span other : SpanView) → ShowsSegment row borders base tab_len mask from to span →
      ShowsSegment row borders base tab_len mask from to other → span ≡ other
  one_span from to span other h k =
      let content : span.content ≡ other.content =
      one_content span.content other.content (h.text ∙ sym k.text) (λ uncopied. k.borrowed.1 (h.borrowed.0 uncopied)) (λ uncopied. h.borrowed.1 (k.borrowed.0 uncopied)) in
      ap (λ (c : ContentView). record { content = c; style = span.style }) content
      ∙ ap (λ (s : Style). record { content = other.content; style = s }) (one_style (marks_upto borders from) base span.style other.style h.style k.style)

  -- ---- the row has one list of spans

  pub rises : (from : ℕ) (spans : List SpanView) (to : ℕ) → IsSplit row borders base tab_len mask from spans to → from ≤ to
  rises from [] to split = omega (arith, split)
  rises from (span ∷ spans) to split = omega (arith, split.1.not_empty, rises split.0 spans to split.2)

  -- a segment does not continue past an offset at which another one ends
  not_after : (from to other : ℕ) (span next : SpanView) → ShowsSegment row borders base tab_len mask from to span →
      ShowsSegment row borders base tab_len mask from other next → other ≤ length row → other ≤ to
  not_after from to other span next h k within = ⊎_elim
      (λ at_end. omega (arith, at_end, within))
      (λ at_border. grind (arith, common_steps, h.not_empty, k.uncut))
      h.edge

  one_end : (from to other : ℕ) (span next : SpanView) → ShowsSegment row borders base tab_len mask from to span →
      ShowsSegment row borders base tab_len mask from other next → to ≤ length row → other ≤ length row → to ≡ other
  one_end from to other span next h k within within' =
      omega (arith, not_after from to other span next h k within', not_after from other to next span k h within)

  pub one_split : (from : ℕ) (spans others : List SpanView) → IsSplit row borders base tab_len mask from spans (length row) →
      IsSplit row borders base tab_len mask from others (length row) → spans ≡ others
  one_split from [] [] split split' = refl
  one_split from [] (other ∷ others) split split' =
      absurd (omega (arith, split, split'.1.not_empty, rises split'.0 others (length row) split'.2))
  one_split from (span ∷ spans) [] split split' =
      absurd (omega (arith, split', split.1.not_empty, rises split.0 spans (length row) split.2))
  one_split from (span ∷ spans) (other ∷ others) split split' =
      let same : split.0 ≡ split'.0 =
      one_end from split.0 split'.0 span other split.1 split'.1 (rises split.0 spans (length row) split.2) (rises split'.0 others (length row) split'.2) in
      let segment = subst (λ mid. ShowsSegment row borders base tab_len mask from mid other) (sym same) split'.1 in
      let rest = subst (λ mid. IsSplit row borders base tab_len mask mid others (length row)) (sym same) split'.2 in
      ap (λ s. s ∷ spans) (one_span from split.0 span other split.1 segment)
      ∙ ap (λ ss. other ∷ ss) (one_split split.0 spans others split.2 rest)

-- ---- the line

pub one_line : (h : Highlights) (line other : LineView) → ShowsRow h line → ShowsRow h other → line ≡ other
one_line h line other shows shows' =
    let sorted : shows'.sorted ≡ shows.sorted = one_border_order h.borders shows'.sorted shows.sorted shows'.order shows.order in
    let split = subst (λ bs. IsSplit h.row bs h.base h.tab_len h.mask 0 shows'.segments (length h.row)) sorted shows'.split in
    let segments : shows.segments ≡ shows'.segments = one_split h.row shows.sorted h.base h.tab_len h.mask 0 shows.segments shows'.segments shows.split split in
    let spans : line.spans ≡ other.spans =
    shows.spans ∙ ap (λ ss. h.numbers ++ (ss ++ end_cell (end_style h))) segments ∙ sym shows'.spans in
    ap (λ (ss : List SpanView). record { spans = ss; style = line.style }) spans
    ∙ ap (λ (s : Style). record { spans = other.spans; style = s }) (shows.style ∙ sym shows'.style)
