-- A row has a line that shows it: for each border order, there are segments up to the row's end.
use Rattle.std.proofs.Common.{◌≡◌, ◌↔◌, ◌⊎◌, ℕ, zero, suc, ◌+◌, ◌-◌, ◌<◌, ◌≤◌, List, [], ◌∷◌, length, slice_get, Option, None, Some, refl, sym, ◌∙◌, inl, inr, ⊎_elim, arith, IsUtf8, IsCharBoundary, encode_utf8_all}
use Rattle.std.specs.List.{All, Any}
use Rattle.std.specs.Option.{MatchOption}
use Rattle.std.specs.Str.{bytes_eq}
use Rattle.std.proofs.lemmas.Bool.{cases_lt, cases_Bool, false≢true}
use Rattle.std.proofs.lemmas.List.Elements.{All-cons, All-nil}
use Rattle.std.proofs.lemmas.List.Sorted.{All-permutation}
use Rattle.std.proofs.lemmas.Slice.Eq.{bytes_eq-Decides}
use Rattle.textarea_screen.specs.Text.{ContentView, SpanView}
use Rattle.textarea_screen.specs.Text.ContentView.{BorrowedBytes, OwnedBytes}
use Rattle.textarea_screen.specs.declared.screen.style.Style.{Style}
use Rattle.textarea_highlight.specs.Borders.{ArePlaced, IsBorderOrder}
use Rattle.textarea_highlight.specs.Brackets.{IsStyleAfter}
use Rattle.textarea_highlight.specs.Highlights.{Highlights}
use Rattle.textarea_highlight.specs.OpenStyles.{passed_all}
use Rattle.textarea_highlight.specs.Row.{ShowsRow}
use Rattle.textarea_highlight.specs.Seen.{line_of_segments}
use Rattle.textarea_highlight.specs.Split.{display_segment, marks_upto, segment_of, IsSplit, ShowsSegment}
use Rattle.textarea_highlight.specs.Texts.{text_bytes_of, IsUncopied}
use Rattle.textarea_highlight.specs.declared.highlight.borders.Border.{Border}
use Rattle.textarea_highlight.specs.declared.highlight.borders.BorderEffect.{BorderEffect}
use Rattle.textarea_highlight.proofs.BracketLemmas.{style_after}
use Rattle.textarea_highlight.proofs.WholeLemmas.{whole}

-- ---- the end of a segment

-- the next border after an offset, or the end if there is none
record IsNextEdge (borders : List Border) (from end to : ℕ) : Type 0 where
  after : from < to
  within : to ≤ end
  edge : (to ≡ end) ⊎ Any (λ border. border.offset ≡ to) borders
  uncut : All (λ border. (border.offset ≤ from) ⊎ (to ≤ border.offset)) borders

any_later : {P : Border → Type 0} (border : Border) (borders : List Border) → Any P borders → Any P (border ∷ borders)
any_later border borders h = (suc h.0, h.1, omega (arith, h.2), h.3, h.4)

edge_later : (border : Border) (borders : List Border) (end to : ℕ) → (to ≡ end) ⊎ Any (λ b. b.offset ≡ to) borders → (to ≡ end) ⊎ Any (λ b. b.offset ≡ to) (border ∷ borders)
edge_later border borders end to h = ⊎_elim (λ at_end. inl at_end) (λ at. inr (any_later border borders at)) h

-- a border that isn't in between changes nothing
past_border : (border : Border) (borders : List Border) (from end to : ℕ) → (border.offset ≤ from) ⊎ (to ≤ border.offset) → IsNextEdge borders from end to →
    IsNextEdge (border ∷ borders) from end to
past_border border borders from end to aside h = record {
  after = h.after;
  within = h.within;
  edge = edge_later border borders end to h.edge;
  uncut = All-cons (λ b. (b.offset ≤ from) ⊎ (to ≤ b.offset)) border borders aside h.uncut;
}

next_edge : (borders : List Border) (from end : ℕ) → from < end → (to : ℕ) × IsNextEdge borders from end to
next_edge [] from end below =
    (end, record { after = below; within = omega arith; edge = inl refl; uncut = All-nil (λ border. (border.offset ≤ from) ⊎ (end ≤ border.offset)) })
next_edge (border ∷ borders) from end below =
    let others = next_edge borders from end below in
    let h = others.1 in
    elim (cases_lt from border.offset) [
      | inr passed ↦ (others.0, past_border border borders from end others.0 (inl passed) h)
      | inl ahead ↦ elim (cases_lt border.offset others.0) [
        | inr later ↦ (others.0, past_border border borders from end others.0 (inr later) h)
        | inl nearer ↦ (
          border.offset,
          record {
            after = ahead;
            within = omega (arith, h.within);
            edge = inr (zero, border, omega arith, refl, refl);
            uncut = All-cons (λ b. (b.offset ≤ from) ⊎ (border.offset ≤ b.offset)) border borders (inr (omega arith))
                (λ k d at. ⊎_elim (λ before. inl before) (λ past. inr (omega (arith, past))) (h.uncut k d at));
          },
        )
      ]
    ]

-- ---- a segment's style and text

last_style : (base : Style) (o : Option Style) → (style : Style) × MatchOption o (style ≡ base) (λ s. style ≡ s)
last_style base None = (base, refl)
last_style base (Some style) = (style, refl)

some_style : (marks : List BorderEffect) (base : Style) → (style : Style) × IsStyleAfter marks base style
some_style marks base =
    let styles = passed_all [] marks in
    let found = last_style base (slice_get styles (length styles - 1)) in
    (found.0, style_after marks styles base found.0 refl found.1)

abbrev IsContent : Option ℕ → List ℕ → List ℕ → ContentView → Type 0
IsContent mask cs displayed content = (text_bytes_of content ≡ encode_utf8_all displayed) × (IsUncopied content ↔ ((mask ≡ None) × (displayed ≡ cs)))

pub some_content : (mask : Option ℕ) (cs displayed : List ℕ) → (content : ContentView) × IsContent mask cs displayed content
some_content (Some mask) cs displayed = (OwnedBytes (encode_utf8_all displayed), (refl, ((λ never. absurd never), (λ both. let never = both.0 in cc))))
some_content None cs displayed =
    elim (cases_Bool (bytes_eq displayed cs)) [
      | inl same ↦ (BorrowedBytes (encode_utf8_all displayed), (refl, ((λ _. (refl, (bytes_eq-Decides displayed cs).0 same)), (λ _. tt))))
      | inr other ↦ (OwnedBytes (encode_utf8_all displayed), (refl, ((λ never. absurd never), (λ both. false≢true (sym other ∙ (bytes_eq-Decides displayed cs).1 both.1)))))
    ]

-- ---- the segments

module _ (row : List ℕ) (borders : List Border) (base : Style) (tab_len : ℕ) (mask : Option ℕ) where
  some_segment : (from to : ℕ) → IsNextEdge borders from (length row) to → (span : SpanView) × ShowsSegment row borders base tab_len mask from to span
  some_segment from to h =
      let style = some_style (marks_upto borders from) base in
      let content = some_content mask (segment_of row from to) (display_segment row tab_len mask from to) in (
        record { content = content.0; style = style.0 },
        record { not_empty = h.after; edge = h.edge; uncut = h.uncut; style = style.1; text = content.1.0; borrowed = content.1.1 },
      )

  -- the row's segments from an offset on
  some_segments : (most from : ℕ) → length row ≤ from + most → from ≤ length row → (spans : List SpanView) × IsSplit row borders base tab_len mask from spans (length row)
  some_segments zero from past within = ([], omega (arith, past, within))
  some_segments (suc most) from past within =
      elim (cases_lt from (length row)) [
        | inl below ↦
            let edge = next_edge borders from (length row) below in
            let segment = some_segment from edge.0 edge.1 in
            let others = some_segments most edge.0 (omega (arith, edge.1.after)) edge.1.within in
            (segment.0 ∷ others.0, (edge.0, segment.1, others.1))
        | inr at_end ↦ ([], omega (arith, at_end, within))
      ]

  pub all_segments : (spans : List SpanView) × IsSplit row borders base tab_len mask 0 spans (length row)
  all_segments = some_segments (length row) 0 (omega arith) (omega arith)

pub segments_shown : (h : Highlights) (sorted : List Border) (segments : List SpanView) → IsUtf8 h.row → ArePlaced h.row h.borders → IsBorderOrder h.borders sorted →
    IsSplit h.row sorted h.base h.tab_len h.mask 0 segments (length h.row) → ShowsRow h (line_of_segments h segments)
segments_shown h sorted segments utf8 placed order split = record {
  sorted = sorted;
  order = order;
  segments = segments;
  split = split;
  spans = refl;
  style = refl;
  whole = λ stops. whole h.row sorted h.base h.tab_len h.mask segments utf8
      (All-permutation (λ (border : Border). IsCharBoundary h.row border.offset) h.borders sorted order.same placed) stops split;
}
