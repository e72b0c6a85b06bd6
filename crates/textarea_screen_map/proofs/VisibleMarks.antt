-- A mark of a line, moved past visible ASCII.
use Rattle.std.proofs.Common.{◌≡◌, ℕ, ◌+◌, ◌-◌, ◌≤◌, inl, inr, max, List, ◌++◌, length, take, drop, refl, sym, ap, subst, ◌∙◌, arith, encode_utf8_all}
use Rattle.std.proofs.Math.Seq.{take-add}
use Rattle.std.proofs.lemmas.Bool.{cases_lt}
use Rattle.std.proofs.lemmas.List.{length-append, length-drop, length-take-le, take-append-drop, take-take, take_at}
use Rattle.std.proofs.lemmas.Str.{encodes-IsAscii, encodes-append}
use Rattle.std.specs.List.{AllByRecursion}
use Rattle.std.specs.Str.{IsUtf8, chars}
use Rattle.textarea_wrap.specs.Columns.{IsVisible, end_column}
use Rattle.textarea_util.proofs.Alls.{all_split}
use Rattle.textarea_wrap.proofs.ColumnLemmas.{end_column-append}
use Rattle.textarea_wrap.proofs.VisibleLemmas.{past_visible, visible-ascii, visible-columns}
use Rattle.textarea_screen_map.specs.declared.line_marks.Mark.{Mark}
use Rattle.textarea_screen_map.specs.LineMarks.{IsMark}
use Rattle.textarea_screen_map.specs.VisualRows.{column_at}
use Rattle.textarea_screen_map.proofs.MarkLemmas.{walk_from}

-- the columns after some visible characters that follow a position
visible_after :
    (tab_len : ℕ) (cs front after : List ℕ) (column k : ℕ) → drop column cs ≡ front ++ after → AllByRecursion IsVisible front → k ≤ length front
    → (take (column + k) cs ≡ take column cs ++ take k front) × (column_at tab_len cs (column + k) ≡ column_at tab_len cs column + k)
visible_after tab_len cs front after column k is visible within =
    let here : take k (drop column cs) ≡ take k front = ap (take k) is ∙ sym (take-take k (length front) (front ++ after) within) ∙ ap (take k) (take_at front after (length front) refl) in
    let parts : take (column + k) cs ≡ take column cs ++ take k front = take-add column k cs ∙ ap (λ t. take column cs ++ t) here in
    let seen = (all_split IsVisible (take k front) (drop k front) (subst (AllByRecursion IsVisible) (sym (take-append-drop k front)) visible)).0 in
    let columns : end_column (max tab_len 1) (column_at tab_len cs column) (take k front) ≡ column_at tab_len cs column + k =
    omega (arith, visible-columns (max tab_len 1) (column_at tab_len cs column) (take k front) seen, length-take-le k front within) in
    (parts, ap (end_column (max tab_len 1) 0) parts ∙ end_column-append (max tab_len 1) 0 (take column cs) (take k front) ∙ columns)

pub mark_further :
    (tab_len : ℕ) (line rest : List ℕ) (mark : Mark) (count : ℕ) → IsUtf8 line → rest ≡ drop mark.offset line → count ≤ length rest
    → AllByRecursion IsVisible (take count rest) → IsMark tab_len (chars line) mark
    → IsMark tab_len (chars line) (record { column = mark.column + count; offset = mark.offset + count; display = mark.display + count })
mark_further tab_len line rest mark count valid is within visible h =
    let cs = chars line in
    let front = take count rest in
    let walked = (walk_from tab_len line rest mark valid h is).0 in
    let after = chars (drop count rest) in
    let left : drop mark.column cs ≡ front ++ after = walked.left ∙ (past_visible rest count walked.text within visible).spelled in
    let size : length front ≡ count = length-take-le count rest within in
    let at : (k : ℕ) → k ≤ count → (take (mark.column + k) cs ≡ take mark.column cs ++ take k front) × (column_at tab_len cs (mark.column + k) ≡ column_at tab_len cs mark.column + k) =
    λ k below. visible_after tab_len cs front after mark.column k left visible (omega (arith, below, size)) in
    let whole = at count (omega arith) in
    let all : take count front ≡ front = take-take count count rest (omega arith) in
    record {
      within = omega (arith, length-drop mark.column cs, ap length left, length-append front after, size, h.within);
      offset_is =
          omega (
            arith,
            h.offset_is,
            ap (λ t. length (encode_utf8_all t)) (whole.0 ∙ ap (λ t. take mark.column cs ++ t) all),
            ap length (encodes-append (take mark.column cs) front),
            length-append (encode_utf8_all (take mark.column cs)) (encode_utf8_all front),
            ap length (encodes-IsAscii front (visible-ascii front visible)),
            size,
          );
      display_is = omega (arith, h.display_is, whole.1);
      first = λ k below. elim (cases_lt k mark.column) [
        | inl early ↦ omega (arith, h.first k early)
        | inr late ↦
            let same : mark.column + (k - mark.column) ≡ k = omega (arith, late) in
            omega (arith, h.display_is, (at (k - mark.column) (omega (arith, below, late))).1, ap (column_at tab_len cs) same, below, late)
      ];
      near = omega (arith, h.near);
    }
