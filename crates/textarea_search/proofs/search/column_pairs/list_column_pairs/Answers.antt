use Rattle.std.proofs.Common.{◌≡◌, ◌∙◌, ℕ, ◌+◌, ◌≤◌, List, [], ◌∷◌, ◌++◌, IsCharBoundary, append_assoc, ap, arith, length, map, refl, subst, sym}
use Rattle.std.specs.Prelude.{All}
use Rattle.std.specs.Str.{chars}
use Rattle.std.proofs.lemmas.List.Elements.{All-append, All-cons, All-nil}
use Rattle.std.proofs.lemmas.Str.{IsCharBoundary-start, chars-nil}
use Rattle.regex.specs.Strings.{match_span, matcher_pattern}
use Rattle.textarea_search.specs.ColumnPairs.{column_pairs_after, columns_of_span}
use Rattle.textarea_search.specs.Columns.{column_of_byte}
use Rattle.textarea_search.specs.Spans.{spans_after}
use Rattle.textarea_search.proofs.search.column_pairs.list_column_pairs.Goals as goal

-- the one end of the match is a column of the line, or the other one
abbrev StartsWithin : List ℕ → ℕ × ℕ → Type 0
StartsWithin line columns = columns.0 ≤ length (chars line)

abbrev EndsWithin : List ℕ → ℕ × ℕ → Type 0
EndsWithin line columns = columns.1 ≤ length (chars line)

pub loop-found-init : goal.loop-found-init
loop-found-init c =
    let line : List ℕ = c.args.line.now in
    let none : c.clear.new.self.items ≡ [] = c.clear.ensures.items in (
      refl,
      omega arith,
      IsCharBoundary-start line c.utf8.line,
      sym (ap length chars-nil),
      omega arith,
      subst (All (StartsWithin line)) (sym none) (All-nil (StartsWithin line)),
      subst (All (EndsWithin line)) (sym none) (All-nil (EndsWithin line)),
      ap (λ pairs. pairs ++ column_pairs_after (matcher_pattern c.args.matcher.now) line 0) none,
    )

pub loop-found-preserved : goal.loop-found-preserved
loop-found-preserved c =
    let line : List ℕ = c.args.line.now in
    let tree = matcher_pattern c.args.matcher.now in
    let inv = c.loop-found.invariant in
    let found = c.in-Some.found in
    let items = c.loop-found.pairs.items in
    let pair : ℕ × ℕ = (c.column_from-start.result, c.column_from-end.result) in
    let pushed : c.push.new.self.items ≡ items ++ pair ∷ [] = c.in_ok-push.ensures.items in
    let known : c.end-in-Some.result ≡ found.end = c.end-in-Some.ensures in
    let after : c.end-after.result ≡ found.end = c.end-after.ensures in
    let boundary : IsCharBoundary line found.end = subst (λ (text : List ℕ). IsCharBoundary text found.end) c.in-Some.ensures.within found.ends_cleanly in
    let left : spans_after tree line c.loop-found.after ≡ match_span found ∷ spans_after tree line (found.end + 1) =
    subst (λ t. spans_after t line c.loop-found.after ≡ match_span found ∷ spans_after t line (found.end + 1)) inv.0 c.in-Some.ensures.found in
    let start : column_of_byte line found.start ≡ pair.0 = sym (c.column_from-start.ensures.column ∙ ap (column_of_byte line) c.start.ensures) in
    let end : column_of_byte line found.end ≡ pair.1 = sym (c.column_from-end.ensures.column ∙ ap (column_of_byte line) c.end.ensures) in
    let columns : columns_of_span line (match_span found) ≡ pair = ap (λ (n : ℕ). (n, column_of_byte line found.end)) start ∙ ap (λ (n : ℕ). (pair.0, n)) end in
    let rest = column_pairs_after tree line (c.end-after.result + 1) in
    let pairs : column_pairs_after tree line c.loop-found.after ≡ pair ∷ rest =
    ap (map (columns_of_span line)) left ∙ ap (λ p. p ∷ column_pairs_after tree line (found.end + 1)) columns ∙ ap (λ n. pair ∷ column_pairs_after tree line (n + 1)) (sym after) in (
      c.in-Some.ensures.same ∙ inv.0,
      omega (arith, after, boundary.0),
      subst (IsCharBoundary line) (sym known) boundary,
      sym end ∙ ap (column_of_byte line) (sym known),
      omega (arith, known, after),
      subst (All (StartsWithin line)) (sym pushed) (All-append (StartsWithin line) items (pair ∷ []) inv.5 (All-cons (StartsWithin line) pair [] c.column_from-start.ensures.within (All-nil (StartsWithin line)))),
      subst (All (EndsWithin line)) (sym pushed) (All-append (EndsWithin line) items (pair ∷ []) inv.6 (All-cons (EndsWithin line) pair [] c.column_from-end.ensures.within (All-nil (EndsWithin line)))),
      ap (λ l. l ++ rest) pushed ∙ append_assoc items (pair ∷ []) rest ∙ sym (ap (λ l. items ++ l) pairs) ∙ inv.7,
    )
