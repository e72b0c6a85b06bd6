use Rattle.std.proofs.Common.{◌≡◌, ◌∙◌, ℕ, ◌+◌, ◌≤◌, ◌<◌, List, ◌∷◌, ◌++◌, IsUtf8, String, append_assoc, ap, arith, drop, get_or, length, map, string_bytes, string_len, sym, Global}
use Rattle.std.specs.Prelude.{All}
use Rattle.std.specs.Str.{chars}
use Rattle.std.proofs.lemmas.List.{drop_more}
use Rattle.std.proofs.lemmas.List.Elements.{All-weaker}
use Rattle.textarea_text.specs.Size.{size_of}
use Rattle.textarea_util.proofs.Characters.{length-chars}
use Rattle.textarea_util.specs.Limit.{size_limit}
use Rattle.textarea_search.specs.ColumnPairs.{match_column_pairs}
use Rattle.textarea_search.specs.TextMatches.{matches_from, text_match}
use Rattle.textarea_search.proofs.search.line_matcher.LineMatcher.text_matches.Goals as goal

-- what is left begins with the line of the row
left_is : (lines : List (String Global)) (i : ℕ) (line : String Global) → i < length lines → line ≡ get_or lines i line → drop i lines ≡ line ∷ drop (i + 1) lines
left_is lines i line within is = drop_more lines i line within ∙ ap (λ (l : String Global). l ∷ drop (i + 1) lines) (sym is)

size_left : (lines : List (String Global)) (i : ℕ) (line : String Global) → i < length lines → line ≡ get_or lines i line → size_of (drop i lines) ≡ string_len line + 1 + size_of (drop (i + 1) lines)
size_left lines i line within is = ap size_of (left_is lines i line within is)

-- the matches in the lines that are left are those of the first of these, and then the others
matches_more : (pairs : List ℕ → List (ℕ × ℕ)) (lines : List (String Global)) (row before i : ℕ) (line : String Global) → i < length lines → line ≡ get_or lines i line →
    (next_row next_before : ℕ) → next_row ≡ row + 1 → next_before ≡ before + length (chars (string_bytes line)) + 1 →
    matches_from pairs row before (map string_bytes (drop i lines))
    ≡ map (text_match row before) (pairs (string_bytes line)) ++ matches_from pairs next_row next_before (map string_bytes (drop (i + 1) lines))
matches_more pairs lines row before i line within is next_row next_before rows befores =
    let here = map (text_match row before) (pairs (string_bytes line)) in
    let rest : List (List ℕ) = map string_bytes (drop (i + 1) lines) in
    ap (λ (left : List (String Global)). matches_from pairs row before (map string_bytes left)) (left_is lines i line within is)
    ∙ ap (λ n. here ++ matches_from pairs n (before + length (chars (string_bytes line)) + 1) rest) (sym rows)
    ∙ ap (λ n. here ++ matches_from pairs next_row n rest) (sym befores)

-- the characters before a line that is left, its own and its break are within the limit
line_fits : (lines : List (String Global)) (i before : ℕ) (line : String Global) (text : List ℕ) → i < length lines → line ≡ get_or lines i line → before + size_of (drop i lines) ≤ size_limit →
    IsUtf8 text → text ≡ string_bytes line → before + (length (chars text) + 1) + size_of (drop (i + 1) lines) ≤ size_limit
line_fits lines i before line text within is left utf8 same = omega (arith, left, length-chars text utf8, ap length same, line.bytes.ok.0, size_left lines i line within is)

-- columns within a line, after what is before it
columns_fit : (column : ℕ × ℕ → ℕ) (before width : ℕ) (pairs : List (ℕ × ℕ)) → before + width ≤ 18446744073709551615 → All (λ columns. column columns ≤ width) pairs →
    All (λ columns. before + column columns ≤ 18446744073709551615) pairs
columns_fit column before width pairs fits =
    All-weaker (λ columns. column columns ≤ width) (λ columns. before + column columns ≤ 18446744073709551615) (λ columns le. omega (arith, le, fits)) pairs

pub push_matches-requires-clause-starts : goal.push_matches-requires-clause-starts
push_matches-requires-clause-starts c =
    rw (← c.as_slice.ensures.value) at
    (columns_fit (λ columns. columns.0) c.loop-index.before (length (chars c.deref.result.now)) c.column_pairs_into.new.pairs.items
    (omega (arith, line_fits c.args.lines.now c.loop-index.index c.loop-index.before c.index-lines-index.result c.deref.result.now (omega arith) c.index-lines-index.is c.loop-index.invariant.1 c.deref.utf8 c.deref.ensures))
    c.in_ok-column_pairs_into.ensures.starts)

pub push_matches-requires-clause-ends : goal.push_matches-requires-clause-ends
push_matches-requires-clause-ends c =
    rw (← c.as_slice.ensures.value) at
    (columns_fit (λ columns. columns.1) c.loop-index.before (length (chars c.deref.result.now)) c.column_pairs_into.new.pairs.items
    (omega (arith, line_fits c.args.lines.now c.loop-index.index c.loop-index.before c.index-lines-index.result c.deref.result.now (omega arith) c.index-lines-index.is c.loop-index.invariant.1 c.deref.utf8 c.deref.ensures))
    c.in_ok-column_pairs_into.ensures.ends)

pub overflow_add-before : goal.overflow_add-before
overflow_add-before c =
    omega (
      arith,
      c.column_count.ensures,
      line_fits c.args.lines.now c.loop-index.index c.loop-index.before c.index-lines-index.result
          c.deref-in-loop-index.result.now (omega arith) c.index-lines-index.is c.loop-index.invariant.1 c.deref-in-loop-index.utf8 c.deref-in-loop-index.ensures,
    )

pub overflow_add-before-in-loop-index : goal.overflow_add-before-in-loop-index
overflow_add-before-in-loop-index c =
    omega (
      arith,
      c.column_count.ensures,
      line_fits c.args.lines.now c.loop-index.index c.loop-index.before c.index-lines-index.result
          c.deref-in-loop-index.result.now (omega arith) c.index-lines-index.is c.loop-index.invariant.1 c.deref-in-loop-index.utf8 c.deref-in-loop-index.ensures,
    )

pub loop-index-preserved : goal.loop-index-preserved
loop-index-preserved c =
    let inv = c.loop-index.invariant in
    let lines = c.args.lines.now in
    let i = c.loop-index.index in
    let line = c.index-lines-index.result in
    let pairs = match_column_pairs c.args.self.now in
    let row = c.args.first_row + i in
    let before = c.loop-index.before in
    let count : c.column_count.result ≡ length (chars (string_bytes line)) = c.column_count.ensures ∙ ap (λ bs. length (chars bs)) c.deref-in-loop-index.ensures in
    let found : c.as_slice.result.now ≡ pairs (string_bytes line) =
    c.as_slice.ensures.value ∙ c.in_ok-column_pairs_into.ensures.found ∙ ap (λ s. match_column_pairs s c.deref.result.now) inv.0 ∙ ap pairs c.deref.ensures in
    let rest = matches_from pairs (c.args.first_row + (i + 1)) (before + (c.column_count.result + 1)) (map string_bytes (drop (i + 1) lines)) in
    let more = matches_more pairs lines row before i line (omega arith) c.index-lines-index.is (c.args.first_row + (i + 1)) (before + (c.column_count.result + 1)) (omega arith) (omega (arith, count)) in (
      c.in_ok-column_pairs_into.ensures.same ∙ inv.0,
      omega (
        arith,
        c.column_count.ensures,
        line_fits c.args.lines.now c.loop-index.index c.loop-index.before c.index-lines-index.result
            c.deref-in-loop-index.result.now (omega arith) c.index-lines-index.is c.loop-index.invariant.1 c.deref-in-loop-index.utf8 c.deref-in-loop-index.ensures,
      ),
      ap (λ l. l ++ rest) (c.in_ok-push_matches.ensures ∙ ap (λ found. c.loop-index.matches.items ++ map (text_match row before) found) found)
          ∙ append_assoc c.loop-index.matches.items (map (text_match row before) (pairs (string_bytes line))) rest
          ∙ sym (ap (λ l. c.loop-index.matches.items ++ l) more)
          ∙ inv.2,
    )
