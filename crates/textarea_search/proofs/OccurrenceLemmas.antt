-- Where a line has a text without syntax: if it can't overlap itself, each such place is the start of a match.
use Rattle.std.proofs.Common.{◌≡◌, ◌==◌, Bool, not, IfSome, is_some, reverse, true≢false, eq-eqb, ℕ, zero, suc, ◌+◌, ◌-◌, ◌<◌, ◌≤◌, true, false, cond, List, ◌∷◌, map, length, take, drop, get_or}
use Rattle.std.proofs.Common.{Option, None, Some, option_map, refl, sym, ap, ◌∙◌, subst, inl, inr, ⊎_elim, arith, zero-le, IsUtf8, IsCharBoundary}
use Rattle.std.specs.Prelude.{nat_le, nat_lt, slice_index}
use Rattle.std.specs.List.{find}
use Rattle.std.specs.Option.{option_or}
use Rattle.std.proofs.lemmas.Bool.{cases_lt, cond-true, le-leb}
use Rattle.std.proofs.lemmas.Bool.Decides.{nat_tests}
use Rattle.std.proofs.lemmas.List.{get_or_append_left, get_or-drop, get_or-take, length-drop, length-take-le, take_rest}
use Rattle.std.proofs.lemmas.Option.{none-some, same_Some}
use Rattle.std.proofs.lemmas.Str.{IsCharBoundary-start}
use Rattle.memchr.specs.Find.{FindsLastNeedle, FindsNeedle, IsFirstByte, IsLast, Nowhere, OccursAt, Passes, is_byte}
use Rattle.memchr.proofs.lemmas.FindLemmas.{Nowhere-then}
use Rattle.memchr.proofs.lemmas.MatchLemmas.{OccursAt-split}
use Rattle.regex_hir.specs.Find.{Match, find_str}
use Rattle.regex_hir.specs.Re.{Trace, accept, attempt, literal}
use Rattle.regex_hir.specs.Text.{has_bytes_at, is_boundary}
use Rattle.regex_hir.proofs.AttemptLemmas.{cond_some}
use Rattle.regex_hir.proofs.FindLemmas.{IsFirst-of_first_between, none_of_first_between}
use Rattle.regex_hir.proofs.OptionLemmas.{option_cases}
use Rattle.regex_hir.proofs.TextLemmas.{has_bytes_at_fits, has_bytes_at_from, has_bytes_at_parts}
use Rattle.regex.specs.Patterns.{span}
use Rattle.regex.specs.Search.{next_match}
use Rattle.regex.proofs.SearchLemmas.{matches_after_none, matches_after_some, next_same, next_within}
use Rattle.regex.proofs.Utf8Lemmas.{test_of_IsCharBoundary}
use Rattle.textarea_search.specs.Columns.{column_of_byte}
use Rattle.textarea_search.specs.Spans.{StartsOnce, columns_in, spans_after}
use Rattle.textarea_search.specs.Starts.{along, is_ahead_in_line, is_past, last_of}
use Rattle.textarea_search.specs.declared.search.direction.Direction.{Direction}
use Rattle.textarea_search.specs.declared.search.direction.Direction.TheVariants.{Forward, Back}
use Rattle.textarea_search.proofs.ColumnLemmas.{IsByteOfColumn, column_of_span, find_ahead}
use Rattle.textarea_search.proofs.ListedLemmas.{last_of_more, spans_lie}
use Rattle.textarea_search.proofs.StartLemmas.{find-same}

pub occurs : (line word : List ℕ) (i : ℕ) → i ≤ length line → has_bytes_at line i word ≡ true → OccursAt line word i
occurs line word i within e = record {
  fits = omega (arith, has_bytes_at_fits line i word e);
  reads = λ j lt.
      sym (get_or-drop i line j 0) ∙ ap (λ bs. get_or bs j 0) (has_bytes_at_parts line i word e)
      ∙ get_or_append_left word (drop (i + length word) line) 0 j lt;
}

-- ---- the first occurrence from an offset on

module _ (line word : List ℕ) (from : ℕ) where
  nothing : (start : Option ℕ) → FindsNeedle line word from start → Nowhere (OccursAt line word) from (length line + 1) → None ≡ start
  nothing None finds nowhere = refl
  nothing (Some k) finds nowhere = absurd (nowhere k finds.0.low finds.0.high finds.1)

  first_is : (start : Option ℕ) (i : ℕ) → FindsNeedle line word from start → OccursAt line word i → from ≤ i → Nowhere (OccursAt line word) from i → Some i ≡ start
  first_is None i finds here le nowhere = absurd (finds i le (omega (arith, here.fits)) here)
  first_is (Some k) i finds here le nowhere =
      elim (cases_lt k i) [
        | inl lt ↦ absurd (nowhere k finds.0.low lt finds.1)
        | inr ge ↦ elim (cases_lt i k) [
          | inl lt ↦ absurd (finds.0.before i le lt here)
          | inr same ↦ ap Some (omega arith)
        ]
      ]

fails : (x y : ℕ) → x < y → nat_le y x ≡ false
fails x y lt = grind (arith, nat_tests)

below : (x y : ℕ) → x < y → nat_lt x y ≡ true
below x y lt = grind (arith, nat_tests)

not_below : (x y : ℕ) → y ≤ x → nat_lt x y ≡ false
not_below x y le = grind (arith, nat_tests)

none_first : (first last : Option (ℕ × ℕ)) → option_map (λ s. s.0) first ≡ None → option_map (λ s. s.0) (option_or first last) ≡ option_map (λ s. s.0) last
none_first None last e = refl
none_first (Some s) last e = absurd (none-some s.0 (sym e))

some_first : (first last : Option (ℕ × ℕ)) (k : ℕ) → option_map (λ s. s.0) first ≡ Some k → option_map (λ s. s.0) (option_or first last) ≡ Some k
some_first None last k e = absurd (none-some k e)
some_first (Some s) last k e = e

-- ---- the tree of a text finds its occurrences

-- an occurrence is between characters
boundary : (line word : List ℕ) → IsUtf8 word → 0 < length word → (i : ℕ) → OccursAt line word i → IsCharBoundary line i
boundary line word text some i here =
    let first : get_or line (i + 0) 0 ≡ get_or word 0 0 = here.reads 0 some in
    let same : i + 0 ≡ i = omega arith in
    let byte : get_or line i 0 ≡ get_or word 0 0 = ap (λ n. get_or line n 0) (sym same) ∙ first in
    let lead = (IsCharBoundary-start word text).1 some in
    (omega (arith, here.fits), λ lt high. omega (arith, lead (omega (arith, byte, high)), byte))

-- the match is the first occurrence of the text from an offset on
record IsFirstText (line word : List ℕ) (from : ℕ) (m : Match) : Type 0 where
  low : from ≤ m.start
  here : OccursAt line word m.start
  end : m.trace.end ≡ m.start + length word
  before : Nowhere (OccursAt line word) from m.start

module _ (line word : List ℕ) (text : IsUtf8 word) (once : StartsOnce word) where
  -- the tree matches at an occurrence
  matches_here : (i : ℕ) → OccursAt line word i → cond (is_boundary line i) (attempt line (literal word) accept i) None ≡ None → ⊥
  unfolding attempt
  matches_here i here none =
      let bytes : has_bytes_at line i word ≡ true = has_bytes_at_from line i word (drop (i + length word) line) (OccursAt-split line word i here) in
      none-some _ (sym none ∙ cond-true _ _ None (test_of_IsCharBoundary line i (boundary line word text once.some i here)) ∙ cond-true _ _ None bytes)

  found_text : (from : ℕ) (m : Match) → find_str (literal word) line from ≡ Some m → IsFirstText line word from m
  unfolding find_str attempt
  found_text from m e =
      let first = IsFirst-of_first_between _ from (length line) m e in
      let passes = cond_some (is_boundary line m.start) _ m.trace first.here in
      let bytes = cond_some (has_bytes_at line m.start word) _ m.trace passes.1 in
      record {
        low = first.from;
        here = occurs line word m.start first.to bytes.0;
        end = ap (λ (t : Trace). t.end) (sym (same_Some _ _ bytes.1));
        before = λ i low high here. matches_here i here (first.before i low high);
      }

  no_text : (from : ℕ) → find_str (literal word) line from ≡ None → Nowhere (OccursAt line word) from (length line + 1)
  unfolding find_str
  no_text from e i low high here = matches_here i here (none_of_first_between _ from (length line) e i low (omega arith))

  next_is : (after : ℕ) → next_match true (literal word) line after ≡ find_str (literal word) line (after - 1)
  next_is after = next_same (literal word) line true after (λ m e. let found = found_text (after - 1) m e in omega (arith, found.low, found.end, once.some))

  -- the text doesn't overlap itself
  apart : (i k : ℕ) → OccursAt line word i → OccursAt line word k → i < k → k < i + length word → ⊥
  apart i k here there low high =
      let same : i + (k - i) ≡ k + 0 = omega arith in
      once.once (k - i) (omega arith) (omega arith)
      (sym (here.reads (k - i) (omega arith)) ∙ ap (λ n. get_or line n 0) same ∙ there.reads 0 once.some)

  none_left : (after from : ℕ) (start : Option ℕ) → next_match true (literal word) line after ≡ None → Nowhere (OccursAt line word) from (after - 1) → FindsNeedle line word from start →
      option_map (λ s. s.0) (find (λ s. nat_le from s.0) (spans_after (literal word) line after)) ≡ start
  none_left after from start none before finds =
      ap (λ ss. option_map (λ s. s.0) (find (λ s. nat_le from s.0) ss)) (ap (map span) (matches_after_none (literal word) line true after none))
      ∙ nothing line word from start finds (Nowhere-then before (no_text (after - 1) (sym (next_is after) ∙ none)))

  last_none : (after to : ℕ) (start : Option ℕ) → next_match true (literal word) line after ≡ None → IsLast (OccursAt line word) (after - 1) to start →
      option_map (λ s. s.0) (find (λ s. nat_lt s.0 to) (reverse (spans_after (literal word) line after))) ≡ start
  last_none after to None none finds =
      ap (λ ss. option_map (λ s. s.0) (find (λ s. nat_lt s.0 to) (reverse ss))) (ap (map span) (matches_after_none (literal word) line true after none))
  last_none after to (Some k) none finds =
      absurd (no_text (after - 1) (sym (next_is after) ∙ none) k finds.0.low (omega (arith, finds.1.fits)) finds.1)

  -- the last match is one after this match, or else this one, if that is before the offset
  last_step : (after to : ℕ) (m : Match) (start : Option ℕ) → IsFirstText line word (after - 1) m → IsLast (OccursAt line word) (after - 1) to start →
      (later : Option (ℕ × ℕ)) → ((k : Option ℕ) → IsLast (OccursAt line word) (m.trace.end + 1 - 1) to k → option_map (λ s. s.0) later ≡ k) →
      option_map (λ (s : ℕ × ℕ). s.0) (option_or later (cond (nat_lt m.start to) (Some (span m)) None)) ≡ start
  last_step after to m None found finds later is =
      elim (cases_lt m.start to) [
        | inl lt ↦ absurd (finds m.start found.low lt found.here)
        | inr ge ↦
            ap (λ b. option_map (λ (s : ℕ × ℕ). s.0) (option_or later (cond b (Some (span m)) None))) (not_below m.start to ge)
            ∙ none_first later None (is None (λ i low high here. omega (arith, found.end)))
      ]
  last_step after to m (Some k) found finds later is =
      elim (cases_lt k m.start) [
        | inl lt ↦ elim (cases_lt m.start to) [
          | inl below ↦ absurd (finds.0.after m.start (omega arith) below found.here)
          | inr ge ↦ absurd (found.before k finds.0.low lt finds.1)
        ]
        | inr ge ↦ elim (cases_lt k m.trace.end) [
          | inl lt ↦
              let same : k ≡ m.start = elim (cases_lt m.start k) [ inl more ↦ absurd (apart m.start k found.here finds.1 more (omega (arith, found.end))) | inr le ↦ omega arith ] in
              let none = is None (λ i low high here. finds.0.after i (omega arith) high here) in
              none_first later (cond (nat_lt m.start to) (Some (span m)) None) none
              ∙ ap (λ b. option_map (λ (s : ℕ × ℕ). s.0) (cond b (Some (span m)) None)) (below m.start to (omega (arith, finds.0.high, same)))
              ∙ ap Some (sym same)
          | inr beyond ↦
              some_first later (cond (nat_lt m.start to) (Some (span m)) None) k
              (is (Some k) (record { low = omega arith; high = finds.0.high; after = finds.0.after }, finds.1))
        ]
      ]

  -- the first match from an offset on, among those that are left
  pub first_left : (n after from : ℕ) (start : Option ℕ) → length line + 1 ≤ after + n → Nowhere (OccursAt line word) from (after - 1) → FindsNeedle line word from start →
      option_map (λ s. s.0) (find (λ s. nat_le from s.0) (spans_after (literal word) line after)) ≡ start
  first_left zero after from start room before finds =
      ⊎_elim
      (λ none. none_left after from start none before finds)
      (λ (some : (m : Match) × (_ ≡ Some m)). absurd (omega (arith, next_within (literal word) line true after some.0 some.1)))
      (option_cases (next_match true (literal word) line after))
  first_left (suc n) after from start room before finds =
      ⊎_elim
      (λ none. none_left after from start none before finds)
      (λ (some : (m : Match) × (_ ≡ Some m)).
      let m = some.0 in
      let found = found_text (after - 1) m (sym (next_is after) ∙ some.1) in
      let first = λ (ss : List (ℕ × ℕ)). option_map (λ s. s.0) (find (λ s. nat_le from s.0) ss) in
      ap first (ap (map span) (matches_after_some (literal word) line true after m some.1))
      ∙ elim (cases_lt m.start from) [
        | inl lt ↦
            let later : Nowhere (OccursAt line word) from (m.trace.end + 1 - 1) = λ i low high here. apart m.start i found.here here (omega arith) (omega (arith, found.end)) in
            ap (λ b. option_map (λ (s : ℕ × ℕ). s.0) (cond b (Some (span m)) (find (λ s. nat_le from s.0) (spans_after (literal word) line (m.trace.end + 1))))) (fails m.start from lt)
            ∙ first_left n (m.trace.end + 1) from start (omega (arith, found.low, found.end, once.some)) later finds
        | inr ge ↦
            ap (λ b. option_map (λ (s : ℕ × ℕ). s.0) (cond b (Some (span m)) (find (λ s. nat_le from s.0) (spans_after (literal word) line (m.trace.end + 1))))) (le-leb from m.start ge)
            ∙ first_is line word from start m.start finds found.here ge (Nowhere-then before found.before)
      ])
      (option_cases (next_match true (literal word) line after))

  -- the last match before an offset, among those that are left
  pub last_left : (n after to : ℕ) (start : Option ℕ) → length line + 1 ≤ after + n → IsLast (OccursAt line word) (after - 1) to start →
      option_map (λ s. s.0) (find (λ s. nat_lt s.0 to) (reverse (spans_after (literal word) line after))) ≡ start
  last_left zero after to start room finds =
      ⊎_elim
      (λ none. last_none after to start none finds)
      (λ (some : (m : Match) × (_ ≡ Some m)). absurd (omega (arith, next_within (literal word) line true after some.0 some.1)))
      (option_cases (next_match true (literal word) line after))
  last_left (suc n) after to start room finds =
      ⊎_elim
      (λ none. last_none after to start none finds)
      (λ (some : (m : Match) × (_ ≡ Some m)).
      let m = some.0 in
      let found = found_text (after - 1) m (sym (next_is after) ∙ some.1) in
      let rest = spans_after (literal word) line (m.trace.end + 1) in
      ap (λ ss. option_map (λ s. s.0) (find (λ s. nat_lt s.0 to) (reverse ss))) (ap (map span) (matches_after_some (literal word) line true after m some.1))
      ∙ ap (option_map (λ (s : ℕ × ℕ). s.0)) (last_of_more (λ s. nat_lt s.0 to) (span m) rest)
      ∙ last_step after to m start found finds (find (λ s. nat_lt s.0 to) (reverse rest))
      (λ later is. last_left n (m.trace.end + 1) to later (omega (arith, found.low, found.end, once.some)) is))
      (option_cases (next_match true (literal word) line after))

-- ---- a search by columns

-- the first offset that a search from a byte may find
abbrev pub first_of : ℕ → Bool → ℕ
first_of byte at = cond at byte (byte + 1)

past_first : (byte : ℕ) (at : Bool) (start : ℕ) → nat_le (first_of byte at) start ≡ is_past byte at start
past_first byte true start = grind (arith, nat_tests)
past_first byte false start = grind (arith, nat_tests)

before_last : (byte : ℕ) (at : Bool) (start : ℕ) → nat_lt start (last_of byte at) ≡ is_past start at byte
before_last byte true start = grind (arith, nat_tests)
before_last byte false start = grind (arith, nat_tests)

pub at_or_after : (byte : ℕ) (at : Bool) → byte ≤ first_of byte at
at_or_after byte true = omega arith
at_or_after byte false = omega arith

column_of_first : (line : List ℕ) (o : Option (ℕ × ℕ)) → option_map (column_of_byte line) (option_map (λ s. s.0) o) ≡ option_map (column_of_span line) o
column_of_first line None = refl
column_of_first line (Some s) = refl

module _ (needle line : List ℕ) (utf8 : IsUtf8 needle) (once : StartsOnce needle) (text : IsUtf8 line) (column byte : ℕ) (at : Bool) (occurs : IsByteOfColumn line column byte) (start : Option ℕ) where
  by_column : (direction : Direction) (test : ℕ × ℕ → Bool) → ((s : ℕ × ℕ) → test s ≡ is_ahead_in_line direction byte at s.0) →
      option_map (λ s. s.0) (find test (along direction (spans_after (literal needle) line 0))) ≡ start →
      option_map (column_of_byte line) start ≡ find (is_ahead_in_line direction column at) (along direction (columns_in (literal needle) line))
  by_column direction test same found =
      let spans = along direction (spans_after (literal needle) line 0) in
      ap (option_map (column_of_byte line)) (sym found)
      ∙ column_of_first line (find test spans)
      ∙ ap (option_map (column_of_span line)) (find-same test (λ s. is_ahead_in_line direction byte at s.0) spans (λ k d lt. same (get_or spans k d)))
      ∙ find_ahead line (spans_after (literal needle) line 0) (spans_lie (literal needle) line 0) direction column byte at text occurs

  pub first_column : FindsNeedle line needle (first_of byte at) start → option_map (column_of_byte line) start ≡ find (is_past column at) (columns_in (literal needle) line)
  first_column finds =
      by_column Forward (λ s. nat_le (first_of byte at) s.0) (λ s. past_first byte at s.0)
      (first_left line needle utf8 once (length line + 1) 0 (first_of byte at) start (omega arith) (λ k low high. absurd (omega arith)) finds)

  pub last_column : IsLast (OccursAt line needle) 0 (last_of byte at) start →
      option_map (column_of_byte line) start ≡ find (λ c. is_past c at column) (reverse (columns_in (literal needle) line))
  last_column finds =
      by_column Back (λ s. nat_lt s.0 (last_of byte at)) (λ s. before_last byte at s.0)
      (last_left line needle utf8 once (length line + 1) 0 (last_of byte at) start (omega arith) finds)

-- ---- whether the first byte is in the rest

equal_bytes : (x a : ℕ) → (x == a) ≡ true → x ≡ a
equal_bytes x a e = grind (arith, nat_tests)

first_again : (first : ℕ) (rest : List ℕ) → Nowhere (Passes (is_byte first) rest) 0 (length rest) → (k : ℕ) → 0 < k → k < length rest + 1 → slice_index (first ∷ rest) k ≡ first → ⊥
first_again first rest nowhere zero some lt same = omega arith
first_again first rest nowhere (suc k) some lt same = nowhere k zero-le (omega arith) (eq-eqb _ _ same)

pub starts_once_is : (word : List ℕ) (first : ℕ) (rest : List ℕ) (found : Option ℕ) (lacks : Bool) → word ≡ first ∷ rest → IsFirstByte (is_byte first) rest found → is_some found ≡ not lacks →
    (lacks ≡ true → StartsOnce word) × (StartsOnce word → lacks ≡ true)
starts_once_is word first rest None true is h e = (
  λ yes. subst StartsOnce (sym is) (record { some = omega arith; once = λ k some lt same. first_again first rest h k some (omega arith) same }),
  λ once. refl,
)
starts_once_is word first rest None false is h e = absurd (true≢false (sym e))
starts_once_is word first rest (Some k) true is h e = absurd (true≢false e)
starts_once_is word first rest (Some k) false is h e = (
  λ no. absurd (true≢false (sym no)),
  λ once. absurd ((subst StartsOnce is once).once (suc k) (omega arith) (omega (arith, h.0.high)) (equal_bytes _ _ h.1)),
)

-- ---- occurrences in the rest of a line

rest_here : (line word : List ℕ) (from k : ℕ) → from ≤ length line → OccursAt (drop from line) word k → OccursAt line word (from + k)
rest_here line word from k le here = record {
  fits = omega (arith, here.fits, length-drop from line);
  reads = λ j lt. let same : from + k + j ≡ from + (k + j) = omega arith in ap (λ n. get_or line n 0) same ∙ sym (get_or-drop from line (k + j) 0) ∙ here.reads j lt;
}

rest_there : (line word : List ℕ) (from k : ℕ) → from ≤ k → OccursAt line word k → OccursAt (drop from line) word (k - from)
rest_there line word from k le here = record {
  fits = omega (arith, here.fits, length-drop from line);
  reads = λ j lt. let same : from + (k - from + j) ≡ k + j = omega arith in get_or-drop from line (k - from + j) 0 ∙ ap (λ n. get_or line n 0) same ∙ here.reads j lt;
}

found_in_rest : (line word : List ℕ) (from : ℕ) (found : Option ℕ) → from ≤ length line → FindsNeedle (drop from line) word 0 found → FindsNeedle line word from (option_map (λ k. from + k) found)
found_in_rest line word from None le h = λ k low high here.
    h (k - from) zero-le (omega (arith, length-drop from line, here.fits)) (rest_there line word from k low here)
found_in_rest line word from (Some k) le h = (
  record {
    low = omega arith;
    high = omega (arith, h.0.high, length-drop from line);
    before = λ i low high here. h.0.before (i - from) zero-le (omega arith) (rest_there line word from i low here);
  },
  rest_here line word from k le h.1,
)

-- the same as the code reads it
pub found_from : (line bytes word finder : List ℕ) (from : ℕ) (found : Option ℕ) → bytes ≡ line → finder ≡ word → from ≤ length line → FindsNeedle (take (length bytes - from) (drop from bytes)) finder 0 found →
    FindsNeedle line word from (option_map (λ k. from + k) found)
found_from line bytes word finder from found same is le h =
    found_in_rest line word from found le
    (subst (λ w. FindsNeedle (drop from line) w 0 found) is (subst (λ bs. FindsNeedle bs finder 0 found) (take_rest bytes from ∙ ap (drop from) same) h))

pub boundary_in_rest : (line word : List ℕ) (from : ℕ) (found : Option ℕ) → IsUtf8 word → FindsNeedle line word from found → 0 < length word → IfSome found (IsCharBoundary line)
boundary_in_rest line word from None text h some = tt
boundary_in_rest line word from (Some k) text h some = boundary line word text some k h.1

-- ---- occurrences that start before an offset, in the part of a line up to where these end

module _ (line part word : List ℕ) (end to : ℕ) (is : part ≡ take end line) (short : end ≤ length line)
    (within : (k : ℕ) → k + length word ≤ end → k < to) (reaches : (k : ℕ) → k < to → k + length word ≤ length line → k + length word ≤ end) where
  part_length : length part ≡ end
  part_length = ap length is ∙ length-take-le end line short

  byte_in_part : (k : ℕ) → k < end → get_or part k 0 ≡ get_or line k 0
  byte_in_part k lt = ap (λ bs. get_or bs k 0) is ∙ get_or-take end line k 0 lt

  part_here : (k : ℕ) → OccursAt part word k → OccursAt line word k
  part_here k here = record {
    fits = omega (arith, here.fits, part_length);
    reads = λ j lt. sym (byte_in_part (k + j) (omega (arith, here.fits, part_length))) ∙ here.reads j lt;
  }

  part_there : (k : ℕ) → k < to → OccursAt line word k → OccursAt part word k
  part_there k lt here = record {
    fits = omega (arith, reaches k lt here.fits, part_length);
    reads = λ j low. byte_in_part (k + j) (omega (arith, reaches k lt here.fits)) ∙ here.reads j low;
  }

  pub found_in_part : (found : Option ℕ) → FindsLastNeedle part word found → IsLast (OccursAt line word) 0 to found
  found_in_part None h = λ k low high here. h k low (omega (arith, (part_there k high here).fits)) (part_there k high here)
  found_in_part (Some k) h = (
    record {
      low = zero-le;
      high = within k (omega (arith, h.1.fits, part_length));
      after = λ i low high here. h.0.after i low (omega (arith, (part_there i high here).fits)) (part_there i high here);
    },
    part_here k h.1,
  )

pub boundary_of_last : (line word : List ℕ) (to : ℕ) (found : Option ℕ) → IsUtf8 word → 0 < length word → IsLast (OccursAt line word) 0 to found → IfSome found (IsCharBoundary line)
boundary_of_last line word to None text some h = tt
boundary_of_last line word to (Some k) text some h = boundary line word text some k h.1
