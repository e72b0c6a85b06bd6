use Rattle.std.proofs.Common.{◌≡◌, ◌<◌, ◌/◌, ◌++◌, ℕ, List, arith, ap, get_or, length, sym, subst, take, ◌∙◌}
use Rattle.std.proofs.lemmas.Bool.Decides.{nat_tests}
use Rattle.textarea_wrap.specs.Prelude.{IsWrapped, marks_of}
use Rattle.textarea_wrap.specs.Partings.{moved}
use Rattle.textarea_wrap.proofs.KeptMarkLemmas.{kept_marks, kept_marks_size, row_boundary}
use Rattle.textarea_wrap.proofs.KeptRowLemmas.{IsWrapped-rewrapped, kept_start}
use Rattle.textarea_wrap.proofs.MarkLemmas.{rows_ordered}
use Rattle.textarea_wrap.proofs.wrap.rewrap_and_mark.Goals as goal
use Rattle.textarea_wrap.proofs.wrap.rewrap_and_mark.Goals.{After-marks, After-same_start-same}

-- the rows of the old line
was : (c : After-same_start-same) → IsWrapped c.args.mode c.args.tab_len c.args.width c.args.old_line.now c.as_slice-rows.result.now
was c = subst (IsWrapped c.args.mode c.args.tab_len c.args.width c.args.old_line.now) (sym c.as_slice-rows.ensures) c.requires.old_rows

pub kept_count-kept-requires : goal.kept_count-kept-requires
kept_count-kept-requires c =
    row_boundary c.args.old_line.now c.args.line.now c.same_start-same.result c.utf8.line c.same_start-same.ensures c.args.mode c.args.tab_len c.args.width c.as_slice-rows.result.now
    (was (goal.at.kept_count-kept-requires c).After-same_start-same)

pub rewrap-requires-clause-boundary : goal.rewrap-requires-clause-boundary
rewrap-requires-clause-boundary c =
    let rows = c.as_slice-rows.result.now in
    let some : 0 < length rows = grind (arith, nat_tests, c.if-is_empty.ensures) in
    (kept_start c.args.mode c.args.tab_len c.args.width c.args.old_line.now c.args.line.now rows c.kept_count-kept.result c.same_start-same.result c.utf8.line
    (was (goal.at.rewrap-requires-clause-boundary c).After-same_start-same) some c.kept_count-kept.ensures.within c.kept_count-kept.ensures.partings).boundary

-- the new rows
record IsRewrapped (c : After-marks) : Type 0 where
  tail : List (ℕ × ℕ)
  items_are : c.in_ok-ranges.ranges.items ≡ take c.kept_count-kept.result c.as_slice-rows.result.now ++ tail
  wrapped : IsWrapped c.args.mode c.args.tab_len c.args.width c.args.line.now c.in_ok-ranges.ranges.items
  size : length (take (c.kept_count-kept.result / 8) c.marks.result.now) ≡ c.kept_count-kept.result / 8
  known : take (c.kept_count-kept.result / 8) c.marks.result.now ≡ take (length (take (c.kept_count-kept.result / 8) c.marks.result.now)) (marks_of c.args.line.now c.in_ok-ranges.ranges.items)

rewrapped : (c : After-marks) → IsRewrapped c
rewrapped c =
    let old = c.args.old_line.now in
    let line = c.args.line.now in
    let rows = c.as_slice-rows.result.now in
    let kept = c.kept_count-kept.result in
    let same = c.same_start-same.result in
    let agree = c.same_start-same.ensures in
    let rest = c.in_ok-ranges.ensures in
    let before = subst (IsWrapped c.args.mode c.args.tab_len c.args.width old) (sym c.as_slice-rows.ensures) c.requires.old_rows in
    let some : 0 < length rows = grind (arith, nat_tests, c.if-is_empty.ensures) in
    let start = kept_start c.args.mode c.args.tab_len c.args.width old line rows kept same c.utf8.line before some c.kept_count-kept.ensures.within c.kept_count-kept.ensures.partings in
    let all = IsWrapped-rewrapped c.args.mode c.args.tab_len c.args.width old line rows kept same c.utf8.line before some c.kept_count-kept.ensures.within c.kept_count-kept.ensures.partings agree rest.0 rest.1 in
    let marks : c.marks.result.now ≡ marks_of old rows = c.marks.ensures ∙ c.requires.old_marks ∙ ap (marks_of old) (sym c.as_slice-rows.ensures) in
    let tail = moved 0 (get_or rows kept (0, 0)).0 rest.0 in
    record {
      tail = tail;
      items_are = rest.2;
      wrapped = subst (IsWrapped c.args.mode c.args.tab_len c.args.width line) (sym rest.2) all;
      size = ap (λ m. length (take (kept / 8) m)) marks ∙ kept_marks_size old line same c.utf8.line agree c.args.mode c.args.tab_len c.args.width rows tail kept before start.within start.near;
      known = rw (marks, rest.2) (kept_marks old line same c.utf8.line agree c.args.mode c.args.tab_len c.args.width rows tail kept before start.within start.near);
    }

pub slice_bounds-push_marks_after-end : goal.slice_bounds-push_marks_after-end
slice_bounds-push_marks_after-end c = sym (rewrapped (goal.at.slice_bounds-push_marks_after-end c).After-marks).size

pub push_marks_after-requires-clause-placed : goal.push_marks_after-requires-clause-placed
push_marks_after-requires-clause-placed c = (rewrapped (goal.at.push_marks_after-requires-clause-placed c).After-marks).wrapped.placed

pub push_marks_after-requires-clause-ordered : goal.push_marks_after-requires-clause-ordered
push_marks_after-requires-clause-ordered c = rows_ordered _ _ _ _ _ (rewrapped (goal.at.push_marks_after-requires-clause-ordered c).After-marks).wrapped

pub push_marks_after-requires-clause-known : goal.push_marks_after-requires-clause-known
push_marks_after-requires-clause-known c = (rewrapped (goal.at.push_marks_after-requires-clause-known c).After-marks).known

pub returns-clause-rows : goal.returns-clause-rows
returns-clause-rows c = (
  c.in_ok-ranges.ranges.items,
  (rewrapped (goal.at.returns-clause-rows c).After-marks).wrapped,
  c.in_ok-push_marks_after.ensures,
)
