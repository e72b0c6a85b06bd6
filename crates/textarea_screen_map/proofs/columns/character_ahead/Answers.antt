use Rattle.std.proofs.Common.{◌≡◌, ◌+◌, ◌<◌, ◌≤◌, ◌⊎◌, inl, inr, ◌∙◌, [], ap, arith, below_more, drop, length, subst, sym}
use Rattle.std.proofs.lemmas.List.{length-drop, nil_from_length}
use Rattle.std.proofs.lemmas.Str.{chars-nil}
use Rattle.std.specs.Str.{IsCharBoundary, chars}
use Rattle.std.specs.Str.Iter.{chars_rest}
use Rattle.textarea_text.proofs.Columns.{IsCharBoundary-column}
use Rattle.textarea_util.proofs.Characters.{length-chars}
use Rattle.textarea_screen_map.proofs.RowColumns.{column_at-le, leads_to_covering, leads_to_first, leads_to_least, leads_to_width}
use Rattle.textarea_screen_map.proofs.MarkLemmas.{IsWalked, walk_from, walk_more}
use Rattle.textarea_screen_map.proofs.columns.character_ahead.Goals as goal
use Rattle.textarea_screen_map.proofs.columns.character_ahead.Goals.{After-display_column_after-next}

pub range_from-requires : goal.range_from-requires
range_from-requires c = λ _.
    subst (IsCharBoundary c.args.text.now) (sym c.requires.known.offset_is) (IsCharBoundary-column c.args.text.now c.args.known.column c.utf8.text)

pub loop-c-init : goal.loop-c-init
loop-c-init c =
    let mark = c.requires.known in
    record {
      walked = (walk_from c.args.tab_len c.args.text.now _ c.args.known c.utf8.text mark (ap chars_rest c.into_iter-c-iterator.ensures.into_iter_gives ∙ c.chars-c-items.ensures.rest ∙ c.range_from.ensures.value)).0;
      before = λ k below. omega (arith, mark.first k below, c.requires.before);
      reached = c.requires.before;
      first = omega arith;
      first_at = sym mark.display_is;
      before_first = mark.first;
    }

pub overflow_add-index : goal.overflow_add-index
overflow_add-index c =
    omega (arith, c.loop-c.invariant.walked.within, length-chars c.args.text.now c.utf8.text, c.requires.short)

-- the position after the character
next : (c : After-display_column_after-next) → (c.loop-c.index < length (chars c.args.text.now)) × IsWalked c.args.tab_len c.args.text.now (chars_rest c.next.new.self) (c.loop-c.index + 1) c.display_column_after-next.result
next c =
    walk_more c.args.tab_len c.args.text.now _ (chars_rest c.next.new.self) c.in-Some.c c.loop-c.index c.loop-c.at c.display_column_after-next.result
    c.loop-c.invariant.walked c.in-Some.ensures.steps.0 c.display_column_after-next.ensures.value c.display_column_after-next.ensures.near

-- the column is the character's, or one that the character covers
either : (c : goal.Joined-then-column-at) → (c.args.column ≤ c.loop-c.at) ⊎ ((c.loop-c.at < c.args.column) × (c.args.column < c.display_column_after-next.result))
either c = c.then-column-at.either

pub returns-then-column-at : goal.returns-then-column-at
returns-then-column-at c =
    let was = c.loop-c.invariant in
    let walked = was.walked in
    let cs = chars c.args.text.now in
    let t = c.args.tab_len in
    let after = next (goal.at.returns-then-column-at c).After-display_column_after-next in
    let here = after.1 in
    elim (either c) [
      | inl h ↦
          leads_to_least t cs c.args.column c.loop-c.index c.loop-c.index walked.within (omega (arith, h, walked.display_is))
          (leads_to_first t cs c.args.column c.loop-c.index c.loop-c.at walked.within walked.display_is (omega (arith, h, was.reached)) was.before)
      | inr h ↦
          leads_to_least t cs c.args.column c.loop-c.index (c.loop-c.index + 1) here.within (omega (arith, h.1, here.display_is))
          (leads_to_covering t cs c.args.column c.loop-c.index c.loop-c.at c.display_column_after-next.result after.0 walked.display_is here.display_is h.0 h.1)
    ]

pub loop-c-preserved-then-at-next : goal.loop-c-preserved-then-at-next
loop-c-preserved-then-at-next c =
    let was = c.loop-c.invariant in
    let walked = was.walked in
    let here = (next (goal.at.loop-c-preserved-then-at-next c).After-display_column_after-next).1 in
    record {
      walked = here;
      before = below_more _ _ was.before (omega (arith, walked.display_is, c.if-column-at.false));
      reached = omega (arith, c.if-column-next.false);
      first = omega arith;
      first_at = omega (arith, here.display_is);
      before_first = λ k below. omega (arith, column_at-le c.args.tab_len (chars c.args.text.now) k c.loop-c.index (omega (arith, below)), walked.display_is, c.if-at-next.true);
    }

pub loop-c-preserved : goal.loop-c-preserved
loop-c-preserved c =
    let was = c.loop-c.invariant in
    record {
      walked = (next (goal.at.loop-c-preserved c).After-display_column_after-next).1;
      before = below_more _ _ was.before (omega (arith, was.walked.display_is, c.if-column-at.false));
      reached = omega (arith, c.if-column-next.false);
      first = omega (arith, was.first);
      first_at = omega (arith, was.first_at, c.if-at-next.false, c.display_column_after-next.ensures.after);
      before_first = λ k below. omega (arith, was.before_first k below, c.display_column_after-next.ensures.after);
    }

pub returns : goal.returns
returns c =
    let was = c.loop-c.invariant in
    let cs = chars c.args.text.now in
    let none : drop c.loop-c.index cs ≡ [] =
    was.walked.left ∙ ap chars (nil_from_length (chars_rest c.loop-c.c-iterator) c.in-None.ensures.steps.0.0) ∙ chars-nil in
    leads_to_width c.args.tab_len cs c.args.column c.loop-c.index c.loop-c.at c.loop-c.first
    (omega (arith, was.walked.within, length-drop c.loop-c.index cs, ap length none)) was.walked.display_is was.reached was.first was.first_at
    was.before_first
