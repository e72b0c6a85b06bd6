use Rattle.std.proofs.Common.{◌≡◌, ◌+◌, ◌∙◌, arith, ap, encode_utf8, length, refl, subst, sym}
use Rattle.std.proofs.lemmas.List.{length-append}
use Rattle.std.proofs.lemmas.Str.{length-encode}
use Rattle.std.specs.Str.Iter.{chars_rest}
use Rattle.std.specs.Str.{IsCharBoundary}
use Rattle.textarea_text.proofs.Columns.{IsCharBoundary-column}
use Rattle.textarea_util.proofs.Characters.{length-chars}
use Rattle.textarea_screen_map.proofs.MarkLemmas.{IsWalked, walk_from, walk_mark, walk_more}
use Rattle.textarea_screen_map.proofs.line_marks.mark_after.Goals as goal
use Rattle.textarea_screen_map.proofs.line_marks.mark_after.Goals.{After-display_column_after-display, After-len_utf8}

pub overflow_add-least : goal.overflow_add-least
overflow_add-least c = omega (arith, c.requires.known.within, length-chars c.args.line.now c.utf8.line, c.requires.short)

pub range_from-requires : goal.range_from-requires
range_from-requires c = λ _.
    subst (IsCharBoundary c.args.line.now) (sym c.requires.known.offset_is) (IsCharBoundary-column c.args.line.now c.args.known.column c.utf8.line)

pub loop-c-init : goal.loop-c-init
loop-c-init c =
    let from = walk_from c.args.tab_len c.args.line.now _ c.args.known c.utf8.line c.requires.known (ap chars_rest c.into_iter-c-iterator.ensures.into_iter_gives ∙ c.chars-c-items.ensures.rest ∙ c.range_from.ensures.value) in
    record { walked = from.0; bytes = from.1; further = omega arith }

-- the position after the character
next : (c : After-display_column_after-display) → IsWalked c.args.tab_len c.args.line.now (chars_rest c.next.new.self) (c.loop-c.at.column + 1) c.display_column_after-display.result
next c =
    (walk_more c.args.tab_len c.args.line.now _ (chars_rest c.next.new.self) c.in-Some.c c.loop-c.at.column c.loop-c.at.display
    c.display_column_after-display.result c.loop-c.invariant.walked c.in-Some.ensures.steps.0 c.display_column_after-display.ensures.value
    c.display_column_after-display.ensures.near).1

bytes : (c : After-len_utf8) → c.loop-c.at.offset + c.len_utf8.result + length (chars_rest c.next.new.self) ≡ length c.args.line.now
bytes c =
    omega (arith, c.loop-c.invariant.bytes, c.len_utf8.ensures.len, c.len_utf8.ensures.value, length-encode c.in-Some.c, ap length c.in-Some.ensures.steps.0, length-append (encode_utf8 c.in-Some.c) (chars_rest c.next.new.self))

pub returns-then-least-at-clause-mark : goal.returns-then-least-at-clause-mark
returns-then-least-at-clause-mark c =
    let at = goal.at.returns-then-least-at-clause-mark c in
    walk_mark c.args.tab_len c.args.line.now _ _ c.loop-c.at.column c.utf8.line (next at.After-display_column_after-display) (bytes at.After-len_utf8) refl (omega (arith, c.loop-c.invariant.walked.display_is, c.if-before-display.true))

pub loop-c-preserved : goal.loop-c-preserved
loop-c-preserved c =
    let at = goal.at.loop-c-preserved c in
    record { walked = next at.After-display_column_after-display; bytes = bytes at.After-len_utf8; further = omega (arith, c.loop-c.invariant.further) }
