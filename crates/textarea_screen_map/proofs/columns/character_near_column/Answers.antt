use Rattle.std.proofs.Common.{◌+◌, arith, subst, sym}
use Rattle.std.specs.Str.{IsCharBoundary, chars}
use Rattle.textarea_text.proofs.Columns.{IsCharBoundary-column}
use Rattle.textarea_util.proofs.Characters.{length-chars}
use Rattle.textarea_screen_map.specs.LineMarks.{IsMark}
use Rattle.textarea_screen_map.proofs.VisibleMarks.{mark_further}
use Rattle.textarea_screen_map.proofs.columns.character_near_column.Goals as goal
use Rattle.textarea_screen_map.proofs.columns.character_near_column.Goals.{After-visible_count-count}

pub range_from-requires : goal.range_from-requires
range_from-requires c = λ _.
    subst (IsCharBoundary c.args.text.now) (sym c.requires.known.offset_is) (IsCharBoundary-column c.args.text.now c.args.known.column c.utf8.text)

-- the position after the visible characters
further :
    (c : After-visible_count-count) → IsMark c.args.tab_len (chars c.args.text.now)
    (record { column = c.args.known.column + c.visible_count-count.result; offset = c.args.known.offset + c.visible_count-count.result; display = c.args.known.display + c.visible_count-count.result })
further c =
    mark_further c.args.tab_len c.args.text.now c.range_from.result.now c.args.known c.visible_count-count.result c.utf8.text
    c.range_from.ensures.value c.visible_count-count.ensures.within c.visible_count-count.ensures.visible c.requires.known

pub character_ahead-requires-clause-known : goal.character_ahead-requires-clause-known
character_ahead-requires-clause-known c = further (goal.at.character_ahead-requires-clause-known c).After-visible_count-count

pub overflow_add-further : goal.overflow_add-further
overflow_add-further c =
    omega (arith, (further (goal.at.overflow_add-further c).After-visible_count-count).within, length-chars c.args.text.now c.utf8.text, c.requires.short)
