use Rattle.std.proofs.Common.{◌≡◌, ◌+◌, ◌≤◌, ap, arith, length}
use Rattle.std.specs.Str.{chars}
use Rattle.textarea_util.proofs.Characters.{length-chars}
use Rattle.textarea_screen_map.proofs.KnownColumns.{IsSplitAt, split_at}
use Rattle.textarea_screen_map.proofs.offsets.columns_of_front.Goals as goal
use Rattle.textarea_screen_map.proofs.offsets.columns_of_front.Goals.{After-last_mark-column, After-column_count}

split : (c : After-last_mark-column) → IsSplitAt c.args.front.now c.last_mark-column.result
split c =
    let within : c.last_mark-column.result.1 ≤ length c.args.front.now = omega (arith, c.last_mark-column.ensures.offset) in
    split_at c.requires.0 c.args.front.now c.last_mark-column.result c.requires.1 c.utf8.front c.requires.3 (c.last_mark-column.ensures.known c.requires.0 c.requires.2) within

all : (c : After-column_count) → IsSplitAt c.args.front.now c.last_mark-column.result → c.last_mark-column.result.0 + c.column_count.result ≡ length (chars c.args.front.now)
all c known = omega (arith, known.columns, c.column_count.ensures, ap (λ t. length (chars t)) c.range_from.ensures.value)

pub range_from-requires : goal.range_from-requires
range_from-requires c = λ some. (split (goal.at.range_from-requires c).After-last_mark-column).boundary

pub overflow_add-result : goal.overflow_add-result
overflow_add-result c =
    let at = goal.at.overflow_add-result c in
    omega (arith, all at.After-column_count (split at.After-last_mark-column), length-chars c.args.front.now c.utf8.front)

pub returns : goal.returns
returns c = let at = goal.at.returns c in all at.After-column_count (split at.After-last_mark-column)
