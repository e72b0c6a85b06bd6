use Rattle.std.proofs.Common.{◌≡◌, ◌+◌, ◌-◌, ◌≤◌, ◌++◌, reverse, vec_capacity, vec_len}
use Rattle.textarea_blocks.proofs.blocks.room.move_tail.Given as goal

-- the moved items, last first, are after those that are left
abbrev pub invariant-moving : goal.invariant-moving
invariant-moving l = record {
  all : l.items.items ++ reverse l.rest.items ≡ l.fn.items.items;
  len : vec_len l.items + vec_len l.rest ≡ vec_len l.fn.items;
  from : l.at ≤ vec_len l.items;
  capacity : vec_capacity l.items ≡ vec_capacity l.fn.items;
  rest_capacity : vec_capacity l.fn.rest ≤ vec_capacity l.rest;
}

abbrev pub decreases-moving : goal.decreases-moving
decreases-moving l = vec_len l.items - l.at
