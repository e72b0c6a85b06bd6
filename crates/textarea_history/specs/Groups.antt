-- Groups of edits, which are undone and redone together: marks of edits, and the state of the group
-- that is open.
use Rattle.std.specs.Prelude.{ℕ, zero, suc, Bool, true, false, List, [], ◌∷◌, get_or, if◌then◌else◌}
use Rattle.textarea_history.specs.declared.history.groups.Group.{Group}
use Rattle.textarea_history.specs.declared.history.groups.Group.TheVariants.{Closed, Empty, Filled, Forgotten}

-- Each edit has a mark: whether it is in one group with the edit before it. The first edit is
-- in none with an edit before it. This is the mark of the edit of this index
abbrev pub is_grouped : List Bool → ℕ → Bool
is_grouped marks zero = false
is_grouped marks (suc index) = get_or marks (suc index) false

-- the number of edits of its group before the edit of this index
abbrev pub grouped_before : List Bool → ℕ → ℕ
grouped_before marks zero = 0
grouped_before marks (suc index) =
    if get_or marks (suc index) false then suc (grouped_before marks index) else 0

-- the number of edits that are each in one group with the edit before it, up to the first one that is not
abbrev pub grouped_first : List Bool → ℕ
grouped_first [] = 0
grouped_first (false ∷ marks) = 0
grouped_first (true ∷ marks) = suc (grouped_first marks)

-- the number of groups of the first edits, `count` in number
abbrev pub group_count : List Bool → ℕ → ℕ
group_count marks zero = 0
group_count marks (suc index) =
    if is_grouped marks index then group_count marks index else suc (group_count marks index)

-- ---- the open group

-- a group is open: without an edit, with one, or forgotten since it has more edits than the maximum
abbrev pub is_open : Group → Bool
is_open Closed = false
is_open Empty = true
is_open Filled = true
is_open Forgotten = true

-- the next edit is in one group with the newest one
abbrev pub is_filled : Group → Bool
is_filled Filled = true
is_filled group = false

abbrev pub is_forgotten : Group → Bool
is_forgotten Forgotten = true
is_forgotten group = false

-- the group after one edit more
abbrev pub with_edit : Group → Group
with_edit Empty = Filled
with_edit group = group

-- the group once one is opened, if none is open
abbrev pub opened : Group → Group
opened Closed = Empty
opened group = group
