-- How a history stores its log: one list of edits, an index, and the edge of an open run.
use Rattle.std.specs.Prelude.{◌≡◌, ◌<◌, ◌≤◌, ◌-◌, ℕ, Bool, true, cond, nat_lt, List, length, take, drop, map, Option, Some, None, slice_get, IfSome, All}
use Rattle.textarea_text.specs.Text.{Character}
use Rattle.textarea_text.specs.Splice.{Splice}
use Rattle.textarea_history.specs.Edit.{Stored, IsWellFormed}
use Rattle.textarea_history.specs.Log.{Log, edge_of}
use Rattle.textarea_history.specs.declared.history.groups.Group.{Group}

abbrev pub splice_in : Stored → Splice
splice_in edit = edit.splice

abbrev pub grouped_in : Stored → Bool
grouped_in edit = edit.grouped

abbrev pub log_at : List Splice → List Bool → ℕ → ℕ → Bool → ℕ → Group → Log
log_at splices marks index maximum run_open last group = record {
  done = take index splices;
  undone = drop index splices;
  maximum = maximum;
  run_open = run_open;
  last = last;
  marks = marks;
  group = group;
}

-- the log of these edits
abbrev pub log_in : List Stored → ℕ → ℕ → Bool → ℕ → Group → Log
log_in items index maximum run_open last group =
    log_at (map splice_in items) (map grouped_in items) index maximum run_open last group

abbrev pub spare_in : Option Stored → ℕ
spare_in None = 0
spare_in (Some edit) = edit.spare

-- an open run whose newest edit cannot grow without allocating leaves no room
abbrev pub room_at : List Stored → Option ℕ → ℕ → ℕ
room_at items None free = free
room_at items (Some edge) free = cond (nat_lt (spare_in (slice_get items (length items - 1))) 4) 0 free

pub record IsRun (edit : Stored) (edge : ℕ) : Type 0 where
  pub grows : edit.grows ≡ true
  pub edge_is : edge_of edit.splice ≡ Some (Character edge)

abbrev pub IsRunEdge : List Stored → ℕ → Option ℕ → Type 0
IsRunEdge items index None = Unit {0}
IsRunEdge items index (Some edge) =
    (index ≡ length items) × (0 < length items)
    × IfSome (slice_get items (length items - 1)) (λ edit. IsRun edit edge)

-- each edit is well formed, there are at most `maximum` of them, and an open run is the newest edit
pub record IsStore (items : List Stored) (index maximum : ℕ) (run : Option ℕ) : Type 0 where
  pub sound : All IsWellFormed items
  pub within : index ≤ length items
  pub bounded : length items ≤ maximum
  pub run_is : IsRunEdge items index run
