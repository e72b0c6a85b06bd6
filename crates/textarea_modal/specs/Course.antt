-- The effect of a list of inputs by the table: the calls of the inputs in turn, until one quits.
use Rattle.std.specs.Prelude.{ℕ, ◌+◌, Bool, true, false, List, [], ◌∷◌, ◌++◌}
use Rattle.textarea_data.specs.declared.input.Input.{Input}
use Rattle.textarea_calls.specs.declared.call.Call.{Call}
use Rattle.textarea_modal.specs.declared.mode.Mode.{Mode}
use Rattle.textarea_modal.specs.Table.{Step, step}

-- the calls, the mode after them, the number of used inputs (with one that quits), whether one
-- quits
pub record Course : Type 0 where
  pub calls : List Call
  pub mode : Mode
  pub taken : ℕ
  pub quits : Bool

-- no more inputs, at the end or after one that quits
abbrev pub stays : Mode → Bool → Course
stays mode quits = record { calls = []; mode = mode; taken = 0; quits = quits }

-- an input with this step, and then this course
abbrev pub before : Step → Course → Course
before step later = record {
  calls = step.calls ++ later.calls;
  mode = later.mode;
  taken = later.taken + 1;
  quits = later.quits;
}

-- this course, unless the input before it quits
abbrev pub unless : Bool → Mode → Course → Course
unless true mode later = stays mode true
unless false mode later = later

-- the course of the inputs, beginning in a mode
abbrev pub course : Mode → List Input → Course
course mode [] = stays mode false
course mode (input ∷ inputs) =
    let this = step mode input in before this (unless this.quits this.mode (course this.mode inputs))
