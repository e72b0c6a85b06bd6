-- The exit statuses of `tascript`.
use Rattle.std.specs.Prelude.{ℕ, ◌<◌, ◌≤◌, Result, Ok, Err}
use Rattle.textarea_script.specs.declared.streams.Failure.{Failure}
use Rattle.textarea_script.specs.declared.streams.Failure.TheVariants.{Stream, Line, NotRead, Memory}

-- 0: all was printed; 1: a stream failed; 2: the input or an argument is unread; 3: out of memory
abbrev pub status_of : {T : Type 0} → Result T Failure → ℕ
status_of (Ok done) = 0
status_of (Err Stream) = 1
status_of (Err (Line number)) = 2
status_of (Err NotRead) = 2
status_of (Err Memory) = 3

-- the input or the arguments are unread
abbrev pub IsUnparsed : Failure → Type 0
IsUnparsed (Line number) = Unit {0}
IsUnparsed NotRead = Unit {0}
IsUnparsed failure = ⊥

-- the status of what was served: above 1 the output is as it was, and up to 1 the errors are
pub record IsExit (status : ℕ) (same_output same_errors : Type 0) : Type 0 where
  pub known : status ≤ 3
  pub silent : 1 < status → same_output
  pub quiet : status ≤ 1 → same_errors
