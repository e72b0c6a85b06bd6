-- What an exit status means.
use Rattle.std.proofs.Common.{◌≡◌, ◌≢◌, ◌<◌, ◌≤◌, ◌∙◌, ℕ, Result, Ok, Err, ap, arith, subst, sym}
use Rattle.std.specs.Result.{IfErr, OnOk}
use Rattle.textarea_script.specs.Failures.{IsExit, IsUnparsed, status_of}
use Rattle.textarea_script.specs.declared.streams.Failure.{Failure}
use Rattle.textarea_script.specs.declared.streams.Failure.TheVariants.{Stream, Line, NotRead, Memory}

-- there are four exit statuses
at_most_three : {T : Type 0} (outcome : Result T Failure) → status_of outcome ≤ 3
at_most_three (Ok done) = omega arith
at_most_three (Err Stream) = omega arith
at_most_three (Err (Line number)) = omega arith
at_most_three (Err NotRead) = omega arith
at_most_three (Err Memory) = omega arith

-- with a status above 1 no stream failed
no_stream : {T P : Type 0} (outcome : Result T Failure) (status : ℕ) → status ≡ status_of outcome → IfErr outcome (λ failure. failure ≢ Stream → P) → 1 < status → P
no_stream (Ok done) status is h above = absurd (omega (arith, is, above))
no_stream {T} (Err failure) status is h above = h (λ same. absurd (omega (arith, is ∙ ap (λ (f : Failure). status_of {T = T} (Err f)) same, above)))

-- if every failure but that of a stream leaves the output, and a status up to 1 the errors, it is the exit's status
pub exit : {T P Q : Type 0} (outcome : Result T Failure) (status : ℕ) → status ≡ status_of outcome → IfErr outcome (λ failure. failure ≢ Stream → P) → (status ≤ 1 → Q) → IsExit status P Q
exit outcome status is silent quiet = record {
  known = subst (λ (n : ℕ). n ≤ 3) (sym is) (at_most_three outcome);
  silent = no_stream outcome status is silent;
  quiet = quiet;
}

-- with status 0 all was printed
pub done : {T P : Type 0} (outcome : Result T Failure) (status : ℕ) → status ≡ status_of outcome → OnOk outcome P → status ≡ 0 → P
done (Ok value) status is h none = h
done (Err Stream) status is h none = absurd (omega (arith, is, none))
done (Err (Line number)) status is h none = absurd (omega (arith, is, none))
done (Err NotRead) status is h none = absurd (omega (arith, is, none))
done (Err Memory) status is h none = absurd (omega (arith, is, none))

-- with status 2 the input or the arguments are unread
pub unread : {T P : Type 0} (outcome : Result T Failure) (status : ℕ) → status ≡ status_of outcome → IfErr outcome (λ failure. IsUnparsed failure → P) → status ≡ 2 → P
unread (Ok value) status is h two = absurd (omega (arith, is, two))
unread (Err Stream) status is h two = absurd (omega (arith, is, two))
unread (Err (Line number)) status is h two = h tt
unread (Err NotRead) status is h two = h tt
unread (Err Memory) status is h two = absurd (omega (arith, is, two))
