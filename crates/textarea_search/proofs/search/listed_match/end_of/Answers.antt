use Rattle.std.proofs.Common.{◌≡◌, ◌≤◌, ℕ, arith, true}
use Rattle.std.proofs.lemmas.Bool.Decides.{nat_tests}
use Rattle.textarea_search.specs.Starts.{is_past}
use Rattle.textarea_search.proofs.search.listed_match.end_of.Goals as goal

after_start : (column : ℕ) → is_past 0 true column ≡ true
after_start column = grind (arith, nat_tests)

before_end : (column end : ℕ) → column ≤ end → is_past column true end ≡ true
before_end column end le = grind (arith, nat_tests)

pub returns-in-Forward : goal.returns-in-Forward
returns-in-Forward c = λ column below. rw c.in-Forward.is (after_start column)

pub returns-in-Back : goal.returns-in-Back
returns-in-Back c = λ column below. rw c.in-Back.is (before_end column 18446744073709551615 (omega arith))
