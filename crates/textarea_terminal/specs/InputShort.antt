-- The digits of a number in the sequence of a key.
use Rattle.std.specs.Prelude.{◌≡◌, ◌≢◌, ◌≤◌, ℕ, ◌-◌, true, List, [], ◌∷◌, ◌++◌, length}
use Rattle.textarea_terminal.specs.InputParameter.{is_digit}
use Rattle.textarea_terminal.specs.InputRow.{AreInner}
use Rattle.textarea_terminal.specs.InputSequence.{event_of_one, event_of_two, sequence_event}

-- One digit or two, which are this number in a sequence: before a final byte, and before a semicolon and one more digit. The final byte isn't u.
pub record AreDigits (digits : List ℕ) (n : ℕ) : Type 0 where
  pub inner : AreInner digits
  pub few : length digits ≤ 2
  pub one : (last : ℕ) → last ≢ 117 → sequence_event digits last ≡ event_of_one n last
  pub two : (d last : ℕ) → is_digit d ≡ true → last ≢ 117 → sequence_event (digits ++ 59 ∷ d ∷ []) last ≡ event_of_two n (d - 48) last
