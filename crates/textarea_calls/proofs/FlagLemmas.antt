-- The result in each case of a table is that of the case's action.
use Rattle.std.proofs.Common.{◌≡◌, ℕ, Bool, true, false, cond, ◌&&◌, ◌||◌, List, [], ◌∷◌, Option, Some, refl}
use Rattle.std.proofs.lemmas.Bool.{false≢true}
use Rattle.std.specs.List.{AllByRecursion}
use Rattle.textarea_data.specs.declared.input.Input.{Input}
use Rattle.textarea_data.specs.declared.input.Key.{Key}
use Rattle.textarea_data.specs.declared.input.Key.TheVariants as key
use Rattle.textarea_calls.specs.FlagRule.{changed, flag_rule_of}
use Rattle.textarea_calls.specs.Table.{ActionRow, HasFlagsOfActions, characters_but, has_key, fits_row, row_of, action_in, flag_rule_in, action_by, inserts_key_char}

-- the result of each input of a case is that of the input's action
abbrev pub FlagsAsActions : ActionRow → Type 0
FlagsAsActions row = (input : Input) → fits_row input row ≡ true → row.flag_rule ≡ flag_rule_of (row.action input)

first_row : (b : Bool) (row : ActionRow) (later : Option ActionRow) (input : Input) → (b ≡ true → row.flag_rule ≡ flag_rule_of (row.action input))
    → flag_rule_in later ≡ flag_rule_of (action_in later input) → flag_rule_in (cond b (Some row) later) ≡ flag_rule_of (action_in (cond b (Some row) later) input)
first_row true row later input here there = here refl
first_row false row later input here there = there

-- what holds for each case holds for the table
pub flags_of_rows : (rows : List ActionRow) → AllByRecursion FlagsAsActions rows → HasFlagsOfActions rows
unfolding action_by
flags_of_rows [] each input = refl
flags_of_rows (row ∷ rows) each input =
    first_row (fits_row input row) row (row_of rows input) input (each.0 input) (flags_of_rows rows each.1 input)

-- all characters except some: only characters are in the set, and they are inserted
pub characters_inserted : (asked : Key) (b : Bool) (left_out : List ℕ) → ((b && has_key (characters_but left_out) asked) || false) ≡ true → changed ≡ flag_rule_of (inserts_key_char asked)
characters_inserted (key.Char c) b left_out h = refl
characters_inserted other true left_out h = absurd (false≢true h)
characters_inserted other false left_out h = absurd (false≢true h)
