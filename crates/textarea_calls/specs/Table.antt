-- Tables from inputs to actions.
use Rattle.std.specs.Prelude.{◌≡◌, ℕ, ◌≤◌, Bool, true, false, ◌&&◌, ◌==◌, not, List, [], ◌∷◌, map, filter, Option, Some, None, count_by, find}
use Rattle.std.specs.List.{list_any}
use Rattle.textarea_data.specs.declared.input.Input.{Input}
use Rattle.textarea_data.specs.declared.input.Key.{Key}
use Rattle.textarea_data.specs.declared.input.Key.TheVariants as key
use Rattle.textarea_data.specs.declared.cursor.CursorMove.{CursorMove}
use Rattle.textarea_data.specs.declared.scroll.Scrolling.{Scrolling}
use Rattle.textarea_calls.specs.declared.action.Action.{Action}
use Rattle.textarea_calls.specs.declared.action.Action.TheVariants as action
use Rattle.textarea_calls.specs.FlagRule.{FlagRule, unchanged, flag_rule_of}

-- ---- ---- the inputs of a case

-- the modifier keys: neither Ctrl nor Alt; Ctrl but not Alt; Alt but not Ctrl; both; or any
pub data ModifierRule : Type 0 where
  plain : ModifierRule
  ctrl : ModifierRule
  alt : ModifierRule
  both : ModifierRule
  any : ModifierRule

-- whether the modifier keys fit, where the two truth values are whether Ctrl and Alt are held
abbrev pub has_modifiers : ModifierRule → Bool → Bool → Bool
has_modifiers plain false false = true
has_modifiers ctrl true false = true
has_modifiers alt false true = true
has_modifiers both true true = true
has_modifiers any _ _ = true
has_modifiers _ _ _ = false

-- whether two keys are the same
abbrev pub is_same_key : Key → Key → Bool
is_same_key (key.Char c) (key.Char d) = c == d
is_same_key (key.F m) (key.F n) = m == n
is_same_key key.Backspace key.Backspace = true
is_same_key key.Enter key.Enter = true
is_same_key key.Left key.Left = true
is_same_key key.Right key.Right = true
is_same_key key.Up key.Up = true
is_same_key key.Down key.Down = true
is_same_key key.Tab key.Tab = true
is_same_key key.Delete key.Delete = true
is_same_key key.Home key.Home = true
is_same_key key.End key.End = true
is_same_key key.PageUp key.PageUp = true
is_same_key key.PageDown key.PageDown = true
is_same_key key.Esc key.Esc = true
is_same_key key.Copy key.Copy = true
is_same_key key.Cut key.Cut = true
is_same_key key.Paste key.Paste = true
is_same_key key.MouseScrollDown key.MouseScrollDown = true
is_same_key key.MouseScrollUp key.MouseScrollUp = true
is_same_key key.Null key.Null = true
is_same_key _ _ = false

-- a set of keys: those of a list, or those of all characters except some
pub data Keys : Type 0 where
  these : List Key → Keys
  characters_but : List ℕ → Keys

-- whether a key is in the set
abbrev pub has_key : Keys → Key → Bool
has_key (these keys) asked = list_any (is_same_key asked) keys
has_key (characters_but left_out) (key.Char c) = not (list_any (λ other. c == other) left_out)
has_key (characters_but left_out) other = false

-- a set of inputs: keys with modifier keys; Shift is ignored
abbrev pub Inputs : Type 0
Inputs = ModifierRule × Keys

-- one key, the characters of a text, or all characters except these
abbrev pub one : ModifierRule → Key → Inputs
one modifiers key = (modifiers, these (key ∷ []))

abbrev pub chars : ModifierRule → List ℕ → Inputs
chars modifiers characters = (modifiers, these (map (λ c. key.Char c) characters))

abbrev pub chars_but : ModifierRule → List ℕ → Inputs
chars_but modifiers left_out = (modifiers, characters_but left_out)

-- whether an input is in the set
abbrev pub is_among : Input → Inputs → Bool
is_among input (modifiers, keys) = has_modifiers modifiers input.ctrl input.alt && has_key keys input.key

-- ---- ---- cases and tables

-- a case: its inputs, the action that each of them asks for, and their result
pub record ActionRow : Type 0 where
  pub inputs : List Inputs
  pub action : Input → Action
  pub flag_rule : FlagRule

abbrev pub row : List Inputs → (Input → Action) → FlagRule → ActionRow
row inputs action flag_rule = record { inputs = inputs; action = action; flag_rule = flag_rule }

-- whether an input is one of a case
abbrev pub fits_row : Input → ActionRow → Bool
fits_row input row = list_any (is_among input) row.inputs

-- each input is one of at most one case of the table
abbrev pub HasNoOverlap : List ActionRow → Type 0
HasNoOverlap rows = (input : Input) → count_by (fits_row input) rows ≤ 1

-- the first case that has the input, which is the only one if no two cases overlap
abbrev pub row_of : List ActionRow → Input → Option ActionRow
row_of rows input = find (fits_row input) rows

-- the action of an input by its case; nothing where it has none
abbrev pub action_in : Option ActionRow → Input → Action
action_in None input = action.Nothing
action_in (Some row) input = row.action input

-- the action of an input by a table
unfoldable pub action_by : List ActionRow → Input → Action
action_by rows input = action_in (row_of rows input) input

-- the result of an input by its case; the text is unchanged where it has none
abbrev pub flag_rule_in : Option ActionRow → FlagRule
flag_rule_in None = unchanged
flag_rule_in (Some row) = row.flag_rule

-- the table's result for each input is that of the input's action
abbrev pub HasFlagsOfActions : List ActionRow → Type 0
HasFlagsOfActions rows =
    (input : Input) → flag_rule_in (row_of rows input) ≡ flag_rule_of (action_by rows input)

-- ---- ---- the actions of a case

-- the same action for all inputs
abbrev pub always : Action → Input → Action
always action input = action

-- the insertion of the character of the input's key
abbrev pub inserts_key_char : Key → Action
inserts_key_char (key.Char c) = action.InsertChar c
inserts_key_char other = action.Nothing

abbrev pub insert_its_char : Input → Action
insert_its_char input = inserts_key_char input.key

-- a move or a scroll, with the input's Shift
abbrev pub move_by : CursorMove → Input → Action
move_by cursor_move input = action.MoveWithShift cursor_move input.shift

abbrev pub scroll_action : Scrolling → Input → Action
scroll_action scrolling input = action.ScrollWithShift scrolling input.shift

-- ---- ---- the cases that ignore Ctrl and Alt

-- a key, with Ctrl, Alt and Shift held or not
abbrev pub pressed : Key → Bool → Bool → Bool → Input
pressed key with_ctrl with_alt with_shift =
    record { key = key; ctrl = with_ctrl; alt = with_alt; shift = with_shift }

-- the cases with only those inputs that ignore Ctrl and Alt
abbrev pub is_any : Inputs → Bool
is_any (any, keys) = true
is_any other = false

abbrev pub row_any_modifiers : ActionRow → ActionRow
row_any_modifiers row = record row { inputs = filter is_any row.inputs }

abbrev pub any_modifiers : List ActionRow → List ActionRow
any_modifiers rows = map row_any_modifiers rows
