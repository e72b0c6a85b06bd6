-- The keys of a modal editor in each mode: the calls on the text area that a key makes, in order,
-- the mode after them, and whether it quits. Modifiers are written as in the text area's key
-- tables: `plain` is neither Ctrl nor Alt, `ctrl` is Ctrl only, `any` is any of them. Shift is
-- ignored.
use Rattle.std.specs.Prelude.{◌≡◌, ℕ, Bool, true, false, ◌&&◌, List, [], ◌∷◌, ◌++◌, codes, find, Option, Some, None}
use Rattle.std.specs.Option.{option_map}
use Rattle.textarea_data.specs.declared.input.Input.{Input}
use Rattle.textarea_data.specs.declared.input.Key.{Key}
use Rattle.textarea_data.specs.declared.input.Key.TheVariants as key
use Rattle.textarea_data.specs.declared.cursor.CursorMove.{CursorMove}
use Rattle.textarea_data.specs.declared.cursor.CursorMove.TheVariants as move
use Rattle.textarea_data.specs.declared.scroll.Scrolling.TheVariants as scrolling
use Rattle.textarea_calls.specs.Table.{Inputs, plain, ctrl, any, chars, one, has_modifiers, has_key}
use Rattle.textarea_calls.specs.declared.call.Call.{Call}
use Rattle.textarea_calls.specs.declared.call.Call.TheVariants as call
use Rattle.textarea_modal.specs.declared.mode.Mode.{Mode}
use Rattle.textarea_modal.specs.declared.mode.Mode.TheVariants.{Normal, Insert, Visual, Operator}
use Rattle.textarea_modal.specs.declared.mode.Op.{Op}
use Rattle.textarea_modal.specs.declared.mode.Op.TheVariants.{Delete, Yank, Change}

-- ---- steps

-- what a key does: its calls, the mode after them, and whether it quits
pub record Step : Type 0 where
  pub calls : List Call
  pub mode : Mode
  pub quits : Bool

-- these calls, and then this mode
abbrev pub calls_then : List Call → Mode → Step
calls_then calls mode = record { calls = calls; mode = mode; quits = false }

-- no call, and the end of the run
abbrev pub quits_from : Mode → Step
quits_from mode = record { calls = []; mode = mode; quits = true }

-- ---- ---- cases

-- whether a key, with Ctrl and Alt held or not, is one of these inputs
abbrev pub fits_key : Key → Bool → Bool → Inputs → Bool
fits_key asked with_ctrl with_alt (modifiers, keys) = has_modifiers modifiers with_ctrl with_alt && has_key keys asked

-- keys, and the step that they all have
abbrev pub StepRow : Type 0
StepRow = Inputs × Step

-- the step of the case, or else this step
abbrev pub step_in : Option StepRow → Step → Step
step_in None other = other
step_in (Some row) other = row.1

-- the step of a key by its case, which is the only one that has the key, or else this step
unfoldable pub step_by : List StepRow → Step → Key → Bool → Bool → Step
step_by rows other asked with_ctrl with_alt =
    step_in (find (λ row. fits_key asked with_ctrl with_alt row.0) rows) other

-- ---- motions

unfoldable pub motions : List (Inputs × CursorMove)
motions =
    (chars plain (codes "h"), move.Back)
    ∷ (chars plain (codes "j"), move.Down)
    ∷ (chars plain (codes "k"), move.Up)
    ∷ (chars plain (codes "l"), move.Forward)
    ∷ (chars plain (codes "w"), move.WordForward)
    ∷ (chars plain (codes "e"), move.WordEnd)
    ∷ (chars plain (codes "b"), move.WordBack)
    ∷ (chars plain (codes "0"), move.Head)
    ∷ (chars plain (codes "$"), move.End)
    ∷ (chars plain (codes "{"), move.ParagraphBack)
    ∷ (chars plain (codes "}"), move.ParagraphForward)
    ∷ (chars plain (codes "g"), move.Top)
    ∷ (chars plain (codes "G"), move.Bottom)
    ∷ []

-- the move of a key, if it is a motion
unfoldable pub motion_of : Key → Bool → Bool → Option CursorMove
motion_of asked with_ctrl with_alt =
    option_map (λ row. row.1) (find (λ row. fits_key asked with_ctrl with_alt row.0) motions)

-- the step of a motion, by its move, or else this step
abbrev pub step_over : Option CursorMove → (CursorMove → Step) → Step → Step
step_over (Some cursor_move) by_move other = by_move cursor_move
step_over None by_move other = other

-- a motion that doesn't change the mode
abbrev pub move_in : Mode → CursorMove → Step
move_in mode cursor_move = calls_then (call.Move cursor_move ∷ []) mode

-- ---- Normal

-- the keys that are not motions
unfoldable pub normal : List StepRow
normal =
    (chars plain (codes "i"), calls_then [] Insert)
    ∷ (chars plain (codes "I"), calls_then (call.Move move.Head ∷ []) Insert)
    ∷ (chars plain (codes "a"), calls_then (call.Move move.Forward ∷ []) Insert)
    ∷ (chars plain (codes "A"), calls_then (call.Move move.End ∷ []) Insert)
    ∷ (chars plain (codes "o"), calls_then (call.Move move.End ∷ call.InsertNewline ∷ []) Insert)
    ∷ (chars plain (codes "O"), calls_then (call.Move move.Head ∷ call.InsertNewline ∷ call.Move move.Back ∷ []) Insert)
    ∷ (chars plain (codes "x"), calls_then (call.DeleteNextChar ∷ []) Normal)
    ∷ (chars plain (codes "D"), calls_then (call.DeleteLineByEnd ∷ []) Normal)
    ∷ (chars plain (codes "p"), calls_then (call.Paste ∷ []) Normal)
    ∷ (chars plain (codes "u"), calls_then (call.Undo ∷ []) Normal)
    ∷ (chars ctrl (codes "r"), calls_then (call.Redo ∷ []) Normal)
    ∷ (chars plain (codes "C"), calls_then (call.DeleteLineByEnd ∷ []) Insert)
    ∷ (chars plain (codes "n"), calls_then (call.SearchForward false ∷ []) Normal)
    ∷ (chars plain (codes "N"), calls_then (call.SearchBack false ∷ []) Normal)
    ∷ (chars ctrl (codes "d"), calls_then (call.Scroll scrolling.HalfPageDown ∷ []) Normal)
    ∷ (chars ctrl (codes "u"), calls_then (call.Scroll scrolling.HalfPageUp ∷ []) Normal)
    ∷ (chars plain (codes "v"), calls_then (call.StartSelection ∷ []) Visual)
    ∷ (chars plain (codes "V"), calls_then (call.Move move.Head ∷ call.StartSelection ∷ call.Move move.End ∷ []) Visual)
    ∷ (chars plain (codes "d"), calls_then (call.StartSelection ∷ []) (Operator Delete))
    ∷ (chars plain (codes "y"), calls_then (call.StartSelection ∷ []) (Operator Yank))
    ∷ (chars plain (codes "c"), calls_then (call.StartSelection ∷ []) (Operator Change))
    ∷ (chars plain (codes "q"), quits_from Normal)
    ∷ []

-- ---- Visual

-- the keys that are not motions
unfoldable pub visual : List StepRow
visual =
    (chars plain (codes "dx"), calls_then (call.Cut ∷ []) Normal)
    ∷ (chars plain (codes "y"), calls_then (call.Copy ∷ []) Normal)
    ∷ (chars plain (codes "c"), calls_then (call.Cut ∷ []) Insert)
    ∷ (one any key.Esc, calls_then (call.CancelSelection ∷ []) Normal)
    ∷ (chars plain (codes "v"), calls_then (call.CancelSelection ∷ []) Normal)
    ∷ []

-- ---- Operator

-- the letter of an operator
abbrev pub letter : Op → List ℕ
letter Delete = codes "d"
letter Yank = codes "y"
letter Change = codes "c"

-- the call of an operator on the selection
abbrev pub takes : Op → Call
takes Delete = call.Cut
takes Yank = call.Copy
takes Change = call.Cut

-- the mode after an operator
abbrev pub mode_after : Op → Mode
mode_after Delete = Normal
mode_after Yank = Normal
mode_after Change = Insert

-- these calls, and then an operator
abbrev pub operates : Op → List Call → Step
operates op calls = calls_then (calls ++ takes op ∷ []) (mode_after op)

-- the moves over an operator's text; WordEnd stops before a word's last character: one more
abbrev pub moves_over : CursorMove → List Call
moves_over move.WordEnd = call.Move move.WordEnd ∷ call.Move move.Forward ∷ []
moves_over cursor_move = call.Move cursor_move ∷ []

-- the keys that are not motions: the operator's own letter means the whole line
abbrev pub operator : Op → List StepRow
operator op =
    (chars plain (letter op), operates op (call.Move move.Head ∷ call.StartSelection ∷ call.Move move.End ∷ []))
    ∷ []

-- ---- Insert

-- the keys that are not passed to the text area
unfoldable pub insert : List StepRow
insert =
    (one any key.Esc, calls_then [] Normal)
    ∷ (chars ctrl (codes "c"), calls_then [] Normal)
    ∷ []

-- ---- all modes

-- the step of a key in Normal
abbrev pub step_in_normal : Key → Bool → Bool → Step
step_in_normal asked with_ctrl with_alt =
    step_over (motion_of asked with_ctrl with_alt) (move_in Normal)
    (step_by normal (calls_then [] Normal) asked with_ctrl with_alt)

-- the step of a key in Visual
abbrev pub step_in_visual : Key → Bool → Bool → Step
step_in_visual asked with_ctrl with_alt =
    step_over (motion_of asked with_ctrl with_alt) (move_in Visual)
    (step_by visual (calls_then [] Visual) asked with_ctrl with_alt)

-- after an operator: a motion, the operator's own letter, or else the end of the selection
abbrev pub step_after_operator : Op → Key → Bool → Bool → Step
step_after_operator op asked with_ctrl with_alt =
    step_over (motion_of asked with_ctrl with_alt) (λ cursor_move. operates op (moves_over cursor_move))
    (step_by (operator op) (calls_then (call.CancelSelection ∷ []) Normal) asked with_ctrl with_alt)

-- the call that passes an input to the text area
abbrev pub passed_on : Input → Call
passed_on input = call.Input (record { ref_ptr = (0, 0); now = input })

-- the step that passes an input to the text area
abbrev pub passing_on : Input → Step
passing_on input = calls_then (passed_on input ∷ []) Insert

-- the step of an input in Insert: an input without a case is passed to the text area
abbrev pub step_in_insert : Input → Step
step_in_insert input = step_by insert (passing_on input) input.key input.ctrl input.alt

-- the step of an input in a mode
abbrev pub step : Mode → Input → Step
step Normal input = step_in_normal input.key input.ctrl input.alt
step Visual input = step_in_visual input.key input.ctrl input.alt
step (Operator op) input = step_after_operator op input.key input.ctrl input.alt
step Insert input = step_in_insert input

-- the input is passed to the text area, which happens only in Insert
abbrev pub IsPassedOn : Mode → Input → Type 0
IsPassedOn mode input = (mode ≡ Insert) × (step mode input ≡ passing_on input)
