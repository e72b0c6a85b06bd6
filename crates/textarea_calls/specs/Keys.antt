-- The key tables of a text area. A case has inputs, their action, and their result: the text is
-- changed, unchanged, or as the call returns. An input without a case asks for nothing. The
-- modifiers are `plain` (neither Ctrl nor Alt), `ctrl` (Ctrl only), `alt` (Alt only), `both`, and
-- `any` of these.
use Rattle.std.specs.Prelude.{pos, negsuc, List, [], ◌∷◌, codes}
use Rattle.textarea_data.specs.declared.input.Key.TheVariants as key
use Rattle.textarea_data.specs.declared.cursor.CursorMove.TheVariants as move
use Rattle.textarea_data.specs.declared.scroll.Scrolling.{Scrolling}
use Rattle.textarea_data.specs.declared.scroll.Scrolling.TheVariants as scrolling
use Rattle.textarea_calls.specs.declared.action.Action.TheVariants as action
use Rattle.textarea_calls.specs.FlagRule.{changed, unchanged, as_called}
use Rattle.textarea_calls.specs.Table.{ActionRow, plain, ctrl, alt, both, any, chars, chars_but, one, row, always, insert_its_char, move_by, scroll_action}

-- a scroll by one row down, and by one row up
abbrev pub one_down : Scrolling
one_down = scrolling.Delta (pos 1) (pos 0)

abbrev pub one_up : Scrolling
one_up = scrolling.Delta (negsuc 0) (pos 0)

-- the key table with shortcuts
unfoldable pub keys_with_shortcuts : List ActionRow
keys_with_shortcuts =
    row (chars ctrl (codes "m") ∷ chars plain (codes "\n\r") ∷ one any key.Enter ∷ []) (always action.InsertNewline) changed
    ∷ row (chars_but plain (codes "\n\r") ∷ []) insert_its_char changed
    ∷ row (one plain key.Tab ∷ []) (always action.InsertTab) as_called
    ∷ row (chars ctrl (codes "h") ∷ one plain key.Backspace ∷ []) (always action.DeleteChar) as_called
    ∷ row (chars ctrl (codes "d") ∷ one plain key.Delete ∷ []) (always action.DeleteNextChar) as_called
    ∷ row (chars ctrl (codes "k") ∷ []) (always action.DeleteLineByEnd) as_called
    ∷ row (chars ctrl (codes "j") ∷ []) (always action.DeleteLineByHead) as_called
    ∷ row (chars ctrl (codes "w") ∷ chars alt (codes "h") ∷ one alt key.Backspace ∷ []) (always action.DeleteWord) as_called
    ∷ row (chars alt (codes "d") ∷ one alt key.Delete ∷ []) (always action.DeleteNextWord) as_called
    ∷ row (chars ctrl (codes "n") ∷ one plain key.Down ∷ []) (move_by move.Down) unchanged
    ∷ row (chars ctrl (codes "p") ∷ one plain key.Up ∷ []) (move_by move.Up) unchanged
    ∷ row (chars ctrl (codes "f") ∷ one plain key.Right ∷ []) (move_by move.Forward) unchanged
    ∷ row (chars ctrl (codes "b") ∷ one plain key.Left ∷ []) (move_by move.Back) unchanged
    ∷ row (chars ctrl (codes "a") ∷ one any key.Home ∷ one both key.Left ∷ chars both (codes "b") ∷ []) (move_by move.Head) unchanged
    ∷ row (chars ctrl (codes "e") ∷ one any key.End ∷ one both key.Right ∷ chars both (codes "f") ∷ []) (move_by move.End) unchanged
    ∷ row (chars alt (codes "<") ∷ one both key.Up ∷ chars both (codes "p") ∷ []) (move_by move.Top) unchanged
    ∷ row (chars alt (codes ">") ∷ one both key.Down ∷ chars both (codes "n") ∷ []) (move_by move.Bottom) unchanged
    ∷ row (chars alt (codes "f") ∷ one ctrl key.Right ∷ []) (move_by move.WordForward) unchanged
    ∷ row (chars alt (codes "b") ∷ one ctrl key.Left ∷ []) (move_by move.WordBack) unchanged
    ∷ row (chars alt (codes "]n") ∷ one ctrl key.Down ∷ []) (move_by move.ParagraphForward) unchanged
    ∷ row (chars alt (codes "[p") ∷ one ctrl key.Up ∷ []) (move_by move.ParagraphBack) unchanged
    ∷ row (chars ctrl (codes "u") ∷ []) (always action.Undo) as_called
    ∷ row (chars ctrl (codes "r") ∷ []) (always action.Redo) as_called
    ∷ row (chars ctrl (codes "y") ∷ one any key.Paste ∷ []) (always action.Paste) as_called
    ∷ row (chars ctrl (codes "x") ∷ one any key.Cut ∷ []) (always action.Cut) as_called
    ∷ row (chars ctrl (codes "c") ∷ one any key.Copy ∷ []) (always action.Copy) unchanged
    ∷ row (chars ctrl (codes "v") ∷ one any key.PageDown ∷ []) (scroll_action scrolling.PageDown) unchanged
    ∷ row (chars alt (codes "v") ∷ one any key.PageUp ∷ []) (scroll_action scrolling.PageUp) unchanged
    ∷ row (one any key.MouseScrollDown ∷ []) (scroll_action one_down) unchanged
    ∷ row (one any key.MouseScrollUp ∷ []) (scroll_action one_up) unchanged
    ∷ []

-- the key table without shortcuts
unfoldable pub keys_without_shortcuts : List ActionRow
keys_without_shortcuts =
    row (chars_but plain [] ∷ []) insert_its_char changed
    ∷ row (one plain key.Tab ∷ []) (always action.InsertTab) as_called
    ∷ row (one any key.Backspace ∷ []) (always action.DeleteChar) as_called
    ∷ row (one any key.Delete ∷ []) (always action.DeleteNextChar) as_called
    ∷ row (one any key.Enter ∷ []) (always action.InsertNewline) changed
    ∷ row (one any key.MouseScrollDown ∷ []) (always (action.Scroll one_down)) unchanged
    ∷ row (one any key.MouseScrollUp ∷ []) (always (action.Scroll one_up)) unchanged
    ∷ []
