-- Written by tools/calls from crates/textarea_calls/calls.txt.
-- The commands of calls that borrow nothing, and whose arguments are read by their types.
use Rattle.std.specs.Prelude.{ℕ, List, [], ◌∷◌, ◌++◌, codes, Option}
use Rattle.textarea_calls.specs.declared.call.Call.TheVariants as call
use Rattle.textarea_script_syntax.specs.Arguments.{byte_number, change_unit_named, cursor_unit_named, mode_named, move_named, number, number_or_none, scroll_amounts, short_number, truth, two_numbers}
use Rattle.textarea_script_syntax.specs.Escapes.{character}
use Rattle.textarea_script_syntax.specs.Meaning.{Meaning, meaning_by, plain_command, without_arguments}

-- the names of those that have arguments, and the meanings of the arguments
abbrev pub commands_with_arguments : List (List ℕ × (Option (List ℕ) → Option Meaning))
commands_with_arguments =
    (codes "insert_char", plain_command character call.InsertChar)
    ∷ (codes "delete_str", plain_command number call.DeleteStr)
    ∷ (codes "set_max_histories", plain_command number call.SetMaxHistories)
    ∷ (codes "set_undo_coalescing", plain_command truth call.SetUndoCoalescing)
    ∷ (codes "set_undo_grouping", plain_command truth call.SetUndoGrouping)
    ∷ (codes "set_undo_ranges", plain_command truth call.SetUndoRanges)
    ∷ (codes "set_change_log", plain_command change_unit_named call.SetChangeLog)
    ∷ (codes "move", plain_command move_named call.Move)
    ∷ (codes "go_to", plain_command two_numbers call.GoTo)
    ∷ (codes "scroll", plain_command scroll_amounts call.Scroll)
    ∷ (codes "search_forward", plain_command truth call.SearchForward)
    ∷ (codes "search_back", plain_command truth call.SearchBack)
    ∷ (codes "set_tab_length", plain_command byte_number call.SetTabLength)
    ∷ (codes "set_hard_tab_indent", plain_command truth call.SetHardTabIndent)
    ∷ (codes "set_read_only", plain_command truth call.SetReadOnly)
    ∷ (codes "set_single_line", plain_command truth call.SetSingleLine)
    ∷ (codes "set_max_chars", plain_command number_or_none call.SetMaxChars)
    ∷ (codes "set_cursor_unit", plain_command cursor_unit_named call.SetCursorUnit)
    ∷ (codes "set_wrap_mode", plain_command mode_named call.SetWrapMode)
    ∷ (codes "set_mask_char", plain_command character call.SetMaskChar)
    ∷ (codes "measure", plain_command short_number call.Measure)
    ∷ []

-- those without arguments
abbrev pub bare_commands : List (List ℕ × (Option (List ℕ) → Option Meaning))
bare_commands =
    (codes "insert_newline", without_arguments call.InsertNewline)
    ∷ (codes "insert_tab", without_arguments call.InsertTab)
    ∷ (codes "paste", without_arguments call.Paste)
    ∷ (codes "duplicate_line", without_arguments call.DuplicateLine)
    ∷ (codes "indent_lines", without_arguments call.IndentLines)
    ∷ (codes "outdent_lines", without_arguments call.OutdentLines)
    ∷ (codes "move_lines_up", without_arguments call.MoveLinesUp)
    ∷ (codes "move_lines_down", without_arguments call.MoveLinesDown)
    ∷ (codes "delete_char", without_arguments call.DeleteChar)
    ∷ (codes "delete_next_char", without_arguments call.DeleteNextChar)
    ∷ (codes "delete_newline", without_arguments call.DeleteNewline)
    ∷ (codes "delete_line_by_end", without_arguments call.DeleteLineByEnd)
    ∷ (codes "delete_line_by_head", without_arguments call.DeleteLineByHead)
    ∷ (codes "delete_word", without_arguments call.DeleteWord)
    ∷ (codes "delete_next_word", without_arguments call.DeleteNextWord)
    ∷ (codes "clear", without_arguments call.Clear)
    ∷ (codes "cut", without_arguments call.Cut)
    ∷ (codes "undo", without_arguments call.Undo)
    ∷ (codes "redo", without_arguments call.Redo)
    ∷ (codes "begin_undo_group", without_arguments call.BeginUndoGroup)
    ∷ (codes "end_undo_group", without_arguments call.EndUndoGroup)
    ∷ (codes "end_run", without_arguments call.EndRun)
    ∷ (codes "take_changes", without_arguments call.TakeChanges)
    ∷ (codes "start_selection", without_arguments call.StartSelection)
    ∷ (codes "cancel_selection", without_arguments call.CancelSelection)
    ∷ (codes "select_all", without_arguments call.SelectAll)
    ∷ (codes "copy", without_arguments call.Copy)
    ∷ (codes "clear_mask_char", without_arguments call.ClearMaskChar)
    ∷ (codes "text", without_arguments call.Text)
    ∷ (codes "match_count", without_arguments call.MatchCount)
    ∷ (codes "match_index", without_arguments call.MatchIndex)
    ∷ (codes "yank_text", without_arguments call.YankText)
    ∷ []

-- all of them
abbrev pub call_commands : List (List ℕ × (Option (List ℕ) → Option Meaning))
call_commands = commands_with_arguments ++ bare_commands

unfoldable pub call_meaning : List ℕ → Option (List ℕ) → Option Meaning
call_meaning = meaning_by call_commands
