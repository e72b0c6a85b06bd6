-- A copy followed by a paste, and the visual rows at any time.
use Rattle.std.specs.Prelude.{◌≡◌, ◌+◌, ◌<◌, ◌&&◌, ℕ, List, true, encode_utf8_all, length, max}
use Rattle.textarea_text.specs.Place.{end, inserted, line_of}
use Rattle.textarea_text.specs.Text.{Symbol, lines}
use Rattle.textarea_blocks.specs.Sums.{ranges_at}
use Rattle.textarea_wrap.specs.WrapResult.{IsWrapped}
use Rattle.textarea_screen_map.specs.declared.layout.Wrapping.{Wrapping}
use Rattle.textarea_document.specs.Edits.{insertion_place, has_symbols}
use Rattle.textarea_document.specs.DocumentRows.{text_and_layout}
use Rattle.textarea_document.specs.Selection.{selected}
use Rattle.textarea_lines.specs.TextLayout.{wrapping_of}
use Rattle.textarea_lines.specs.TextRows.{HasLayout}
use Rattle.textarea_wrap.specs.RowsView.{RowsView}
use Rattle.tui_textarea.specs.State.{State}
use Rattle.tui_textarea.specs.Edits.{str_inserted}
use Rattle.tui_textarea.specs.Fitting.{fitting_beside, is_allowed}
use Rattle.tui_textarea.specs.Guards.{admitted, admitted_over_selection, is_editable, unless_read_only}
use Rattle.tui_textarea.specs.Selection.{selection_copied}

-- the state after both, before the paste moves the cursor out of a cluster
abbrev pub copied_and_pasted : State → State
copied_and_pasted state =
    let copied = selection_copied state in
    unless_read_only copied (str_inserted copied (admitted_over_selection copied copied.yank))

-- what that inserts: nothing is selected any more, so it must fit beside the whole text
abbrev pub copy_pasted : State → List Symbol
copy_pasted state = fitting_beside state.settings.max_chars (length state.document.text) (admitted state (selected state.document))

-- A `paste` after a `copy` with selected text: the text has exactly the selected symbols inserted, with a
-- space for each break in a text area of a single line, and no more of them than fit if there is a
-- greatest number of them, at the cursor or at the end of the atomic range that strictly contains it;
-- the cursor is after them; and the paste returns whether it inserted a symbol. All are inserted if all
-- fit, and there is one at least.
pub record PastesCopy (state : State) : Type 0 where
  pub text : (copied_and_pasted state).document.text
      ≡ inserted state.document.text (insertion_place state.document) (copy_pasted state)
  pub cursor : (copied_and_pasted state).document.cursor
      ≡ end (insertion_place state.document) (copy_pasted state)
  pub returned : (is_editable (selection_copied state) && has_symbols (admitted_over_selection (selection_copied state) (selection_copied state).yank))
      ≡ has_symbols (copy_pasted state)
  pub whole : is_allowed state.settings.max_chars (length state.document.text + length (selected state.document)) ≡ true
      → copy_pasted state ≡ admitted state (selected state.document)
  pub some : has_symbols (admitted state (selected state.document)) ≡ true

-- The ranges are those that `line_ranges` returns for the characters of this line, with that mode,
-- width and tab length: the only correct ones.
abbrev pub AreLineRanges : Wrapping → List ℕ → List (ℕ × ℕ) → Type 0
AreLineRanges wrapping line ranges = IsWrapped wrapping.mode wrapping.tab_len (max wrapping.width 1) (encode_utf8_all line) ranges

-- The visual rows of the text, computed from scratch. There is exactly one correct list: each line
-- has the rows that `line_ranges` returns for it, with the mode, the tab length and the width
-- beside the line numbers, and each line was last wrapped at the tick that the state records.
pub record HasRowsFromScratch (state : State) : Type 0 where
  pub rows : List RowsView
  pub right : HasLayout (text_and_layout state.document) rows
  pub only : (others : List RowsView) → HasLayout (text_and_layout state.document) others → others ≡ rows
  pub of_lines : (index : ℕ) → index < length (lines state.document.text)
      → AreLineRanges (wrapping_of (text_and_layout state.document)) (line_of (lines state.document.text) index) (ranges_at rows index)
  pub of_lines_only : (index : ℕ) (ranges : List (ℕ × ℕ)) → index < length (lines state.document.text)
      → AreLineRanges (wrapping_of (text_and_layout state.document)) (line_of (lines state.document.text) index) ranges
      → ranges_at rows index ≡ ranges
