-- The visual rows of a document, the positions above and below the cursor, and other settings.
use Rattle.std.specs.Prelude.{ℕ, Option}
use Rattle.textarea_text.specs.Place.{Place}
use Rattle.textarea_lines.specs.declared.settings.LayoutSettings.{LayoutSettings}
use Rattle.textarea_lines.specs.TextRows.{IsFoundAbove, IsFoundBelow, IsRowCountAt}
use Rattle.textarea_lines.specs.TextLayout.{TextAndLayout, at_width, with_settings}
use Rattle.textarea_document.specs.DocumentState.{DocumentState}

-- the text with its layout
abbrev pub text_and_layout : DocumentState → TextAndLayout
text_and_layout document = record { text = document.text; layout = document.layout }

-- the position one visual row above the cursor; none in the first visual row
unfoldable pub IsAboveCursor : DocumentState → Option Place → Type 0
IsAboveCursor document found = IsFoundAbove (text_and_layout document) document.cursor found

-- the position one visual row below the cursor; none in the last visual row
unfoldable pub IsBelowCursor : DocumentState → Option Place → Type 0
IsBelowCursor document found = IsFoundBelow (text_and_layout document) document.cursor found

-- the text has this number of visual rows, laid out from scratch in an inner area of this width
unfoldable pub HasRowsAt : DocumentState → ℕ → ℕ → Type 0
HasRowsAt document inner_width count = IsRowCountAt (text_and_layout document) inner_width count

-- the layout settings change: lines are wrapped again if that changes how they wrap; all else stays
abbrev pub with_layout_settings : DocumentState → LayoutSettings → DocumentState
with_layout_settings document settings =
    record document { layout = (with_settings (text_and_layout document) settings).layout }

-- the same settings, but with an inner area of this many columns
abbrev pub with_inner_width : DocumentState → ℕ → DocumentState
with_inner_width document inner_width =
    with_layout_settings document (at_width (text_and_layout document) inner_width)
