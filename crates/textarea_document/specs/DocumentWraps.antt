-- Which lines an edit of a document wraps: what it adds to the wrap counter, and which rows stay.
use Rattle.std.specs.Prelude.{List}
use Rattle.textarea_lines.specs.AtOnce.{WrapsAtOnce}
use Rattle.textarea_lines.specs.LineWraps.{WrapsForSplices, WrapsAllLines, WrapsNoLine, WrapsForSettings, WrapsForSplice, WrapsForWidth}
use Rattle.textarea_lines.specs.declared.settings.LayoutSettings.{LayoutSettings}
use Rattle.textarea_text.specs.Splice.{Splice}
use Rattle.textarea_document.specs.DocumentRows.{text_and_layout}
use Rattle.textarea_document.specs.DocumentState.{DocumentState}

-- one splice leads from the document to the other, and wraps the lines that such a splice wraps
abbrev pub SplicesBy : DocumentState → Splice → DocumentState → Type 0
SplicesBy old splice new = WrapsForSplice (text_and_layout old) splice (text_and_layout new)

-- the splices, one after another, lead from the document's text and rows to the other's, and each
-- wraps the lines that such a splice wraps
abbrev pub SplicedBy : DocumentState → List Splice → DocumentState → Type 0
SplicedBy old splices new = WrapsForSplices (text_and_layout old) splices (text_and_layout new)

-- the splices lead there, and each line that one of them touches is wrapped, once, or all lines are,
-- if their number changes how lines wrap
abbrev pub SplicedAtOnce : DocumentState → List Splice → DocumentState → Type 0
SplicedAtOnce old splices new = WrapsAtOnce (text_and_layout old) splices (text_and_layout new)

-- no line is wrapped: the wrap counter and the ticks stay
abbrev pub WrapsNothing : DocumentState → DocumentState → Type 0
WrapsNothing old new = WrapsNoLine (text_and_layout old) (text_and_layout new)

-- each line is wrapped, and their number is added to the wrap counter
abbrev pub WrapsAll : DocumentState → DocumentState → Type 0
WrapsAll old new = WrapsAllLines (text_and_layout old) (text_and_layout new)

-- each line is wrapped if the width of the map of visual rows changes, and otherwise none
abbrev pub WrapsByWidth : DocumentState → DocumentState → Type 0
WrapsByWidth old new = WrapsForWidth (text_and_layout old) (text_and_layout new)

-- each line is wrapped if the settings change how lines wrap, and otherwise none
abbrev pub WrapsBySettings : DocumentState → LayoutSettings → DocumentState → Type 0
WrapsBySettings old settings new = WrapsForSettings (text_and_layout old) settings (text_and_layout new)
