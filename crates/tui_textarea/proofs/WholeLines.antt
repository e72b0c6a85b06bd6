-- What is replaced at the starts of lines that are indented, or outdented by clusters, begins and ends
-- at stops.
use Rattle.std.proofs.Common.{◌≡◌, ◌≤◌, ◌+◌, ◌-◌, ◌==◌, ℕ, Bool, true, false, List, [], ◌∷◌, length, drop, take, Option, None, Some, IfSome, arith, refl, subst, sym}
use Rattle.std.specs.Prelude.{All, if◌then◌else◌}
use Rattle.std.proofs.lemmas.List.{length-drop}
use Rattle.std.proofs.lemmas.List.Elements.{All-append, All-cons, All-nil}
use Rattle.textarea_clusters.specs.Stops.{column_back, is_column_stop}
use Rattle.textarea_clusters.proofs.StopPlaces.{column_back_is_stop, column_back_within, start_is_stop}
use Rattle.textarea_data.specs.declared.cursor.CursorUnit.TheVariants as unit
use Rattle.textarea_data.specs.declared.cursor.CursorUnit.{CursorUnit}
use Rattle.textarea_data.specs.declared.range.AtomicRange.{AtomicRange}
use Rattle.textarea_text.specs.Place.{Place, end, place_of}
use Rattle.textarea_text.specs.Text.{Symbol, characters, lines}
use Rattle.textarea_document.specs.DocumentState.{DocumentState}
use Rattle.textarea_document.specs.Indenting.{indent_columns, is_selected_row, line_stretches, outdent_columns, replaced_columns, shift_columns, shift_splices, stretch_from, stretches_from}
use Rattle.textarea_document.specs.ReplacedText.{AreStretches}
use Rattle.textarea_document.specs.Sound.{IsSound}
use Rattle.textarea_document.proofs.IndentedTexts.{lines_replaceable, outdent_within}
use Rattle.tui_textarea.specs.Units.{AreWholeStretches, FirstTakesWhole, IsAtStop}
use Rattle.tui_textarea.proofs.RowPlaces.{AreRowsFrom, all_rows, first_line, place_at_index, rows_after}
use Rattle.tui_textarea.proofs.WholeEnds.{start_stop}
use Rattle.tui_textarea.proofs.WholeStretches.{AreInOrder, all_whole}

-- ---- how many characters are replaced

-- the lines are indented, or outdented by clusters
abbrev pub TakesNoPart : Option CursorUnit → Type 0
TakesNoPart None = Unit {0}
TakesNoPart (Some unit.Character) = ⊥
TakesNoPart (Some unit.Cluster) = Unit {0}

-- so many characters are in the line, and end at a stop
abbrev EndsWhole : List AtomicRange → ℕ → List ℕ → ℕ → Type 0
EndsWhole ranges row line count = (count ≤ length line) × (is_column_stop ranges line row count ≡ true)

none_replaced : (ranges : List AtomicRange) (tab_length row : ℕ) (line : List ℕ) → IfSome (indent_columns tab_length line) (EndsWhole ranges row line)
none_replaced ranges tab_length row [] = tt
none_replaced ranges tab_length row (c ∷ line) = by (tab_length == 0)
  where
    by : (none : Bool) → IfSome (if none then None else Some 0) (EndsWhole ranges row (c ∷ line))
    by true = tt
    by false = (omega arith, start_is_stop ranges (c ∷ line) row)

columns_whole : (outdents : Option CursorUnit) (ranges : List AtomicRange) (tab_length row : ℕ) (line : List ℕ) → TakesNoPart outdents
    → IfSome (shift_columns outdents ranges tab_length row line) (EndsWhole ranges row line)
columns_whole None ranges tab_length row line whole = none_replaced ranges tab_length row line
columns_whole (Some unit.Character) ranges tab_length row line whole = absurd whole
columns_whole (Some unit.Cluster) ranges tab_length row line whole = by (column_back ranges line row all == 0)
  where
    all : ℕ
    all = outdent_columns ranges tab_length row line

    within : column_back ranges line row all ≤ length line
    within = omega (arith, column_back_within ranges line row all, outdent_within ranges tab_length row line)

    by : (none : Bool) → IfSome (if none then None else Some (column_back ranges line row all)) (EndsWhole ranges row line)
    by true = tt
    by false = (within, column_back_is_stop ranges line row all)

starts_whole : (document : DocumentState) (outdents : Option CursorUnit) (row : ℕ) (line : List ℕ) → TakesNoPart outdents
    → IfSome (replaced_columns document outdents row line) (EndsWhole document.ranges row line)
starts_whole document outdents row line whole = by (is_selected_row document row)
  where
    by : (selected : Bool) → IfSome (if selected then shift_columns outdents document.ranges document.layout.settings.tab_len row line else None) (EndsWhole document.ranges row line)
    by true = columns_whole outdents document.ranges document.layout.settings.tab_len row line whole
    by false = tt

-- ---- the stretches

abbrev IsWhole : DocumentState → ℕ × ℕ → Type 0
IsWhole document stretch = IsAtStop document (place_of document.text stretch.0) × IsAtStop document (place_of document.text stretch.1)

stretch_is_whole : (document : DocumentState) (row before : ℕ) (line : List ℕ) (rest : List (List ℕ)) (found : Option ℕ) → AreRowsFrom document.text row before (line ∷ rest)
    → IfSome found (EndsWhole document.ranges row line) → All (IsWhole document) (stretch_from before found)
stretch_is_whole document row before line rest None from whole = All-nil (IsWhole document)
stretch_is_whole document row before line rest (Some count) from whole =
    let text = document.text in
    let start : place_of text before ≡ (row, 0) = place_at_index text row before line rest from 0 before (omega arith) (omega arith) in
    let stop : place_of text (before + count) ≡ (row, count) = place_at_index text row before line rest from count (before + count) whole.0 refl in
    let at : IsAtStop document (row, count) = subst (λ l. is_column_stop document.ranges l row count ≡ true) (first_line text row before line rest from) whole.1 in
    All-cons (IsWhole document) (before, before + count) [] (subst (IsAtStop document) (sym start) (start_stop document row), subst (IsAtStop document) (sym stop) at) (All-nil (IsWhole document))

stretches_whole : (document : DocumentState) (outdents : Option CursorUnit) (row before : ℕ) (rows : List (List ℕ)) → TakesNoPart outdents → AreRowsFrom document.text row before rows
    → All (IsWhole document) (stretches_from document outdents row before rows)
stretches_whole document outdents row before [] whole from = All-nil (IsWhole document)
stretches_whole document outdents row before (line ∷ rest) whole from =
    All-append (IsWhole document) (stretch_from before (replaced_columns document outdents row line)) (stretches_from document outdents (row + 1) (before + length line + 1) rest)
    (stretch_is_whole document row before line rest (replaced_columns document outdents row line) from (starts_whole document outdents row line whole))
    (stretches_whole document outdents (row + 1) (before + length line + 1) rest whole (rows_after document.text row before line rest from))

pub line_starts_whole : (document : DocumentState) (outdents : Option CursorUnit) → TakesNoPart outdents → AreWholeStretches document (line_stretches document outdents)
line_starts_whole document outdents whole = stretches_whole document outdents 0 0 (lines document.text) whole (all_rows document.text)

-- ---- their order

in_order : (ranges : List AtomicRange) (place : Place) (left : List Symbol) (passed size : ℕ) (stretches : List (ℕ × ℕ)) → passed + length left ≡ size → AreStretches ranges place left passed stretches
    → AreInOrder passed size stretches
in_order ranges place left passed size [] all are = tt
in_order ranges place left passed size (stretch ∷ rest) all are =
    let n = stretch.1 - passed in (
      are.0,
      are.1,
      omega (arith, are.0, are.1, are.2, all),
      in_order ranges (end place (take n left)) (drop n left) stretch.1 size rest (omega (arith, are.0, are.1, are.2, all, length-drop n left)) are.5,
    )

pub shifts_whole : (document : DocumentState) (outdents : Option CursorUnit) (tab : List ℕ) (now : ℕ) → TakesNoPart outdents → IsSound document → FirstTakesWhole document (shift_splices document outdents tab now)
shifts_whole document outdents tab now whole h =
    let stretches = line_stretches document outdents in
    all_whole document stretches (characters tab) now h
    (in_order document.ranges (0, 0) document.text 0 (length document.text) stretches (omega arith) (lines_replaceable document outdents))
    (line_starts_whole document outdents whole)
