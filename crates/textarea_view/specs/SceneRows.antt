-- The highlights of a visual row as a function of the scene, in the order of their calls.
use Rattle.std.specs.Prelude.{◌≡◌, ℕ, [], IfSome, ◌+◌, ◌-◌, Bool, ◌&&◌, ◌||◌, ◌==◌, nat_le, nat_lt, List, Option, None, Some, length, take, encode_utf8_all, if◌then◌else◌}
use Rattle.std.specs.Fmt.{decimal}
use Rattle.std.specs.List.{fold}
use Rattle.std.specs.Option.{option_map, option_map_or}
use Rattle.textarea_text.specs.Place.{Place, line_of}
use Rattle.textarea_screen_map.specs.LineRows.{AreRowsOf}
use Rattle.textarea_screen_map.specs.VisualRows.{VisualRow, row_at}
use Rattle.textarea_screen.specs.Style.{patched}
use Rattle.textarea_screen.specs.declared.screen.style.Style.{Style}
use Rattle.textarea_search.specs.Matches.{match_spans}
use Rattle.textarea_highlight.specs.Borders.{search_rank}
use Rattle.textarea_highlight.specs.Highlights.{Highlights, Range, is_in_range, plain_row, with_base, with_cursor_line, with_highlight, with_number, with_placeholder, with_segment}
use Rattle.textarea_highlight.specs.declared.highlight.highlighter.CursorCellRender.{CursorCellRender}
use Rattle.textarea_highlight.specs.declared.highlight.highlighter.CursorCellRender.TheVariants.{Draw, Hidden}
use Rattle.textarea_data.specs.declared.cursor.CursorRenderMode.{CursorRenderMode}
use Rattle.textarea_data.specs.declared.cursor.CursorRenderMode.TheVariants as render
use Rattle.textarea_view.specs.declared.look.CustomHighlight.{CustomHighlight}
use Rattle.textarea_view.specs.declared.look.Look.{Look}
use Rattle.textarea_view.specs.Scene.{SceneState, IsCursorRow}

-- ---- the row by itself

abbrev pub row_bytes : VisualRow → List ℕ
row_bytes row = encode_utf8_all row.text

-- the cursor's cell is in the cursor's style, or drawn as any other
abbrev pub cell_render : CursorRenderMode → Style → CursorCellRender
cell_render render.Cell style = Draw style
cell_render render.Hidden style = Hidden

abbrev pub cursor_cell : Look → CursorCellRender
cursor_cell look = cell_render look.cursor_render_mode look.cursor_style

-- no highlight, and only the styles of the scene's appearance
abbrev pub bare_row : SceneState → VisualRow → Highlights
bare_row scene row = plain_row (row_bytes row) (cursor_cell scene.look) scene.rows.wrapping.tab_len scene.look.mask scene.look.selection_style

-- ---- line numbers

-- the number of digits of the last line's number
abbrev pub number_digits : SceneState → ℕ
number_digits scene = length (decimal (length scene.rows.lines))

-- the number of the cursor's line is in a style of its own, over that of all numbers
abbrev pub style_of_number : SceneState → ℕ → Style
style_of_number scene line =
    if scene.cursor.0 == line
    then patched scene.look.line_number_style scene.look.cursor_line_number_style
    else scene.look.line_number_style

-- the line number if it is the line's first row, else as many blanks, which are in the style of all numbers
abbrev pub with_number_if : Bool → SceneState → VisualRow → Highlights → Highlights
with_number_if first scene row h =
    if first
    then with_number h row.line (number_digits scene) (style_of_number scene row.line)
    else with_placeholder h (number_digits scene) scene.look.line_number_style

abbrev pub with_line_number : SceneState → VisualRow → Highlights → Highlights
with_line_number scene row h = with_number_if (row.start == 0) scene row h

abbrev pub with_row_number : SceneState → VisualRow → Highlights → Highlights
with_row_number scene row h = if scene.line_numbers then with_line_number scene row h else h

-- ---- the cursor and its line

-- the position belongs to the row: in the row's line, from its first character on and before its
-- end, or at the end of a line's last row
abbrev pub holds_place : VisualRow → Place → Bool
holds_place row place =
    (place.0 == row.line)
    && (nat_le row.first place.1
    && (nat_lt place.1 (row.first + length row.text) || (row.is_last && (place.1 == row.first + length row.text))))

-- all rows of the cursor's line are in that line's style, and the row with the cursor has its cell
abbrev pub with_cursor : SceneState → VisualRow → Highlights → Highlights
with_cursor scene row h =
    if holds_place row scene.cursor then with_cursor_line h (scene.cursor.1 - row.first) scene.look.cursor_line_style
    else (if scene.cursor.0 == row.line then with_base h scene.look.cursor_line_style else h)

-- ---- ranges from one (line, byte offset) to another, and a row's section of them

-- the row's section of a range, by byte offsets in the row; the highlighter clips both to the row
abbrev pub from_in : VisualRow → Range → ℕ
from_in row range = if row.line == range.0.0 then range.0.1 - row.start else 0

abbrev pub to_in : VisualRow → Range → ℕ
to_in row range = if row.line == range.1.0 then range.1.1 - row.start else length (row_bytes row)

-- that section, if the row's line is in the range
abbrev pub segment_in : VisualRow → Range → Option (ℕ × ℕ)
segment_in row range = if is_in_range row.line range then Some (from_in row range, to_in row range) else None

-- a highlight of that section
abbrev pub with_range_segment : VisualRow → Range → Style → ℕ → Highlights → Highlights
with_range_segment row range style rank h =
    option_map_or (λ (segment : ℕ × ℕ). with_highlight h segment.0 segment.1 style rank) (segment_in row range) h

-- ---- matches

-- lines in which a pattern is searched for, if there is one
pub record SearchedLines : Type 0 where
  pub pattern : Option (List ℕ)
  pub lines : List (List ℕ)

-- the matches in one of the lines
abbrev pub matches_in : SearchedLines → ℕ → List (ℕ × ℕ)
matches_in searched_lines line =
    option_map_or (λ pattern. match_spans pattern (encode_utf8_all (line_of searched_lines.lines line))) searched_lines.pattern []

-- these are the matches of this line, if there is one, and there are none without a pattern
pub record AreMatchesOf (searched_lines : SearchedLines) (line : Option ℕ) (found : List (ℕ × ℕ)) : Type 0 where
  pub none : searched_lines.pattern ≡ None → found ≡ []
  pub of_line : IfSome line (λ l. found ≡ matches_in searched_lines l)

-- the searched lines, and the matches found
pub record KnownMatches : Type 0 where
  pub searched : SearchedLines
  pub found : List (ℕ × ℕ)

-- the scene's lines, and its pattern
abbrev pub searched_lines : SceneState → SearchedLines
searched_lines scene = record { pattern = scene.pattern; lines = scene.rows.lines }

-- a match as a range of one line
abbrev pub match_range : VisualRow → ℕ × ℕ → Range
match_range row found = ((row.line, found.0), (row.line, found.1))

abbrev pub with_match : Style → VisualRow → Highlights → ℕ × ℕ → Highlights
with_match style row h found = with_range_segment row (match_range row found) style search_rank h

abbrev pub with_search_matches : SceneState → VisualRow → Highlights → Highlights
with_search_matches scene row h = fold (with_match scene.look.search_style row) h (matches_in (searched_lines scene) row.line)

-- ---- the selection

-- a position as its line and the byte offset in that line
abbrev pub byte_place : List (List ℕ) → Place → Place
byte_place lines place = (place.0, length (encode_utf8_all (take place.1 (line_of lines place.0))))

abbrev pub byte_range : List (List ℕ) → Place × Place → Range
byte_range lines selection = (byte_place lines selection.0, byte_place lines selection.1)

-- the row's section; and in a line's last row the break, if the selection continues after that line
abbrev pub with_selected_segment : VisualRow → Highlights → Range → Highlights
with_selected_segment row h range =
    option_map_or (λ (segment : ℕ × ℕ). with_segment h segment.0 segment.1 (row.is_last && nat_lt row.line range.1.0))
    (segment_in row range) h

abbrev pub with_selected : SceneState → VisualRow → Highlights → Highlights
with_selected scene row h =
    option_map_or (with_selected_segment row h) (option_map (byte_range scene.rows.lines) scene.selection) h

-- ---- the caller's own highlights

abbrev pub with_custom : VisualRow → Highlights → CustomHighlight → Highlights
with_custom row h highlight = with_range_segment row (highlight.start, highlight.end) highlight.style highlight.priority h

abbrev pub with_customs : SceneState → VisualRow → Highlights → Highlights
with_customs scene row h = fold (with_custom row) h scene.highlights

-- ---- all of it

abbrev pub highlights_of : SceneState → VisualRow → Highlights
highlights_of scene row =
    with_customs scene row
    (with_selected scene row (with_search_matches scene row (with_cursor scene row (with_row_number scene row (bare_row scene row)))))

-- the highlights of the visual row of this number
unfoldable pub row_highlights : SceneState → ℕ → Highlights
row_highlights scene row = highlights_of scene (row_at scene.rows.lines scene.rows.rows row)

-- ---- facts about a scene before its first row is drawn

-- the rows are those of the lines, the cursor is in this row, and this is the selection by bytes
pub record IsKnown (scene : SceneState) (cursor_row : ℕ) (selected : Option Range) : Type 0 where
  pub right : AreRowsOf scene.rows.wrapping scene.rows.lines scene.rows.rows
  pub cursor : IsCursorRow scene cursor_row
  pub selected_is : selected ≡ option_map (byte_range scene.rows.lines) scene.selection
