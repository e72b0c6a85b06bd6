-- A frame at another inner width has the same settings.
use Rattle.std.proofs.Common.{◌≡◌, ℕ, Bool, true, false, cond, not, Option, None, Some, ap, refl, ◌∙◌}
use Rattle.tui_textarea.specs.DrawingPrelude.{has_symbols, text_and_layout, selection, selection_by, DocumentState, WidgetState, frame_of, scene_of, FrameState, at_inner_width}
use Rattle.tui_textarea.specs.DrawingPrelude.{TextAndLayout, Layout, at_width, keeps_wrapping, BorrowedRows, LayoutSettings, Place}
use Rattle.textarea_lines.specs.TextLayout.{rewrapped}

abbrev put_if : Bool → TextAndLayout → LayoutSettings → TextAndLayout
put_if b text_layout settings =
    cond b (record { text = text_layout.text; layout = record text_layout.layout { settings = settings } }) (rewrapped text_layout settings)

settings_put : (b : Bool) (text_layout : TextAndLayout) (settings : LayoutSettings) → (put_if b text_layout settings).layout.settings ≡ settings
settings_put true text_layout settings = refl
settings_put false text_layout settings = refl

selection_put : (document : DocumentState) (layout : Layout) → selection (record document { layout = layout }) ≡ selection document
selection_put document layout = by document.anchor
  where
    by : (anchor : Option Place) → selection_by anchor (record document { layout = layout }) ≡ selection_by anchor document
    by None = refl
    by (Some anchor) = refl

abbrev frame_with : WidgetState → BorrowedRows → Option (Place × Place) → LayoutSettings → FrameState
frame_with widget rows selected settings = record {
  scene = record (scene_of widget rows) { selection = selected; line_numbers = settings.line_numbers };
  surround = widget.surround;
  mode = settings.mode;
  is_empty = not (has_symbols widget.document.text);
}

-- only the rows of a frame depend on the width
pub frame_at_width : (widget : WidgetState) (width : ℕ) (rows : BorrowedRows) → frame_of (at_inner_width widget width) rows ≡ frame_of widget rows
frame_at_width widget width rows =
    let text_layout = text_and_layout widget.document in
    let new : TextAndLayout = put_if (keeps_wrapping text_layout (at_width text_layout width)) text_layout (at_width text_layout width) in
    ap (λ (s : Option (Place × Place)). frame_with widget rows s new.layout.settings) (selection_put widget.document new.layout)
    ∙ ap (frame_with widget rows (selection widget.document)) (settings_put (keeps_wrapping text_layout (at_width text_layout width)) text_layout (at_width text_layout width))
