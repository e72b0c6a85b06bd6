use Rattle.std.proofs.Common.{◌≡◌, ◌∙◌, ap, Bool, false, true, IsTrue, List, [], ◌∷◌, not, Option, refl}
use Rattle.textarea_document.specs.Edits.{has_symbols}
use Rattle.textarea_document.specs.Selection.{selection}
use Rattle.textarea_lines.specs.declared.settings.LayoutSettings.{LayoutSettings}
use Rattle.textarea_text.specs.Place.{Place}
use Rattle.textarea_text.specs.Text.{Symbol}
use Rattle.textarea_view.specs.Frame.{FrameState}
use Rattle.textarea_view.specs.declared.look.CustomHighlight.{CustomHighlight}
use Rattle.textarea_view.specs.declared.look.Look.{Look}
use Rattle.tui_textarea.specs.DrawingState.{DrawingState}
use Rattle.tui_textarea.proofs.drawing.Drawing.frame.Goals as goal

-- a text is empty if it has no symbol
empty_is : (is_empty : Bool) (text : List Symbol) → (IsTrue is_empty → text ≡ []) × (text ≡ [] → IsTrue is_empty) → is_empty ≡ not (has_symbols text)
empty_is true [] both = refl
empty_is false [] both = both.1 refl
empty_is true (x ∷ xs) both = let no : x ∷ xs ≡ [] = both.0 refl in cc
empty_is false (x ∷ xs) both = refl

pub returns-clause-frame : goal.returns-clause-frame
returns-clause-frame c =
    let document = c.args.document.now in
    let of : LayoutSettings → Place → Option (Place × Place) → Look → List CustomHighlight → Bool → FrameState =
    λ settings cursor ends look highlights is_empty. record {
      scene = record {
        rows = c.args.rows;
        cursor = cursor;
        selection = ends;
        pattern = c.args.search.now;
        look = look;
        highlights = highlights;
        line_numbers = settings.line_numbers;
      };
      surround = c.args.surround.now;
      mode = settings.mode;
      is_empty = is_empty;
    } in
    let look = c.self.inside.look in
    ap (λ (s : LayoutSettings). of s c.cursor.result c.selection.result look c.as_slice.result.now c.is_empty.result) c.layout_settings-settings.ensures
    ∙ ap (λ (p : Place). of document.layout.settings p c.selection.result look c.as_slice.result.now c.is_empty.result) c.cursor.ensures.value
    ∙ ap (λ (s : Option (Place × Place)). of document.layout.settings document.cursor s look c.as_slice.result.now c.is_empty.result) c.selection.ensures.value
    ∙ ap (λ (h : List CustomHighlight). of document.layout.settings document.cursor (selection document) look h c.is_empty.result) c.as_slice.ensures.value
    ∙ ap (λ (e : Bool). of document.layout.settings document.cursor (selection document) look c.self.inside.highlights.items e) (empty_is c.is_empty.result document.text c.is_empty.ensures)
    ∙ ap (λ (d : DrawingState). of document.layout.settings document.cursor (selection document) d.look d.highlights (not (has_symbols document.text))) c.self.view_is
