use Rattle.std.proofs.Common.{◌≡◌, ◌∙◌, List, [], ap, sym}
use Rattle.textarea_clusters.proofs.StopPlaces.{start_is_stop, stop_ahead_same}
use Rattle.textarea_data.specs.declared.range.AtomicCursorBias.TheVariants.{Forward}
use Rattle.textarea_editor.specs.SetUp.{by_clusters}
use Rattle.textarea_text.specs.Place.{Place, line_of}
use Rattle.textarea_text.specs.Text.{Symbol, lines}
use Rattle.tui_textarea.specs.State.{State, new_state, with_document}
unfoldable use Rattle.tui_textarea.specs.Units.{settled}
use Rattle.textarea_editor.proofs.editor.parts.go_by_clusters.Goals as goal

-- the start of a text is between clusters
at_start : (text : List Symbol) → settled Forward (by_clusters (new_state text)) ≡ by_clusters (new_state text)
unfolding settled
at_start text =
    let area = by_clusters (new_state text) in
    ap (λ (place : Place). with_document area (record area.document { cursor = place })) (stop_ahead_same [] (lines text) (0, 0) (start_is_stop [] (line_of (lines text) 0) 0))

pub returns : goal.returns
returns c =
    let old = c.args.area.now in
    c.set_cursor_unit.ensures ∙ ap (λ (area : State). settled Forward (by_clusters area)) c.requires ∙ at_start old.document.text ∙ sym (ap by_clusters c.requires)
