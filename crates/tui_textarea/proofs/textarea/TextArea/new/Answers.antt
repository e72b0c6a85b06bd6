use Rattle.std.proofs.Common.{◌≡◌, ◌∙◌, ℕ, Global, List, Option, String, Vec, is_some, [], ap, false}
use Rattle.textarea_document.specs.DocumentState.{DocumentState, new_document}
use Rattle.tui_textarea.specs.DrawingState.{DrawingState, new_drawing}
use Rattle.textarea_view.specs.SurroundState.{SurroundState, new_surround}
use Rattle.textarea_text.specs.Text.{Symbol, text_of}
use Rattle.tui_textarea.specs.State.{default_layout, default_settings, new_state}
use Rattle.tui_textarea.specs.declared.textarea.settings.Settings.{Settings}
use Rattle.textarea_util.proofs.Options.{none_of_test}
use Rattle.tui_textarea.proofs.textarea.TextArea.new.Goals as goal

-- a state with new parts is new
made_new : (text : List Symbol) (document : DocumentState) (yank : List Symbol) (settings : Settings) (pattern : Option (List ℕ)) (surround : SurroundState) (drawing : DrawingState)
    → document ≡ new_document text default_layout 50 → yank ≡ [] → settings ≡ default_settings → is_some pattern ≡ false → surround ≡ new_surround → drawing ≡ new_drawing
    → record (new_state text) { document = document; yank = yank; settings = settings; pattern = pattern; surround = surround; drawing = drawing } ≡ new_state text
made_new text document yank settings pattern surround drawing d y s p b f =
    let start = new_state text in
    ap (λ (x : DocumentState). record start { document = x; yank = yank; settings = settings; pattern = pattern; surround = surround; drawing = drawing }) d
    ∙ ap (λ (x : List Symbol). record start { yank = x; settings = settings; pattern = pattern; surround = surround; drawing = drawing }) y
    ∙ ap (λ (x : Settings). record start { settings = x; pattern = pattern; surround = surround; drawing = drawing }) s
    ∙ ap (λ (x : Option (List ℕ)). record start { pattern = x; surround = surround; drawing = drawing }) (none_of_test pattern p)
    ∙ ap (λ (x : SurroundState). record start { surround = x; drawing = drawing }) b
    ∙ ap (λ (x : DrawingState). record start { drawing = x }) f

pub returns : goal.returns
returns c =
    made_new (text_of c.args.lines.items) c.in_ok-document.document (text_of c.in_ok-yank.yank.value.items) c.default-settings.result c.default-search.result c.new-surround.result c.new-drawing.result
    c.in_ok-document.ensures (ap (λ (v : Vec (String Global) Global). text_of v.items) c.in_ok-yank.ensures.ok ∙ ap text_of c.new-nothing.ensures.items)
    c.default-settings.ensures c.default-search.ensures c.new-surround.ensures c.new-drawing.ensures
