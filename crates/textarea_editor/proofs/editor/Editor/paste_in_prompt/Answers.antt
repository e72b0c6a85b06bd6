use Rattle.std.proofs.Common.{◌≡◌, ◌∙◌, ◌&&◌, Bool, false, List, ℕ, [], ap, refl, rules, subst, sym}
use Rattle.std.specs.Str.{chars}
use Rattle.textarea_data.specs.declared.range.AtomicCursorBias.TheVariants.{Forward}
use Rattle.textarea_editor.proofs.Drafts.{makes_none}
use Rattle.textarea_editor.proofs.editor.Editor.paste_in_prompt.Goals as goal
use Rattle.textarea_editor.specs.Draft.{MakesSome}
use Rattle.textarea_editor.specs.EventCalls.{IsPasteInPrompt, IsPromptEdited}
use Rattle.textarea_editor.specs.Patterns.{first_line}
use Rattle.textarea_text.specs.Fragment.{fragment_symbols}
use Rattle.tui_textarea.specs.Edits.{inserts_text, str_inserted}
use Rattle.tui_textarea.specs.Guards.{admitted_over_selection, is_editable, unless_read_only}
use Rattle.tui_textarea.specs.Units.{settled}

pub returns : goal.returns
returns c =
    let old = c.args.self.now in
    let field = old.field in
    let line = fragment_symbols (first_line (chars c.args.text.now)) in
    let test : false ≡ (is_editable field && inserts_text field (admitted_over_selection field line)) =
    sym c.if-is_edited.false ∙ c.in_ok-is_edited.ensures.inserted
    ∙ ap (λ (l : List ℕ). is_editable field && inserts_text field (admitted_over_selection field (fragment_symbols l))) (ap chars c.as_str.ensures.value ∙ c.in_ok-line.ensures) in
    let asked : IsPasteInPrompt c.args.asked old.controls field c.args.text.now [] =
    subst (λ (b : Bool). IsPromptEdited b c.args.asked old.controls (unless_read_only field (settled Forward (str_inserted field (admitted_over_selection field line)))) []) test refl in
    let made : MakesSome (IsPasteInPrompt c.args.asked old.controls field c.args.text.now) old.draft old.draft = record { calls = []; asked = asked; makes = makes_none old.draft } in
    search (rules, made)
