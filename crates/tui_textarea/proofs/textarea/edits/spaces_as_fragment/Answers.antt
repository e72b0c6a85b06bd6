use Rattle.std.proofs.Common.{◌∙◌, Global, String, Vec, ap, length}
use Rattle.textarea_text.specs.Text.{text_of}
use Rattle.tui_textarea.proofs.FragmentTexts.{spaces_text}
use Rattle.tui_textarea.proofs.textarea.edits.spaces_as_fragment.Goals as goal

pub returns : goal.returns
returns c =
    ap (λ (v : Vec (String Global) Global). text_of v.items) c.in_ok-new.ensures.ok
    ∙ spaces_text c.push.new.self.items c.new-fragment_lines.result.items c.in_ok-from_str.field-0 c.args.count c.in_ok-push.ensures.items (ap length c.new-fragment_lines.ensures.items) (c.in_ok-from_str.ensures.ok ∙ c.spaces.ensures)
