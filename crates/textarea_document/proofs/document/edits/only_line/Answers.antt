use Rattle.std.proofs.Common.{◌≡◌, ◌∙◌, ◌++◌, Global, Option, String, Vec, ap, arith, inl, inr}
use Rattle.std.specs.Option.{option_to_list}
use Rattle.textarea_document.specs.Prelude.{lines_of}
use Rattle.textarea_text.proofs.Copies.{lines_copied}
use Rattle.textarea_document.proofs.Betweens.{only_text}
use Rattle.textarea_document.proofs.document.edits.only_line.Goals as goal

pub returns : goal.returns
returns c =
    let whole = c.args.fragment_lines.value.items in
    let copies = c.in_ok-lines.lines.items in
    let same : lines_of copies ≡ lines_of whole =
    elim c.in_ok-lines.ensures.ok [
      | inl e ↦ ap (λ (v : Vec (String Global) Global). lines_of v.items) e
      | inr copied ↦ lines_copied whole copies copied.0
    ] in
    only_text whole copies c.pop.new.self.items c.unwrap.result same (omega (arith, c.requires, c.args.fragment_lines.value.ok.0))
    (c.pop.ensures.items ∙ ap (λ (last : Option (String Global)). c.pop.new.self.items ++ option_to_list last) c.unwrap.ensures)
