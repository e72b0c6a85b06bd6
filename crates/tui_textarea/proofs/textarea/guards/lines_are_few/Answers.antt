use Rattle.std.proofs.Common.{ap, arith, length}
use Rattle.std.proofs.lemmas.List.{length-map}
use Rattle.textarea_text.specs.Text.{characters_of}
use Rattle.textarea_text.proofs.Sizes.{length-le-size_of}
use Rattle.tui_textarea.proofs.textarea.guards.lines_are_few.Goals as goal

pub returns : goal.returns
returns c =
    omega (arith, length-le-size_of c.lines.result.now, c.lines.ensures.limit, ap length c.lines.ensures.lines, length-map c.lines.result.now characters_of)
