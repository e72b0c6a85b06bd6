use Rattle.std.proofs.Common.{ap, arith, sym, ◌∙◌}
use Rattle.textarea_history.specs.Prelude.{weight, symbols_in}
use Rattle.textarea_text.proofs.Sizes.{weight_of_line}
use Rattle.textarea_history.proofs.Changes.{symbols_of_change}
use Rattle.textarea_history.proofs.Weights.{typed_weight}
use Rattle.textarea_history.proofs.edit.change.Change.weight.Goals as goal

pub returns-in-Text : goal.returns-in-Text
returns-in-Text c =
    let text = c.in-Text.text in
    let inside = c.edit.inside in
    let same = sym (ap (symbols_in inside.inserts) c.in-Text.is) ∙ symbols_of_change inside.content inside.inserts c.self.inside.inserts inside.start inside.end c.self.inside.edit.now c.args.self.now c.edit.view_is c.self.view_is in
    omega (arith, c.len.ensures, weight_of_line text, ap weight same, text.bytes.ok.1, text.bytes.small)

pub returns-in-Typed : goal.returns-in-Typed
returns-in-Typed c =
    let text = c.in-Typed.text in
    let inside = c.edit.inside in
    let same = sym (ap (symbols_in inside.inserts) c.in-Typed.is) ∙ symbols_of_change inside.content inside.inserts c.self.inside.inserts inside.start inside.end c.self.inside.edit.now c.args.self.now c.edit.view_is c.self.view_is in
    omega (arith, c.len-in-Typed.ensures, typed_weight inside.inserts text, ap weight same, text.bytes.ok.1, text.bytes.small)
