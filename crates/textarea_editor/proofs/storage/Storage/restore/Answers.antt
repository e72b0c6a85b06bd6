use Rattle.std.proofs.Common.{◌≡◌, Bool, true, arith, subst, sym, is_some}
use Rattle.textarea_editor.specs.Storage.{IsReplied, IsRestorationIf}
use Rattle.textarea_editor.proofs.storage.Storage.restore.Goals as goal

pub returns : goal.returns
returns c =
    let some : is_some c.args.self.now.offered ≡ true = grind arith in
    let replied : IsReplied c.args.self.now c.args.editor.now c.recover.result c.recover.new.self c.recover.new.editor = record {
      now = _;
      event = _;
      yes = c.from.ensures;
      effect = _;
      between = _;
      replied = c.step.ensures;
      recovered = c.recover.ensures;
    } in
    subst (λ (b : Bool). IsRestorationIf b c.args.self.now c.args.editor.now c.recover.result c.recover.new.self c.recover.new.editor) (sym some) replied
