use Rattle.std.proofs.Common.{◌≡◌, ◌-◌, length, take, vec_len, ap, ◌∙◌, sym, arith}
use Rattle.textarea_highlight.specs.OpenStyles.{passed}
use Rattle.textarea_highlight.proofs.BracketLemmas.{passed_more}
use Rattle.textarea_highlight.proofs.highlight.brackets.OpenStyles.pass.Goals as goal

pub returns-in_ok-push-in-Start-clause-ok : goal.returns-in_ok-push-in-Start-clause-ok
returns-in_ok-push-in-Start-clause-ok c = λ marks before.
    c.in_ok-push-in-Start.ensures.items ∙ ap (passed c.args.self.now.started.items) (sym c.in-Start.is) ∙ passed_more c.args.self.now.started.items marks c.args.mark before

pub returns-in-End-clause-ok : goal.returns-in-End-clause-ok
returns-in-End-clause-ok c = λ marks before.
    let same : vec_len c.args.self.now.started - 1 ≡ length c.args.self.now.started.items - 1 = omega (arith, c.args.self.now.started.ok.0) in
    c.pop-closed.ensures.rest ∙ ap (λ n. take n c.args.self.now.started.items) same ∙ ap (passed c.args.self.now.started.items) (sym c.in-End.is) ∙ passed_more c.args.self.now.started.items marks c.args.mark before
