use Rattle.std.proofs.Common.{◌≡◌}
use Rattle.std.proofs.lemmas.Result.{IfOk-weaker}
use Rattle.textarea_text.specs.Prelude.{lines_of}
use Rattle.textarea_text.proofs.Copies.{lines_copied}
use Rattle.textarea_text.proofs.fragment.copy_fragment.Goals as goal

pub returns-clause-same : goal.returns-clause-same
returns-clause-same c =
    IfOk-weaker c.from_clones.result _ (λ copy. lines_of copy.items ≡ lines_of c.args.fragment_lines.now)
    (λ copy same. lines_copied c.args.fragment_lines.now copy.items same) c.from_clones.ensures.items
