use Rattle.std.proofs.Common.{◌≡◌, ℕ, List, Some, ap, arith, length, subst}
use Rattle.std.proofs.lemmas.Str.{chars-nil}
use Rattle.textarea_document.specs.Prelude.{OnOk, as_nanos, lines}
use Rattle.textarea_document.specs.Indenting.{lines_shifted, with_starts}
use Rattle.textarea_document.proofs.document.Document.outdent_lines.Goals as goal

pub shift_lines-requires : goal.shift_lines-requires
shift_lines-requires c = record { short = omega (arith, ap length chars-nil) }

pub returns-clause-ok : goal.returns-clause-ok
returns-clause-ok c =
    subst (λ (tab : List ℕ). OnOk c.shift_lines.result (c.shift_lines.new.self ≡ lines_shifted c.args.self.now (Some c.args.unit) tab (as_nanos c.args.now))) chars-nil c.shift_lines.ensures.ok

pub returns-clause-lines : goal.returns-clause-lines
returns-clause-lines c =
    subst (λ (tab : List ℕ). OnOk c.shift_lines.result (lines c.shift_lines.new.self.text ≡ with_starts c.args.self.now (Some c.args.unit) tab 0 (lines c.args.self.now.text))) chars-nil c.shift_lines.ensures.lines
