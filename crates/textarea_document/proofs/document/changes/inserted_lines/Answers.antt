use Rattle.std.proofs.Common.{◌∙◌, ◌∷◌, [], List, ℕ, ap, sym}
use Rattle.std.proofs.lemmas.Result.{IfOk-weaker}
use Rattle.std.proofs.lemmas.Str.{chars-nil}
use Rattle.textarea_document.specs.Prelude.{chars, lines_of}
use Rattle.textarea_document.proofs.ChangeLogs.{copied_is, nothing_inserted_is}
use Rattle.textarea_document.proofs.document.changes.inserted_lines.Goals as goal

pub returns-then-inserts : goal.returns-then-inserts
returns-then-inserts c =
    copied_is c.copied_lines.result c.args.change.now (sym c.inserts.ensures ∙ c.if-inserts.true) c.copied_lines.ensures.some c.copied_lines.ensures.text

pub returns-else-inserts : goal.returns-else-inserts
returns-else-inserts c =
    IfOk-weaker c.copy_fragment.result _ _
    (λ copy is. nothing_inserted_is c.args.change.now (lines_of copy.items) (sym c.inserts.ensures ∙ c.if-inserts.false)
    (is ∙ ap (λ (line : List ℕ). line ∷ []) (ap chars c.new.ensures.bytes ∙ chars-nil)))
    c.copy_fragment.ensures.same
