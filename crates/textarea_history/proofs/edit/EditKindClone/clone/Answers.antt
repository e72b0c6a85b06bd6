use Rattle.std.proofs.Common.{subst, sym}
use Rattle.textarea_text.proofs.Copies.{lines_copied}
use Rattle.textarea_history.specs.Prelude.{IsCopyOfKind, InsertChunk, DeleteChunk}
use Rattle.textarea_history.proofs.edit.EditKindClone.clone.Goals as goal

pub returns-in_ok-clone-in-InsertChunk : goal.returns-in_ok-clone-in-InsertChunk
returns-in_ok-clone-in-InsertChunk c =
    let copy = c.in_ok-clone-in-InsertChunk.field-0 in
    let same = lines_copied c.in-InsertChunk.lines.items copy.items c.in_ok-clone-in-InsertChunk.ensures.cases.0 in
    record { cases = subst (λ kind. IsCopyOfKind kind (InsertChunk copy)) (sym c.in-InsertChunk.is) same }

pub returns-in_ok-clone-in-DeleteChunk : goal.returns-in_ok-clone-in-DeleteChunk
returns-in_ok-clone-in-DeleteChunk c =
    let copy = c.in_ok-clone-in-DeleteChunk.field-0 in
    let same = lines_copied c.in-DeleteChunk.lines.items copy.items c.in_ok-clone-in-DeleteChunk.ensures.cases.0 in
    record { cases = subst (λ kind. IsCopyOfKind kind (DeleteChunk copy)) (sym c.in-DeleteChunk.is) same }
