-- How the changes in a document's log lead from one text to another.
use Rattle.std.specs.Prelude.{◌≡◌, List, [], IfNone, IfSome}
use Rattle.textarea_document.specs.Changes.{ChangeView, changed_by_all, with_more}
use Rattle.textarea_document.specs.DocumentState.{DocumentState}

-- The log of the new document has that of the old one, and after it more changes, which lead from
-- the old text to the new one. If no changes are kept, there are none.
pub record ChangesLead (old new : DocumentState) : Type 0 where
  pub more : List ChangeView
  pub changes : new.changes ≡ with_more old.changes more
  pub leads : IfSome old.changes.unit (λ unit. changed_by_all unit old.text more ≡ new.text)
  pub none : IfNone old.changes.unit (more ≡ [])
