use Rattle.std.proofs.Common.{◌≡◌, ◌∙◌, ◌∷◌, [], ap, false, subst}
use Rattle.textarea_document.specs.Prelude.{as_nanos, symbol_in, IsPlace, Splice, TakesWhole, after_edit}
use Rattle.textarea_document.proofs.SymbolAfters.{removal_of_kind, symbol_removed_after_is}
use Rattle.textarea_document.proofs.Ranges.{whole_after}
use Rattle.textarea_document.proofs.document.Document.remove_symbol_after.Goals as goal
use Rattle.textarea_document.proofs.document.Document.remove_symbol_after.Goals.{After-between}

-- the splice of the edit is the symbol's removal
removes : (c : After-between) → c.between.result.splice ≡ record { place = c.args.self.now.cursor; symbols = symbol_in c.in-Some.after.character ∷ []; inserts = false }
removes c =
    rw (← c.cursor-cursor.ensures.value)
    (c.between.ensures.splice ∙ removal_of_kind c.deletion_of-kind.result c.in-Some.after.end c.cursor-cursor.result (symbol_in c.in-Some.after.character ∷ []) c.deletion_of-kind.ensures.inserts c.deletion_of-kind.ensures.symbols)

pub edit-requires-clause-splits_none : goal.edit-requires-clause-splits_none
edit-requires-clause-splits_none c =
    let document = c.args.self.now in
    let found = c.in-Some.after in
    let ends = c.in-Some.ensures.symbol.ends in
    rw (removes (goal.at.edit-requires-clause-splits_none c).After-between)
    (subst (TakesWhole document.ranges document.cursor) ends (whole_after document.ranges document.cursor found.end (symbol_in found.character) c.requires.none_at_place ends))

pub returns-clause-ok : goal.returns-clause-ok
returns-clause-ok c =
    let document = c.args.self.now in
    let found = c.in-Some.after in
    c.in_ok-edit.ensures.ok
    ∙ ap (λ (s : Splice). after_edit document s c.args.typed (as_nanos c.args.now)) (removes (goal.at.returns-clause-ok c).After-between)
    ∙ symbol_removed_after_is document found.end (symbol_in found.character) c.args.typed (as_nanos c.args.now) (subst (IsPlace document.text) c.cursor-cursor.ensures.value c.cursor-cursor.ensures.place) c.in-Some.ensures.symbol
