use Rattle.std.proofs.Common.{◌≡◌, ◌∙◌, ◌∷◌, [], false, subst}
use Rattle.textarea_document.specs.Prelude.{symbol_in, IsSymbolBefore, TakesWhole}
use Rattle.textarea_document.proofs.SymbolAfters.{removal_of_kind}
use Rattle.textarea_document.proofs.Ranges.{before_by}
use Rattle.textarea_document.proofs.document.Document.remove_symbol_before.Goals as goal
use Rattle.textarea_document.proofs.document.Document.remove_symbol_before.Goals.{After-between}

-- the symbol before the cursor
occurs : (c : After-between) → IsSymbolBefore c.args.self.now.text c.args.self.now.cursor c.in-Some.before.start (symbol_in c.in-Some.before.character)
occurs c = rw (← c.lines.ensures.value, ← c.cursor-cursor.ensures.value) c.in-Some.ensures

-- the splice of the edit is its removal
removes : (c : After-between) → c.between.result.splice ≡ record { place = c.in-Some.before.start; symbols = symbol_in c.in-Some.before.character ∷ []; inserts = false }
removes c =
    c.between.ensures.splice ∙ removal_of_kind c.deletion_of-kind.result c.cursor-cursor.result c.in-Some.before.start (symbol_in c.in-Some.before.character ∷ []) c.deletion_of-kind.ensures.inserts c.deletion_of-kind.ensures.symbols

pub edit-requires-clause-splits_none : goal.edit-requires-clause-splits_none
edit-requires-clause-splits_none c =
    let document = c.args.self.now in
    let before = c.in-Some.before in
    let made = (goal.at.edit-requires-clause-splits_none c).After-between in
    let known = occurs made in
    rw (removes made)
    (subst (TakesWhole document.ranges before.start) known.ends
    (before_by document.text document.ranges document.cursor before.start (symbol_in before.character) c.lines.ensures.ranges c.requires.none_at_place known.is_place known.occurs known.ends))
