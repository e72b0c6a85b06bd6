use Rattle.std.proofs.Common.{◌≡◌, List, Option, None, Some, length, option_map, subst, arith}
use Rattle.std.proofs.lemmas.Bool.Decides.{nat_tests}
use Rattle.textarea_document.specs.Prelude.{IfSome, MatchOption, Symbol, symbol_in, Place, IsPlace, index_of, IsSymbolAfter, next_place}
use Rattle.textarea_document.specs.declared.document.next_symbol.SymbolAfter.{SymbolAfter}
use Rattle.textarea_document.proofs.Steps.{next_place-after}
use Rattle.textarea_document.proofs.document.Document.symbol_after_cursor.Goals as goal

end_is : (text : List Symbol) (place : Place) (found : Option SymbolAfter) → IsPlace text place →
    MatchOption found (index_of text place ≡ length text) (λ after. IsSymbolAfter text place after.end (symbol_in after.character)) →
    (option_map (λ (after : SymbolAfter). after.end) found ≡ next_place text place) × IfSome found (λ after. IsPlace text after.end)
end_is text place None h k = (grind (arith, nat_tests), tt)
end_is text place (Some after) h k = next_place-after text place after.end (symbol_in after.character) h k

known : (c : goal.After-symbol_after) →
    (option_map (λ (after : SymbolAfter). after.end) c.symbol_after.result ≡ next_place c.args.self.now.text c.args.self.now.cursor) × IfSome c.symbol_after.result
    (λ after. IsPlace c.args.self.now.text after.end)
known c =
    end_is c.args.self.now.text c.args.self.now.cursor c.symbol_after.result (subst (IsPlace c.args.self.now.text) c.cursor-cursor.ensures.value c.cursor-cursor.ensures.place)
    (rw (← c.lines.ensures.value, ← c.cursor-cursor.ensures.value) c.symbol_after.ensures)

pub returns-clause-next : goal.returns-clause-next
returns-clause-next c = (known c).0

pub returns-clause-place : goal.returns-clause-place
returns-clause-place c = (known c).1
