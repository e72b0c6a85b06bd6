use Rattle.std.proofs.Common.{◌≡◌, ◌+◌, ◌∷◌, ◌∙◌, ap, drop, length, subst, arith}
use Rattle.std.proofs.lemmas.List.{length-map}
use Rattle.textarea_document.specs.Prelude.{characters_of, lines_of}
use Rattle.textarea_text.proofs.PlaceLemmas.{is_at_end}
use Rattle.textarea_document.proofs.SymbolAfters.{break_is_after, character_is_after}
use Rattle.textarea_document.proofs.document.next_symbol.symbol_after.Goals as goal

pub returns-in-Some : goal.returns-in-Some
returns-in-Some c =
    character_is_after (lines_of c.args.lines.now) c.args.place.0 c.args.place.1 c.in-Some.c c.requires.place
    (subst (λ l. drop c.args.place.1 l ≡ c.in-Some.c ∷ drop (c.args.place.1 + 1) l) c.line_of.ensures.characters c.in-Some.ensures)

pub returns-then-row-lines : goal.returns-then-row-lines
returns-then-row-lines c =
    (is_at_end (lines_of c.args.lines.now) c.args.place.0 c.args.place.1 (omega (arith, c.if-row-lines.true, length-map c.args.lines.now characters_of)) (c.in_default.ensures ∙ ap length c.line_of.ensures.characters)).index_is

pub returns : goal.returns
returns c =
    break_is_after (lines_of c.args.lines.now) c.args.place.0 c.args.place.1 (omega (arith, c.if-row-lines.false, c.requires.place.0, length-map c.args.lines.now characters_of))
    (c.in_default.ensures ∙ ap length c.line_of.ensures.characters)
