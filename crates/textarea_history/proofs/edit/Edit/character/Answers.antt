use Rattle.std.proofs.Common.{◌∙◌, ◌≤◌, sym, ap, arith, subst}
use Rattle.std.proofs.lemmas.List.{length-map}
use Rattle.textarea_history.specs.Prelude.{IfSome, chars, characters, characters_of, lines_of, Stored, character_of}
use Rattle.textarea_history.proofs.Runs.{only_reversed, only_lines, symbols_as, line_count_as}
use Rattle.textarea_history.proofs.edit.Edit.character.Goals as goal

pub returns-in-Typed : goal.returns-in-Typed
returns-in-Typed c =
    c.only_character-in-Typed.ensures ∙ ap (λ t. character_of (characters (chars t))) c.as_str-in-Typed.ensures.value
    ∙ sym (only_reversed c.self.inside.inserts (characters_of c.in-Typed.text))
    ∙ ap character_of (symbols_as c.self.inside.start c.self.inside.end c.self.view_is c.in-Typed.is)

pub returns-in-Lines : goal.returns-in-Lines
returns-in-Lines c =
    only_lines (lines_of c.in-Lines.field-0.items)
    (omega (arith, line_count_as c.in-Lines.is (subst (λ (s : Stored). IfSome s.fragment_lines (λ n. 2 ≤ n)) (sym c.self.view_is) c.requires.fragment_lines), length-map c.in-Lines.field-0.items characters_of))
    ∙ ap character_of (symbols_as c.self.inside.start c.self.inside.end c.self.view_is c.in-Lines.is)

pub returns-in-Shared : goal.returns-in-Shared
returns-in-Shared c =
    only_lines (lines_of c.in-Shared.field-0.value.items)
    (omega (arith, line_count_as c.in-Shared.is (subst (λ (s : Stored). IfSome s.fragment_lines (λ n. 2 ≤ n)) (sym c.self.view_is) c.requires.fragment_lines), length-map c.in-Shared.field-0.value.items characters_of))
    ∙ ap character_of (symbols_as c.self.inside.start c.self.inside.end c.self.view_is c.in-Shared.is)
