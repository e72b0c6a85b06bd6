use Rattle.std.proofs.Common.{◌≡◌, ◌∙◌, ◌+◌, ◌-◌, ◌∷◌, ap, arith, subst, drop, length, List, ℕ}
use Rattle.std.specs.Str.{chars}
use Rattle.textarea_text.proofs.Befores.{character_before, break_before}
use Rattle.textarea_text.proofs.rows.symbol_before.Goals as goal

pub returns-then-column-gt0 : goal.returns-then-column-gt0
returns-then-column-gt0 c =
    let column = c.args.place.1 - 1 in
    character_before c.args.lines.now c.args.place c.index-lines-row.result c.character_before.result c.requires.place c.if-column-gt0.true c.index-lines-row.is
    (subst (λ (t : List ℕ). drop column (chars t) ≡ c.character_before.result ∷ drop (column + 1) (chars t)) c.as_str.ensures.value c.character_before.ensures)

pub returns : goal.returns
returns c =
    break_before c.args.lines.now c.args.place c.index-lines-above.result c.column_count.result c.requires.place (omega arith) (omega arith) c.index-lines-above.is
    (c.column_count.ensures ∙ ap (λ (t : List ℕ). length (chars t)) c.as_str-line.ensures.value)
