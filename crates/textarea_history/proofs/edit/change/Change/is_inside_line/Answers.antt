use Rattle.std.proofs.Common.{ap, arith, eq-eqb}
use Rattle.std.proofs.lemmas.Bool.{eqb-true}
use Rattle.textarea_text.specs.Place.{Place}
use Rattle.textarea_text.proofs.Touching.{end_row}
use Rattle.textarea_history.proofs.edit.change.Change.is_inside_line.Goals as goal

pub returns : goal.returns
returns c =
    let splice = c.args.self.now in
    let begins = ap (λ (p : Place). p.0) c.start.ensures in
    let ends = ap (λ (p : Place). p.0) c.end.ensures in (
      (λ same. omega (arith, eqb-true c.start.result.0 c.end.result.0 same, begins, ends, end_row splice.place splice.symbols)),
      (λ none. eq-eqb c.start.result.0 c.end.result.0 (omega (arith, none, begins, ends, end_row splice.place splice.symbols))),
    )
