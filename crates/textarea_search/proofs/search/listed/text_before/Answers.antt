use Rattle.std.proofs.lemmas.Grind.{common_steps}
use Rattle.std.proofs.Common.{◌≡◌, ◌∙◌, None, Some, ap, arith, length, rules, take}
use Rattle.std.specs.Str.{chars}
use Rattle.textarea_search.proofs.ColumnLemmas.{column_at_boundary}
use Rattle.textarea_search.proofs.OccurrenceLemmas.{last_column}
use Rattle.textarea_search.proofs.search.listed.text_before.Goals as goal

pub returns-in_err-start-clause-found : goal.returns-in_err-start-clause-found
returns-in_err-start-clause-found c =
    let nothing : c.from_residual.result ≡ None = search rules in
    nothing ∙ last_column c.args.finder.now c.args.line.now c.requires.utf8 c.requires.once c.utf8.line c.args.column c.byte_of.result c.args.at_column
    (record { inside = c.byte_of.ensures.inside; past = c.byte_of.ensures.past }) None c.in_err-start.ensures.found

pub returns-clause-found : goal.returns-clause-found
returns-clause-found c =
    let before : c.range.result.now ≡ take c.in_ok-start.start c.args.line.now = grind arith in
    ap Some (c.column_count.ensures ∙ ap (λ bs. length (chars bs)) before)
    ∙ last_column c.args.finder.now c.args.line.now c.requires.utf8 c.requires.once c.utf8.line c.args.column c.byte_of.result c.args.at_column
    (record { inside = c.byte_of.ensures.inside; past = c.byte_of.ensures.past }) (Some c.in_ok-start.start) c.in_ok-start.ensures.found

pub returns-clause-within : goal.returns-clause-within
returns-clause-within c = grind (arith, common_steps, column_at_boundary)
