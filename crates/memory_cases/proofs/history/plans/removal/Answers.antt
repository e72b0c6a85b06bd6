use Rattle.std.proofs.Common.{◌≢◌, ◌∙◌, rules}
use Rattle.textarea_text.specs.Text.{text_of}
use Rattle.textarea_text.proofs.Befores.{text_place}
use Rattle.memory_cases.proofs.Edits.{ordered_ahead, ready_between}
use Rattle.memory_cases.proofs.history.plans.removal.Goals as goal

pub between-requires-clause-ordered : goal.between-requires-clause-ordered
between-requires-clause-ordered c = ordered_ahead (text_of c.args.lines.now) c.in-Some.after c.ahead-before.result c.args.count c.in-Some.ensures.text c.ahead-before.ensures.index

pub returns : goal.returns
returns c =
    let text = text_of c.args.lines.now in
    let after = c.in-Some.after in
    let before = c.ahead-before.result in
    let apart : before ≢ after = search rules in
    ready_between text c.kind_of.result before after c.kind_of.ensures.inserts (c.kind_of.ensures.symbols ∙ c.in_ok-fragment_lines.ensures.text) c.kind_of.ensures.fragment_lines c.in-Some.ensures.text
    (text_place c.args.lines.now before c.ahead-before.ensures.is_place)
    (ordered_ahead text after before c.args.count c.in-Some.ensures.text c.ahead-before.ensures.index) apart
