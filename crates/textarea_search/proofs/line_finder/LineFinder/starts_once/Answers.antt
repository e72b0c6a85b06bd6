use Rattle.std.proofs.Common.{◌∙◌, sym}
use Rattle.textarea_search.proofs.OccurrenceLemmas.{starts_once_is}
use Rattle.textarea_search.proofs.line_finder.LineFinder.starts_once.Goals as goal

pub returns-in-Some-clause-once : goal.returns-in-Some-clause-once
returns-in-Some-clause-once c =
    starts_once_is c.args.self.now c.in-Some.first.now c.in-Some.rest.now c.memchr.result c.is_none.result (sym c.self.view_is ∙ sym c.needle.ensures ∙ c.in-Some.ensures.cases.0) c.memchr.ensures c.is_none.ensures
