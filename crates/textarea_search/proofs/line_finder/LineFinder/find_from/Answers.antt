use Rattle.std.proofs.Common.{◌≡◌, ◌+◌, IsUtf8, None, Some, rules, subst, sym}
use Rattle.memchr.specs.Find.{FindsNeedle}
use Rattle.textarea_search.proofs.OccurrenceLemmas.{boundary_in_rest, found_from}
use Rattle.textarea_search.proofs.line_finder.LineFinder.find_from.Goals as goal

pub returns-in_err-found-clause-found : goal.returns-in_err-found-clause-found
returns-in_err-found-clause-found c =
    let nothing : c.from_residual.result ≡ None = search rules in
    subst (FindsNeedle c.args.line.now c.args.self.now c.args.from) (sym nothing)
    (found_from c.args.line.now c.as_bytes.result.now c.args.self.now c.self.inside.finder c.args.from None c.as_bytes.ensures.value c.self.view_is c.requires c.in_err-found.ensures)

pub returns-clause-found : goal.returns-clause-found
returns-clause-found c =
    found_from c.args.line.now c.as_bytes.result.now c.args.self.now c.self.inside.finder c.args.from (Some c.in_ok-found.found) c.as_bytes.ensures.value c.self.view_is c.requires c.in_ok-found.ensures

pub returns-clause-boundary : goal.returns-clause-boundary
returns-clause-boundary c =
    boundary_in_rest c.args.line.now c.args.self.now c.args.from (Some (c.args.from + c.in_ok-found.found)) (subst IsUtf8 c.self.view_is c.self.invariant.1)
    (found_from c.args.line.now c.as_bytes.result.now c.args.self.now c.self.inside.finder c.args.from (Some c.in_ok-found.found) c.as_bytes.ensures.value c.self.view_is c.requires c.in_ok-found.ensures)
