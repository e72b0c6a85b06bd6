use Rattle.std.proofs.Common.{subst}
use Rattle.memchr.specs.Find.{FindsNeedle}
use Rattle.textarea_search.proofs.line_finder.LineFinder.find.Goals as goal

pub returns : goal.returns
returns c = subst (λ word. FindsNeedle c.args.line.now word 0 c.find.result) c.self.view_is c.find.ensures
