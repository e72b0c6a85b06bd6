use Rattle.std.proofs.Common.{rules}
use Rattle.textarea_text.specs.Prelude.{chars, lines_of, fragment_symbols}
use Rattle.textarea_text.proofs.FragmentLemmas.{fragment_more, fragment_done}
use Rattle.textarea_text.proofs.fragment.fragment_of.Goals as goal

pub loop-line-preserved : goal.loop-line-preserved
loop-line-preserved c = (
  search rules,
  fragment_more (lines_of c.loop-line.fragment_lines.items) _ (chars c.loop-line.rest.now) (chars c.in-Some.line.now) (chars c.in-Some.after.now)
      (fragment_symbols (chars c.args.text.now)) c.loop-line.invariant.1 c.in-Some.ensures.lines c.in_ok-push_line.ensures.rows,
)

pub returns-clause-text : goal.returns-clause-text
returns-clause-text c =
    search (rules, fragment_done (lines_of c.loop-line.fragment_lines.items) (chars c.loop-line.rest.now) (fragment_symbols (chars c.args.text.now)) c.loop-line.invariant.1 c.in_default.ensures.lines)
