use Rattle.std.proofs.Common.{refl, sym}
use Rattle.std.proofs.lemmas.Option.{IfSome_then}
use Rattle.regex.specs.Strings.{matcher_pattern}
use Rattle.textarea_search.proofs.FromMatchLemmas.{first_from_start}
use Rattle.textarea_search.proofs.search.listed_match.first_from.Goals as goal

pub loop-found-init : goal.loop-found-init
loop-found-init c = (
  refl,
  IfSome_then c.args.before c.requires.listed (λ found one. one.place),
  sym (first_from_start (matcher_pattern c.args.matcher.now) c.args.line.now c.utf8.line c.args.column c.args.at_column c.args.before c.requires.listed c.requires.earlier),
)
