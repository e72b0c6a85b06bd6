use Rattle.std.proofs.Common.{option_map, refl, sym, ◌∙◌}
use Rattle.std.proofs.lemmas.Option.{IfSome_then}
use Rattle.regex.specs.Strings.{matcher_pattern}
use Rattle.textarea_search.specs.ListedMatches.{after_match}
use Rattle.textarea_search.specs.declared.search.listed_match.ListedMatch.{ListedMatch}
use Rattle.textarea_search.proofs.FromMatchLemmas.{last_fails, last_from_start, last_passes}
use Rattle.textarea_search.proofs.search.listed_match.last_from.Goals as goal

pub loop-found-init : goal.loop-found-init
loop-found-init c = (
  refl,
  IfSome_then c.args.before c.requires.listed (λ found one. one.place),
  sym (last_from_start (matcher_pattern c.args.matcher.now) c.args.line.now c.utf8.line c.args.column c.args.at_column c.args.before c.requires.listed c.requires.earlier),
)

pub returns-else-is_past-clause-found : goal.returns-else-is_past-clause-found
returns-else-is_past-clause-found c =
    let inv = c.loop-found.invariant in
    c.start_of-else-is_past.ensures
    ∙ sym (sym inv.2 ∙ last_fails _ _ c.args.line.now (after_match c.loop-found.last) c.in-Some.found inv.0 c.in-Some.ensures.place c.in-Some.ensures.found c.args.column c.args.at_column c.utf8.line
    (option_map (λ (known : ListedMatch). known.column) c.loop-found.last) (sym c.is_past.ensures ∙ c.if-is_past.false))

pub loop-found-preserved : goal.loop-found-preserved
loop-found-preserved c =
    let inv = c.loop-found.invariant in (
      c.in-Some.ensures.same ∙ inv.0,
      c.in-Some.ensures.place,
      sym (last_passes _ _ c.args.line.now (after_match c.loop-found.last) c.in-Some.found inv.0 c.in-Some.ensures.place c.in-Some.ensures.found c.args.column c.args.at_column
          (option_map (λ (known : ListedMatch). known.column) c.loop-found.last) (sym c.is_past.ensures ∙ c.if-is_past.true))
          ∙ inv.2,
    )
