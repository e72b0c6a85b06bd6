use Rattle.std.proofs.lemmas.Grind.{common_steps}
use Rattle.std.proofs.Common.{◌≡◌, ◌-◌, None, Some, option_map, sym, ap, ◌∙◌, arith, rules}
use Rattle.regex.specs.Patterns.{span, find_str}
use Rattle.regex.specs.Strings.{matcher_pattern, match_span}
use Rattle.textarea_search.proofs.ListedLemmas.{next_same_span, next_later_span, first_of_rest, starts_after, forth_of_start}
use Rattle.textarea_search.proofs.search.listed.next_listed.Goals as goal

pub returns-in_err-found-clause-found : goal.returns-in_err-found-clause-found
returns-in_err-found-clause-found c =
    let tree = matcher_pattern c.args.matcher.now in
    let line = c.args.line.now in
    let back : c.saturating_sub.result ≡ c.args.after - 1 = omega (arith, c.saturating_sub.ensures) in
    let nothing : c.from_residual.result ≡ None = search rules in
    let found = c.in_err-found.ensures.found ∙ ap (λ n. option_map span (find_str tree line n)) back in
    first_of_rest tree line c.args.after c.from_residual.result
    (ap (option_map match_span) nothing ∙ next_same_span tree line c.args.after None found tt)

pub returns-then-end-after-clause-found : goal.returns-then-end-after-clause-found
returns-then-end-after-clause-found c =
    let tree = matcher_pattern c.args.matcher.now in
    let line = c.args.line.now in
    let back : c.saturating_sub.result ≡ c.args.after - 1 = omega (arith, c.saturating_sub.ensures) in
    let was = match_span c.in_ok-found.found in
    let first = sym (c.in_ok-found.ensures.found ∙ ap (λ n. option_map span (find_str tree line n)) back) in
    first_of_rest tree line c.args.after c.find_at-then-end-after.result
    (next_later_span tree line c.args.after _ was first (omega arith)
    (c.find_at-then-end-after.ensures.found ∙ ap (λ p. option_map span (find_str p line c.args.after)) c.in_ok-found.ensures.same))

pub returns-then-end-after-clause-forth : goal.returns-then-end-after-clause-forth
returns-then-end-after-clause-forth c =
    grind (
      arith,
      common_steps,
      forth_of_start c.args.after c.find_at-then-end-after.result (starts_after _ c.args.line.now c.args.after c.find_at-then-end-after.result c.find_at-then-end-after.ensures.found),
      starts_after _ c.args.line.now c.args.after c.find_at-then-end-after.result c.find_at-then-end-after.ensures.found,
    )

pub returns-clause-found : goal.returns-clause-found
returns-clause-found c =
    let tree = matcher_pattern c.args.matcher.now in
    let line = c.args.line.now in
    let back : c.saturating_sub.result ≡ c.args.after - 1 = omega (arith, c.saturating_sub.ensures) in
    let found = c.in_ok-found.ensures.found ∙ ap (λ n. option_map span (find_str tree line n)) back in
    first_of_rest tree line c.args.after (Some c.in_ok-found.found) (next_same_span tree line c.args.after (Some (match_span c.in_ok-found.found)) found (omega arith))

pub returns-clause-forth : goal.returns-clause-forth
returns-clause-forth c =
    grind (arith, common_steps, starts_after _ c.args.line.now c.saturating_sub.result (Some c.in_ok-found.found) c.in_ok-found.ensures.found)
