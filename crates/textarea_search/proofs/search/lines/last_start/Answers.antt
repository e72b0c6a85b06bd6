use Rattle.std.proofs.lemmas.Grind.{common_steps}
use Rattle.std.proofs.Common.{◌≡◌, ◌+◌, ◌-◌, ◌≤◌, Some, length, map, take, reverse, sym, ap, ◌∙◌, arith, string_bytes}
use Rattle.std.specs.List.{slice_get}
use Rattle.std.specs.Str.{chars}
use Rattle.regex.specs.Strings.{matcher_pattern}
use Rattle.textarea_search.specs.Spans.{columns_in}
use Rattle.textarea_search.specs.Starts.{starts_from}
use Rattle.textarea_search.proofs.StartLemmas.{last_start_here, last_start_next}
use Rattle.textarea_search.proofs.PlaceLemmas.{place_here}
use Rattle.textarea_search.proofs.search.lines.last_start.Goals as goal

pub loop-i-preserved : goal.loop-i-preserved
loop-i-preserved c = grind (arith, common_steps, last_start_next)

pub returns-in-Some-clause-found : goal.returns-in-Some-clause-found
returns-in-Some-clause-found c =
    let columns = columns_in (matcher_pattern c.args.matcher.now) in
    let line = c.index-lines-i.result in
    let i = c.loop-i.i - 1 in
    let same : i + 1 ≡ c.loop-i.i = omega (arith, c.loop-i.invariant.1) in
    let some : slice_get (reverse (columns (string_bytes line))) 0 ≡ Some c.in-Some.column =
    rw (← c.deref.ensures, ← c.loop-i.invariant.0) (sym c.in-Some.ensures.found) in
    sym (c.loop-i.invariant.2
    ∙ ap (λ n. slice_get (reverse (starts_from columns c.args.first_row (take n (map string_bytes c.args.lines.now)))) 0) (sym same)
    ∙ last_start_here columns c.args.first_row c.args.lines.now i line (omega (arith, c.loop-i.invariant.1)) c.index-lines-i.is c.in-Some.column some)

pub returns-in-Some-clause-within : goal.returns-in-Some-clause-within
returns-in-Some-clause-within c =
    let line = c.index-lines-i.result in
    let fits : c.in-Some.column ≤ length (chars (string_bytes line)) = rw (← c.deref.ensures) c.in-Some.ensures.within in
    place_here c.args.lines.now c.args.first_row (c.loop-i.i - 1) c.in-Some.column line (omega (arith, c.loop-i.invariant.1)) c.index-lines-i.is fits
