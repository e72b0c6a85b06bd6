use Rattle.std.proofs.Common.{◌≡◌, ◌+◌, ◌≤◌, None, Some, length, map, drop, sym, ap, ◌∙◌, arith, string_bytes}
use Rattle.std.specs.List.{slice_get}
use Rattle.std.specs.Str.{chars}
use Rattle.regex.specs.Strings.{matcher_pattern}
use Rattle.textarea_search.specs.Spans.{columns_in}
use Rattle.textarea_search.specs.Starts.{starts_from}
use Rattle.textarea_search.proofs.StartLemmas.{first_start_here, first_start_next}
use Rattle.textarea_search.proofs.PlaceLemmas.{place_here}
use Rattle.textarea_search.proofs.search.lines.first_start.Goals as goal

pub loop-i-preserved : goal.loop-i-preserved
loop-i-preserved c =
    let columns = columns_in (matcher_pattern c.args.matcher.now) in
    let line = c.index-lines-i.result in
    let i = c.loop-i.i in
    let none : slice_get (columns (string_bytes line)) 0 ≡ None =
    rw (← c.deref.ensures, ← c.loop-i.invariant.0) (sym c.in_default.ensures.found) in
    let same : c.args.first_row + i + 1 ≡ c.args.first_row + (i + 1) = omega arith in (
      c.in_default.ensures.same ∙ c.loop-i.invariant.0,
      c.loop-i.invariant.1
          ∙ ap (λ ys. slice_get ys 0) (first_start_next columns (c.args.first_row + i) c.args.lines.now i line (omega arith) c.index-lines-i.is none)
          ∙ ap (λ n. slice_get (starts_from columns n (drop (i + 1) (map string_bytes c.args.lines.now))) 0) same,
    )

pub returns-in-Some-clause-found : goal.returns-in-Some-clause-found
returns-in-Some-clause-found c =
    let columns = columns_in (matcher_pattern c.args.matcher.now) in
    let line = c.index-lines-i.result in
    let i = c.loop-i.i in
    let some : slice_get (columns (string_bytes line)) 0 ≡ Some c.in-Some.column =
    rw (← c.deref.ensures, ← c.loop-i.invariant.0) (sym c.in-Some.ensures.found) in
    sym (c.loop-i.invariant.1 ∙ first_start_here columns (c.args.first_row + i) c.args.lines.now i line (omega arith) c.index-lines-i.is c.in-Some.column some)

pub returns-in-Some-clause-within : goal.returns-in-Some-clause-within
returns-in-Some-clause-within c =
    let line = c.index-lines-i.result in
    let fits : c.in-Some.column ≤ length (chars (string_bytes line)) = rw (← c.deref.ensures) c.in-Some.ensures.within in
    place_here c.args.lines.now c.args.first_row c.loop-i.i c.in-Some.column line (omega arith) c.index-lines-i.is fits
