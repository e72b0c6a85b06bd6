use Rattle.std.proofs.Common.{◌+◌, ◌-◌, None, Some, length, map, take, drop, reverse, sym, ap, ◌∙◌, arith, string_bytes}
use Rattle.std.specs.List.{slice_get}
use Rattle.regex.specs.Strings.{matcher_pattern}
use Rattle.textarea_search.specs.Spans.{columns_in}
use Rattle.textarea_search.specs.Starts.{starts_from}
use Rattle.textarea_search.proofs.PlaceLemmas.{place_in_front, place_in_rest, place_of_some}
use Rattle.textarea_search.proofs.StartLemmas.{back_beyond, forward_beyond}
use Rattle.textarea_search.proofs.search.lines.start_beyond.Goals as goal

pub returns-in-Some-clause-found : goal.returns-in-Some-clause-found
returns-in-Some-clause-found c = λ column at none.
    sym (forward_beyond (columns_in (matcher_pattern c.args.matcher.now)) c.args.lines.now c.args.row column at (omega arith) c.args.direction (Some c.in-Some.place) c.in-Forward.is none (sym c.in-Some.ensures.found))

pub returns-in-Some-clause-within : goal.returns-in-Some-clause-within
returns-in-Some-clause-within c = place_in_rest c.args.lines.now (c.args.row + 1) c.in-Some.place (omega arith) c.in-Some.ensures.within

pub returns-in-None-clause-found : goal.returns-in-None-clause-found
returns-in-None-clause-found c = λ column at none.
    c.first_start-in-None.ensures.found ∙ ap (λ t. slice_get (starts_from (columns_in t) 0 (map string_bytes (take (c.args.row + 1) c.args.lines.now))) 0) c.in-None.ensures.same
    ∙ sym (forward_beyond (columns_in (matcher_pattern c.args.matcher.now)) c.args.lines.now c.args.row column at (omega arith) c.args.direction None c.in-Forward.is none (sym c.in-None.ensures.found))

pub returns-in-None-clause-within : goal.returns-in-None-clause-within
returns-in-None-clause-within c = place_of_some _ c.first_start-in-None.ensures.within (λ p. place_in_front c.args.lines.now (c.args.row + 1) p (omega arith))

pub returns-in-Some-last_start-clause-found : goal.returns-in-Some-last_start-clause-found
returns-in-Some-last_start-clause-found c = λ column at none.
    sym (back_beyond (columns_in (matcher_pattern c.args.matcher.now)) c.args.lines.now c.args.row column at (omega arith) c.args.direction (Some c.in-Some-last_start.place) c.in-Back.is none (sym c.in-Some-last_start.ensures.found))

pub returns-in-Some-last_start-clause-within : goal.returns-in-Some-last_start-clause-within
returns-in-Some-last_start-clause-within c = place_in_front c.args.lines.now c.args.row c.in-Some-last_start.place (omega arith) c.in-Some-last_start.ensures.within

pub returns-in-None-last_start-clause-found : goal.returns-in-None-last_start-clause-found
returns-in-None-last_start-clause-found c = λ column at none.
    c.last_start-in-None-last_start.ensures.found
    ∙ ap (λ t. slice_get (reverse (starts_from (columns_in t) c.args.row (map string_bytes (take (length c.args.lines.now - c.args.row) (drop c.args.row c.args.lines.now))))) 0) c.in-None-last_start.ensures.same
    ∙ sym (back_beyond (columns_in (matcher_pattern c.args.matcher.now)) c.args.lines.now c.args.row column at (omega arith) c.args.direction None c.in-Back.is none (sym c.in-None-last_start.ensures.found))

pub returns-in-None-last_start-clause-within : goal.returns-in-None-last_start-clause-within
returns-in-None-last_start-clause-within c = place_of_some _ c.last_start-in-None-last_start.ensures.within (λ p. place_in_rest c.args.lines.now c.args.row p (omega arith))
