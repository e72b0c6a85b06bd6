use Rattle.std.proofs.Common.{◌+◌, ◌<◌, Some, None, length, ap, arith}
use Rattle.std.proofs.lemmas.List.{length-drop}
use Rattle.std.specs.Str.{chars}
use Rattle.textarea_util.proofs.Characters.{length-chars}
use Rattle.textarea_text.proofs.WordLemmas.{later_edge-found}
use Rattle.textarea_text.proofs.word.find_edge_forward.Goals as goal

pub overflow_add-result : goal.overflow_add-result
overflow_add-result c =
    omega (arith, c.in-Some.ensures.within.1, length-drop c.args.start_column (chars c.args.line.now), ap length c.text_from.ensures, length-chars c.args.line.now c.utf8.line)

pub returns-in-Some : goal.returns-in-Some
returns-in-Some c =
    let line = chars c.args.line.now in
    let start = c.args.start_column in
    let within : start + c.in-Some.column < length line = omega (arith, c.in-Some.ensures.within.1, length-drop start line, ap length c.text_from.ensures) in
    let found = later_edge-found c.args.edge line _ start (Some c.in-Some.column) c.text_from.ensures c.in-Some.ensures.least within in
    record { least = found.least; value = found.value; within = (omega (arith, c.in-Some.ensures.within.0), within) }

pub returns-in-None : goal.returns-in-None
returns-in-None c =
    let found = later_edge-found c.args.edge (chars c.args.line.now) _ c.args.start_column None c.text_from.ensures c.in-None.ensures.least tt in
    record { least = found.least; value = found.value; within = tt }
