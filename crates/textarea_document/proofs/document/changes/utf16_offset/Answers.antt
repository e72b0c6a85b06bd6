use Rattle.std.proofs.Common.{◌∙◌, ◌<◌, ap, arith, length, sym, take}
use Rattle.std.proofs.lemmas.Iterator.{YieldsList-from_chars, YieldsList-from_take}
use Rattle.std.proofs.lemmas.Iterator.Consumers.{YieldsList-end, YieldsList-turn}
use Rattle.std.proofs.lemmas.List.{length-take, map-id}
use Rattle.textarea_document.specs.Prelude.{Utf16, chars, unit_count}
use Rattle.textarea_document.proofs.UnitCounts.{unit_count-bound, unit_count-push, width_bound, width_is}
use Rattle.textarea_document.proofs.document.changes.utf16_offset.Goals as goal

pub overflow_add-units : goal.overflow_add-units
overflow_add-units c =
    let line = chars c.args.line.now in
    let walk = YieldsList-from_take c.args.column (YieldsList-from_chars c.args.line.now c.utf8.line cc) cc in
    let t = YieldsList-turn walk c.loop-c.yielded _ c.loop-c.yielded_by _ _ c.in-Some.c c.in-Some.is c.next.ensures.steps in
    let some : length c.loop-c.yielded < length (take c.args.column line) = t.0 in
    let width = width_is c.in-Some.c c.len_utf16-units.result c.len_utf16-units.ensures.bmp c.len_utf16-units.ensures.surrogate_pair in
    omega (arith, some, width, width_bound c.in-Some.c, length-take c.args.column line, c.requires.bound, c.loop-c.invariant, unit_count-bound c.loop-c.yielded)

pub loop-c-preserved : goal.loop-c-preserved
loop-c-preserved c =
    omega (arith, c.loop-c.invariant, unit_count-push Utf16 c.loop-c.yielded c.in-Some.c, width_is c.in-Some.c c.len_utf16-units.result c.len_utf16-units.ensures.bmp c.len_utf16-units.ensures.surrogate_pair)

pub returns : goal.returns
returns c =
    let walk = YieldsList-from_take c.args.column (YieldsList-from_chars c.args.line.now c.utf8.line cc) cc in
    let t = YieldsList-end walk c.loop-c.yielded _ c.loop-c.yielded_by _ _ c.in-None.is c.next.ensures.steps in
    c.loop-c.invariant ∙ ap (unit_count Utf16) (sym (map-id c.loop-c.yielded) ∙ t.0)
