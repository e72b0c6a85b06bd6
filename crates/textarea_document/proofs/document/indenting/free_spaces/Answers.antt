use Rattle.std.proofs.Common.{◌≡◌, ◌∙◌, ◌+◌, ◌++◌, ◌∷◌, [], ap, arith, get_or, length, sym, take}
use Rattle.std.proofs.lemmas.Iterator.{YieldsList-from_chars, YieldsList-from_take}
use Rattle.std.proofs.lemmas.Iterator.Consumers.{YieldsList-end, YieldsList-turn}
use Rattle.std.proofs.lemmas.List.{length-append}
use Rattle.textarea_document.specs.Prelude.{chars}
use Rattle.textarea_document.specs.Indenting.{free_spaces, is_free_space}
use Rattle.textarea_document.proofs.Indenting.{space_more, space_none, spaces_done}
use Rattle.textarea_document.proofs.document.indenting.free_spaces.Goals as goal

pub returns-then-not-is_free_space-clause-value : goal.returns-then-not-is_free_space-clause-value
returns-then-not-is_free_space-clause-value c =
    let line = take c.args.tab_length (chars c.args.line.now) in
    let ranges = c.args.ranges.now in
    let row = c.args.row in
    let count = c.loop-c.count in
    let walk = YieldsList-from_take c.args.tab_length (YieldsList-from_chars c.args.line.now c.utf8.line cc) cc in
    let t = YieldsList-turn walk c.loop-c.yielded _ c.loop-c.yielded_by _ _ c.in-Some.c c.in-Some.is c.next.ensures.steps in
    let counted : length c.loop-c.yielded ≡ count = sym c.loop-c.invariant.0 in
    space_none ranges row count c.in-Some.c (free_spaces ranges row 0 line) line (omega (arith, t.0, counted)) (t.1 ∙ ap (λ i. get_or line i c.in-Some.c) counted)
    (sym c.is_free_space.ensures ∙ c.if-not-is_free_space.true) c.loop-c.invariant.1

pub loop-c-preserved : goal.loop-c-preserved
loop-c-preserved c =
    let line = take c.args.tab_length (chars c.args.line.now) in
    let ranges = c.args.ranges.now in
    let row = c.args.row in
    let count = c.loop-c.count in
    let walk = YieldsList-from_take c.args.tab_length (YieldsList-from_chars c.args.line.now c.utf8.line cc) cc in
    let t = YieldsList-turn walk c.loop-c.yielded _ c.loop-c.yielded_by _ _ c.in-Some.c c.in-Some.is c.next.ensures.steps in
    let counted : length c.loop-c.yielded ≡ count = sym c.loop-c.invariant.0 in (
      omega (arith, counted, length-append c.loop-c.yielded (c.in-Some.c ∷ [])),
      space_more ranges row count c.in-Some.c (free_spaces ranges row 0 line) line (omega (arith, t.0, counted)) (t.1 ∙ ap (λ i. get_or line i c.in-Some.c) counted)
          (sym c.is_free_space.ensures ∙ c.if-not-is_free_space.false) c.loop-c.invariant.1,
    )

pub returns-clause-value : goal.returns-clause-value
returns-clause-value c =
    let line = take c.args.tab_length (chars c.args.line.now) in
    let walk = YieldsList-from_take c.args.tab_length (YieldsList-from_chars c.args.line.now c.utf8.line cc) cc in
    let t = YieldsList-end walk c.loop-c.yielded _ c.loop-c.yielded_by _ _ c.in-None.is c.next.ensures.steps in
    spaces_done c.args.ranges.now c.args.row c.loop-c.count (free_spaces c.args.ranges.now c.args.row 0 line) line (omega (arith, t.1, c.loop-c.invariant.0)) c.loop-c.invariant.1
