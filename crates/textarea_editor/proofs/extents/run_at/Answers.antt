use Rattle.std.proofs.Common.{◌≡◌, ◌∙◌, ◌+◌, ℕ, ap, arith, length, sym}
use Rattle.std.proofs.lemmas.Iterator.{YieldsList-from_chars}
use Rattle.std.proofs.lemmas.Iterator.Consumers.{YieldsList-end, YieldsList-turn}
use Rattle.std.proofs.lemmas.List.{length_push}
use Rattle.std.specs.Str.{chars}
use Rattle.textarea_editor.proofs.Runs.{IsRunSoFar, is_no_other, is_other, next_class, run_found, run_goes_on, run_turns}
use Rattle.textarea_editor.proofs.extents.run_at.Goals as goal
use Rattle.textarea_editor.proofs.extents.run_at.Goals.{then-differs+else-column-count, else-differs}

pub loop-c-preserved : goal.loop-c-preserved
loop-c-preserved c =
    let line = chars c.args.line.now in
    let t = YieldsList-turn (YieldsList-from_chars c.args.line.now c.utf8.line cc) c.loop-c.yielded _ c.loop-c.yielded_by _ _ c.in-Some.c c.in-Some.is c.next.ensures.steps in
    let here = next_class line (length c.loop-c.yielded) c.loop-c.count c.in-Some.c c.new-kind.result c.loop-c.invariant.count t.0 t.1 c.new-kind.ensures in
    let run : IsRunSoFar line c.args.column (c.loop-c.count + 1) c.if-differs.first c.if-differs.class =
    elim c.if-differs.branch [
      | then-differs+else-column-count w ↦
          rw (w.first-is, w.class-is)
          (run_turns line c.args.column c.loop-c.count c.loop-c.first c.loop-c.class c.new-kind.result c.loop-c.invariant.run here
          (is_other c.new-kind.result c.loop-c.class c.differs.result c.differs.ensures w.if-differs.true) w.if-column-count.false)
      | else-differs w ↦
          rw (w.first-is, w.class-is)
          (run_goes_on line c.args.column c.loop-c.count c.loop-c.first c.loop-c.class c.loop-c.invariant.run
          (here ∙ is_no_other c.new-kind.result c.loop-c.class c.differs.result c.differs.ensures w.if-differs.false))
    ] in
    record {
      count = ap (λ (n : ℕ). n + 1) c.loop-c.invariant.count ∙ sym (length_push c.loop-c.yielded c.in-Some.c);
      run = run;
    }

pub returns-then-column-count : goal.returns-then-column-count
returns-then-column-count c =
    let line = chars c.args.line.now in
    let t = YieldsList-turn (YieldsList-from_chars c.args.line.now c.utf8.line cc) c.loop-c.yielded _ c.loop-c.yielded_by _ _ c.in-Some.c c.in-Some.is c.next.ensures.steps in
    let here = next_class line (length c.loop-c.yielded) c.loop-c.count c.in-Some.c c.new-kind.result c.loop-c.invariant.count t.0 t.1 c.new-kind.ensures in
    run_found line c.args.column c.loop-c.count c.loop-c.first c.loop-c.class c.loop-c.invariant.run c.if-column-count.true (omega (arith, t.0, c.loop-c.invariant.count))
    (λ more same. is_other c.new-kind.result c.loop-c.class c.differs.result c.differs.ensures c.if-differs.true (sym here ∙ same))

pub returns-then-count-column : goal.returns-then-count-column
returns-then-count-column c =
    let t = YieldsList-end (YieldsList-from_chars c.args.line.now c.utf8.line cc) c.loop-c.yielded _ c.loop-c.yielded_by _ _ c.in-None.is c.next.ensures.steps in
    omega (arith, t.1, c.loop-c.invariant.count, c.if-count-column.true)

pub returns : goal.returns
returns c =
    let line = chars c.args.line.now in
    let t = YieldsList-end (YieldsList-from_chars c.args.line.now c.utf8.line cc) c.loop-c.yielded _ c.loop-c.yielded_by _ _ c.in-None.is c.next.ensures.steps in
    let whole : c.loop-c.count ≡ length line = c.loop-c.invariant.count ∙ t.1 in
    run_found line c.args.column c.loop-c.count c.loop-c.first c.loop-c.class c.loop-c.invariant.run (omega (arith, c.if-count-column.false)) (omega (arith, whole))
    (λ more. absurd (more whole))
