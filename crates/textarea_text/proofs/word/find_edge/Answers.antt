use Rattle.std.proofs.Common.{◌≡◌, true, false, length, arith, sym, ◌∙◌}
use Rattle.textarea_text.proofs.Prelude.{YieldsList-from_chars, YieldsList-turn, YieldsList-end, YieldsList-from_enumerate, length_push, length-enumerate_from}
use Rattle.textarea_text.specs.Prelude.{chars, is_later_edge}
use Rattle.textarea_text.proofs.NearestLemmas.{failed_more, IsLeast-none}
use Rattle.textarea_text.proofs.WordLemmas.{IsTurn-enumerate_from, class_before-more, is_later_edge-turn, is_later_edge-early, is_later_edge-past}
use Rattle.textarea_text.proofs.word.find_edge.Goals as goal
use Rattle.textarea_text.proofs.word.find_edge.Goals.{else-column-gt0-via-then-column-gt0+else-lies_between, else-column-gt0-via-else-column-gt0}

pub returns-then-lies_between : goal.returns-then-lies_between
returns-then-lies_between c =
    let line = chars c.args.text.now in
    let t = YieldsList-turn (YieldsList-from_enumerate (YieldsList-from_chars c.args.text.now c.utf8.text cc) cc) c.loop-column.yielded _ c.loop-column.yielded_by _ _ (c.in-Some.column, c.in-Some.c) c.in-Some.is c.next.ensures.steps in
    let turn = IsTurn-enumerate_from line (length c.loop-column.yielded) c.in-Some.column c.in-Some.c c.new-kind.result t.0 t.1 c.new-kind.ensures in
    let here = is_later_edge-turn c.args.edge line 0 _ _ _ _ true c.if-column-gt0.true turn c.loop-column.invariant.before (sym c.lies_between.ensures ∙ c.if-lies_between.true) in
    record {
      least = rw turn.column_is (here, c.loop-column.invariant.failed);
      within = (c.if-column-gt0.true, rw turn.column_is turn.within);
    }

pub loop-column-preserved : goal.loop-column-preserved
loop-column-preserved c =
    let line = chars c.args.text.now in
    let t = YieldsList-turn (YieldsList-from_enumerate (YieldsList-from_chars c.args.text.now c.utf8.text cc) cc) c.loop-column.yielded _ c.loop-column.yielded_by _ _ (c.in-Some.column, c.in-Some.c) c.in-Some.is c.next.ensures.steps in
    let turn = IsTurn-enumerate_from line (length c.loop-column.yielded) c.in-Some.column c.in-Some.c c.new-kind.result t.0 t.1 c.new-kind.ensures in
    let here : is_later_edge c.args.edge line 0 (length c.loop-column.yielded) ≡ false =
    elim c.else-column-gt0.branch [
      | else-column-gt0-via-then-column-gt0+else-lies_between w ↦
          is_later_edge-turn c.args.edge line 0 _ _ _ _ false w.if-column-gt0.true turn c.loop-column.invariant.before (sym w.lies_between.ensures ∙ w.if-lies_between.false)
      | else-column-gt0-via-else-column-gt0 w ↦ is_later_edge-early c.args.edge line 0 _ _ _ w.if-column-gt0.false turn
    ] in
    record {
      before = class_before-more line c.loop-column.yielded _ _ _ turn;
      failed = rw (length_push c.loop-column.yielded (c.in-Some.column, c.in-Some.c)) (failed_more (is_later_edge c.args.edge line 0) (length c.loop-column.yielded) c.loop-column.invariant.failed here);
    }

pub returns : goal.returns
returns c =
    let line = chars c.args.text.now in
    let t = YieldsList-end (YieldsList-from_enumerate (YieldsList-from_chars c.args.text.now c.utf8.text cc) cc) c.loop-column.yielded _ c.loop-column.yielded_by _ _ c.in-None.is c.next.ensures.steps in
    let whole : length c.loop-column.yielded ≡ length line = t.1 ∙ length-enumerate_from 0 line in
    record {
      least = IsLeast-none (is_later_edge c.args.edge line 0) (length c.loop-column.yielded) c.loop-column.invariant.failed (λ e past. is_later_edge-past c.args.edge line 0 e (omega arith));
      within = tt;
    }
