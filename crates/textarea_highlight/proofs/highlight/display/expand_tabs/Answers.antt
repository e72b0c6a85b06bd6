use Rattle.std.proofs.Common.{◌++◌, length, string_bytes, encode_utf8_all, arith, sym, ap, ◌∙◌}
use Rattle.std.specs.Str.{chars}
use Rattle.std.proofs.lemmas.Iterator.{YieldsList-from_chars}
use Rattle.std.proofs.lemmas.Iterator.Consumers.{YieldsList-turn, YieldsList-end}
use Rattle.std.proofs.lemmas.List.{length_push, drop_all, append-nil}
use Rattle.textarea_highlight.specs.Display.{with_spaces}
use Rattle.textarea_highlight.proofs.DisplayLemmas.{expanded_more}
use Rattle.textarea_highlight.proofs.highlight.display.expand_tabs.Goals as goal

pub loop-c-preserved : goal.loop-c-preserved
loop-c-preserved c =
    let t = YieldsList-turn (YieldsList-from_chars c.args.segment.now c.utf8.segment cc) c.loop-c.yielded _ c.loop-c.yielded_by _ _ c.in-Some.c c.in-Some.is c.next.ensures.steps in
    let n = length_push c.loop-c.yielded c.in-Some.c in (
      rw (n, c.column_after-next.ensures.value)
          (expanded_more c.args.tab_len c.loop-c.at (chars c.args.segment.now) (length c.loop-c.yielded) c.in-Some.c t _ _ c.in_ok-push_display.ensures ∙ c.loop-c.invariant.0),
      omega (arith, c.loop-c.invariant.1, c.column_after-next.ensures.near, n),
    )

pub returns : goal.returns
returns c =
    let t = YieldsList-end (YieldsList-from_chars c.args.segment.now c.utf8.segment cc) c.loop-c.yielded _ c.loop-c.yielded_by _ _ c.in-None.is c.next.ensures.steps in
    let none = drop_all (length c.loop-c.yielded) (chars c.args.segment.now) (omega (arith, t.1)) in
    sym (append-nil (string_bytes c.loop-c.expanded))
    ∙ sym (ap (λ ys. string_bytes c.loop-c.expanded ++ encode_utf8_all (with_spaces c.args.tab_len c.loop-c.at ys)) none)
    ∙ c.loop-c.invariant.0
