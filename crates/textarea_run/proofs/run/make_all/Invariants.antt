use Rattle.std.proofs.Common.{◌≡◌, ◌≤◌, map, take, length, vec_len, vec_capacity}
use Rattle.tui_textarea.specs.Run.{Leads}
use Rattle.tui_textarea.specs.CallResults.{call_result}
use Rattle.textarea_run.proofs.run.make_all.Given as goal

abbrev pub invariant-loop-index : goal.invariant-loop-index
invariant-loop-index l = record {
  led : Leads l.initial.area l.initial.buffer (take l.index l.calls) (map call_result l.answers.items) l.area l.buffer;
  counted : vec_len l.answers ≡ l.index;
  room : length l.calls ≤ vec_capacity l.answers;
}
