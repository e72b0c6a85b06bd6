use Rattle.std.proofs.Common.{All, map, take}
use Rattle.textarea_calls.specs.Possible.{CanBeMade}
use Rattle.textarea_script_syntax.specs.Script.{AreCallsOf}
use Rattle.textarea_script_syntax.specs.declared.commands.Command.{Command}
use Rattle.textarea_script_syntax.proofs.commands.calls.Given as goal

abbrev pub invariant-loop-command : goal.invariant-loop-command
invariant-loop-command l = record {
  ready : All CanBeMade l.calls.items;
  each : AreCallsOf (map (λ (command : Command). command.content) (take l.command-index l.commands)) l.calls.items;
}
