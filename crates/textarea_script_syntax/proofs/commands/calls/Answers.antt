use Rattle.std.proofs.Common.{◌+◌, All, List, map, subst, sym, take}
use Rattle.std.proofs.lemmas.List.{take_all}
use Rattle.std.proofs.lemmas.List.Elements.{All-push}
use Rattle.textarea_calls.specs.Possible.{CanBeMade}
use Rattle.textarea_script_syntax.specs.Script.{AreCallsOf}
use Rattle.textarea_calls.specs.declared.call.Call.{Call}
use Rattle.textarea_script_syntax.specs.declared.commands.Command.{Command}
use Rattle.textarea_script_syntax.proofs.Scripts.{calls_more}
use Rattle.textarea_script_syntax.proofs.commands.calls.Goals as goal

pub loop-command-preserved : goal.loop-command-preserved
loop-command-preserved c =
    let before = c.loop-command.invariant in
    let items = sym {A = List Call} c.in_ok-push.ensures.items in
    record {
      ready = subst (All CanBeMade) items (All-push CanBeMade c.loop-command.calls.items c.call.result before.ready c.call.ensures.ready);
      each = subst (λ (made : List Call). AreCallsOf (map (λ (command : Command). command.content) (take (c.loop-command.command-index + 1) c.args.commands.now)) made) items
          (calls_more c.args.commands.now c.loop-command.calls.items c.loop-command.command-index c.command-item.result c.call.result c.loop-command-test.true c.command-item.is before.each c.call.ensures.is);
    }

pub returns-clause-each : goal.returns-clause-each
returns-clause-each c =
    subst (λ (t : List Command). AreCallsOf (map (λ (command : Command). command.content) t) c.loop-command.calls.items)
    (take_all c.loop-command.command-index c.args.commands.now c.loop-command-test.false) c.loop-command.invariant.each
