use Rattle.std.proofs.Common.{rules, ◌≡◌, None, sym}
use Rattle.std.specs.List.{AllByRecursion}
use Rattle.textarea_script_syntax.specs.CallCommands.{bare_commands, call_commands, commands_with_arguments}
use Rattle.textarea_script_syntax.specs.Commands.{other_commands, plain_meaning}
use Rattle.textarea_script_syntax.specs.Meaning.{meaning_by}
use Rattle.textarea_script_syntax.proofs.Tables.{IsNeverBare, none_bare}
use Rattle.textarea_script_syntax.proofs.call_commands.call_without_arguments.Goals as goal

-- src/call_commands.rt:17:1
pub returns-in_default-clause-means : goal.returns-in_default-clause-means
unfolding plain_meaning
returns-in_default-clause-means c =
    let none : meaning_by bare_commands c.args.name.now None ≡ None = search rules in
    let never : AllByRecursion IsNeverBare commands_with_arguments = search rules in
    let others : AllByRecursion IsNeverBare other_commands = search rules in
    sym (none_bare other_commands call_commands c.args.name.now others (none_bare commands_with_arguments bare_commands c.args.name.now never none))
