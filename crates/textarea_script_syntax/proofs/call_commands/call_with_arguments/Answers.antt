use Rattle.std.proofs.Common.{rules, ◌≡◌, None, Some, sym}
use Rattle.std.specs.List.{AllByRecursion}
use Rattle.textarea_script_syntax.specs.CallCommands.{bare_commands, call_meaning, commands_with_arguments}
use Rattle.textarea_script_syntax.specs.Meaning.{meaning_by}
use Rattle.textarea_script_syntax.proofs.Tables.{MeansNothing, none_after}
use Rattle.textarea_script_syntax.proofs.call_commands.call_with_arguments.Goals as goal

pub returns-in_default-clause-means : goal.returns-in_default-clause-means
unfolding call_meaning
returns-in_default-clause-means c =
    let name = c.args.name.now in
    let unfound : meaning_by commands_with_arguments name (Some c.args.arguments.now) ≡ None = search rules in
    let nothing : AllByRecursion (MeansNothing (Some c.args.arguments.now)) bare_commands = search rules in
    sym (none_after (Some c.args.arguments.now) commands_with_arguments bare_commands name unfound nothing)
