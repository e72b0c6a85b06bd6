use Rattle.std.proofs.Common.{◌∙◌, ap, rules}
use Rattle.textarea_editor.proofs.Replacing.{asked_about}
use Rattle.textarea_editor.proofs.editor.Editor.take_replacement.Goals as goal
use Rattle.tui_textarea.specs.Search.{match_count}

pub returns-clause-step : goal.returns-clause-step
returns-clause-step c =
    let asked = asked_about c.keep_replacement.new.self.controls c.args.self.now.controls c.replace_focus-self.result c.in_ok-count.count _ c.in_ok-keep_replacement.ensures.controls c.replace_focus-self.ensures
    (c.in_ok-count.ensures.count ∙ ap match_count c.area.ensures) in
    search (rules, asked)
