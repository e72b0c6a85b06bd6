use Rattle.std.proofs.Common.{◌∙◌, ap}
use Rattle.tui_textarea.specs.State.{State}
use Rattle.tui_textarea.proofs.textarea.TextArea.clone_look.Goals as goal

pub returns-clause-pattern : goal.returns-clause-pattern
returns-clause-pattern c = c.search.view_is ∙ c.in_ok-search.ensures.same ∙ ap (λ (s : State). s.pattern) c.self.view_is

pub returns-clause-surround : goal.returns-clause-surround
returns-clause-surround c = c.in_ok-surround.ensures ∙ ap (λ (s : State). s.surround) c.self.view_is

pub returns-clause-drawing : goal.returns-clause-drawing
returns-clause-drawing c = c.in_ok-clone.ensures.cases ∙ ap (λ (s : State). s.drawing) c.self.view_is
