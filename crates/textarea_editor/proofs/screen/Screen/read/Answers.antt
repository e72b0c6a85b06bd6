use Rattle.std.proofs.Common.{◌∙◌, ◌||◌, Bool, List, ap, sym}
use Rattle.std.proofs.Math.Bool.{or-false, or-true}
use Rattle.std.specs.List.{list_any}
use Rattle.textarea_editor.proofs.Frames.{added_alone, screen_of, state_read}
use Rattle.textarea_editor.proofs.screen.Screen.read.Goals as goal
use Rattle.textarea_editor.proofs.screen.Screen.read.Goals.{else-any_reports_size, then-any_reports_size}
use Rattle.textarea_editor.specs.TerminalScreen.{ScreenState, pause_of, reports_size, screen_read}
use Rattle.textarea_terminal.specs.InputEvent.{value_of}
use Rattle.textarea_terminal.specs.declared.input.event.Event.{Event}

pub returns-clause-state : goal.returns-clause-state
returns-clause-state c =
    let old = c.self.inside in
    let found = c.any_reports_size.result in
    let values = added_alone _ _ _ c.new-events.ensures.items c.in_ok-decode.ensures.events in
    let is = c.any_reports_size.ensures ∙ ap (λ (events : List Event). list_any (λ (event : Event). reports_size (value_of event)) events) c.as_slice.ensures.value in
    let all =
    state_read (screen_of old.decoder old.painter old.is_stale) c.args.bytes.now (pause_of c.args.waited) c.decode.new.decoder c.decode.new.events.items found c.in_ok-decode.ensures.state values is
    ∙ ap (λ (screen : ScreenState). screen_read screen c.args.bytes.now (pause_of c.args.waited)) c.self.view_is in
    elim c.if-any_reports_size.branch [
      | then-any_reports_size w ↦
          w.self-is ∙ w.forget.ensures
          ∙ ap (λ (s : Bool). screen_of c.decode.new.decoder old.painter s) (sym (or-true old.is_stale) ∙ ap (λ (b : Bool). old.is_stale || b) (sym w.if-any_reports_size.true))
          ∙ all
      | else-any_reports_size w ↦
          w.self-is ∙ ap (λ (s : Bool). screen_of c.decode.new.decoder old.painter s) (sym (or-false old.is_stale) ∙ ap (λ (b : Bool). old.is_stale || b) (sym w.if-any_reports_size.false))
          ∙ all
    ]
