-- Frames that are painted one after another are each shown.
use Rattle.std.proofs.Common.{◌≡◌, ℕ, Bool, true, false, cond, List, [], ◌∷◌, length, Option, None, Some, IfSome, sym, ap, subst, ◌∙◌}
use Rattle.textarea_terminal.specs.Paint.{PaintedFrame, ShowsKnown}
use Rattle.textarea_terminal.specs.PaintLists.{PaintedStep, ArePainted, all_controls, last_frame}
use Rattle.textarea_terminal.specs.Screen.{Terminal, run}
use Rattle.textarea_terminal.proofs.ControlLemmas.{run-append}
use Rattle.textarea_terminal.proofs.SettledLemmas.{settled-length}

-- a terminal that shows a frame has its size
known-size : (columns size : ℕ) (shown : Option PaintedFrame) (terminal : Terminal) → IfSome shown (λ frame. length frame.cells ≡ size) → ShowsKnown columns size shown terminal →
    ShowsKnown columns size None terminal
known-size columns size None terminal long known = known
known-size columns size (Some frame) terminal long known = record {
  family = known.family;
  has_columns = known.columns;
  has_size = ap length known.cells ∙ settled-length terminal.shown_as [] frame.cells ∙ long;
}

known-before : (columns size : ℕ) (shown : Option PaintedFrame) (is_reset : Bool) (terminal : Terminal) → IfSome shown (λ frame. length frame.cells ≡ size) → ShowsKnown columns size shown terminal →
    ShowsKnown columns size (cond is_reset None shown) terminal
known-before columns size shown true terminal long known = known-size columns size shown terminal long known
known-before columns size shown false terminal long known = known

pub shows-last : (columns size : ℕ) (steps : List PaintedStep) (shown : Option PaintedFrame) (terminal : Terminal) → IfSome shown (λ frame. length frame.cells ≡ size) →
    ArePainted columns size shown steps → ShowsKnown columns size shown terminal → ShowsKnown columns size (last_frame shown steps) (run (all_controls steps) terminal)
shows-last columns size [] shown terminal long painted known = known
shows-last columns size (step ∷ steps) shown terminal long painted known =
    let before = known-before columns size shown step.is_reset terminal long known in
    let after = painted.1.brings terminal before in
    let rest = shows-last columns size steps (Some step.frame) (run step.controls terminal) painted.0 painted.2 after in
    subst (ShowsKnown columns size (last_frame (Some step.frame) steps)) (sym (run-append step.controls (all_controls steps) terminal)) rest
