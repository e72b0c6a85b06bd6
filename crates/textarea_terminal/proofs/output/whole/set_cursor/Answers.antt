use Rattle.std.proofs.Common.{◌≢◌, Bool, true, false, Option, Some, [], ◌∷◌, ◌++◌, cond, refl, ap, ◌∙◌}
use Rattle.textarea_terminal.specs.Control.Control.{ShowCursor, HideCursor}
use Rattle.textarea_terminal.specs.Paint.{SetsCursor}
use Rattle.textarea_terminal.proofs.ControlLemmas.{Wrote-one}
use Rattle.textarea_terminal.proofs.ScreenMoves.{not-known}
use Rattle.textarea_terminal.proofs.output.whole.set_cursor.Goals as goal

sets : (known : Option Bool) (wanted : Bool) → known ≢ Some wanted → SetsCursor known wanted (cond wanted ShowCursor HideCursor ∷ [])
sets known true other = (refl, λ terminal is. refl, λ same. absurd (other same), refl, refl)
sets known false other = (refl, λ terminal is. refl, λ same. absurd (other same), refl, refl)

pub returns : goal.returns
returns c =
    Wrote-one (cond c.args.wanted ShowCursor HideCursor) (c.in_ok-extend_from_slice.ensures.items ∙ ap (λ bytes. c.args.bytes.now.items ++ bytes) c.cursor_control.ensures)
    (sets c.args.known c.args.wanted (λ same. not-known c.args.known c.args.wanted c.eq.result c.eq.ensures c.if-eq.false same))
