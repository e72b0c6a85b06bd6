use Rattle.tui_textarea.proofs.Frames.{as_wide}
use Rattle.tui_textarea.proofs.laws.frame_wraps_once.Goals as goal

pub returns-clause-again : goal.returns-clause-again
returns-clause-again c = λ old first second area other wide h k.
    c.drawn_at_its_width.ensures.stays first second other (as_wide first area other wide (c.drawn_at_its_width.ensures.put old first area h)) k

pub returns-clause-wraps_after_move : goal.returns-clause-wraps_after_move
returns-clause-wraps_after_move c = λ old first moved second area other shift cursor_move wide h m k.
    let put = c.moves_wrap_nothing.ensures.width_moved first moved shift cursor_move area.width m (c.drawn_at_its_width.ensures.put old first area h) in
    c.drawn_at_its_width.ensures.stays moved second other (as_wide moved area other wide put) k

pub returns-clause-wraps_after_scroll : goal.returns-clause-wraps_after_scroll
returns-clause-wraps_after_scroll c = λ old first scrolled second area other shift scrolling wide h m k.
    let put = c.moves_wrap_nothing.ensures.width_scrolled first scrolled shift scrolling area.width m (c.drawn_at_its_width.ensures.put old first area h) in
    c.drawn_at_its_width.ensures.stays scrolled second other (as_wide scrolled area other wide put) k
