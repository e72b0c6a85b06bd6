use Rattle.std.proofs.Common.{is_some}
use Rattle.textarea_data.specs.declared.cursor.CursorMove.TheVariants.{Down}
use Rattle.textarea_data.specs.declared.range.AtomicCursorBias.TheVariants.{Forward}
use Rattle.tui_textarea.specs.Search.{next_match, after_search}
use Rattle.tui_textarea.specs.Units.{settled}
use Rattle.textarea_tests.proofs.WrappedLines.{still_wrapped, width_searched}
use Rattle.textarea_tests.proofs.wrapped_lines.frames_wrap_nothing.Goals as goal

pub returns : goal.returns
returns c = λ old drawn down scrolled again area scrolling at_cursor h k l m.
    let found = next_match scrolled at_cursor in
    let shift = is_some drawn.document.anchor in
    let shift_then = is_some down.document.anchor in
    let put = c.drawn_at_its_width.ensures.put old drawn area h in
    let put_down = c.moves_wrap_nothing.ensures.width_moved drawn down shift Down area.width k put in
    let put_scrolled = c.moves_wrap_nothing.ensures.width_scrolled down scrolled shift_then scrolling area.width l put_down in
    still_wrapped drawn down scrolled again found (c.moves_wrap_nothing.ensures.moved drawn down shift Down k)
    (c.moves_wrap_nothing.ensures.scrolled down scrolled shift_then scrolling l)
    (c.drawn_at_its_width.ensures.stays (settled Forward (after_search scrolled found)) again area (width_searched scrolled found area.width put_scrolled) m)
