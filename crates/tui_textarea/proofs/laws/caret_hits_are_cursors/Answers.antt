use Rattle.tui_textarea.proofs.laws.caret_hits_are_cursors.Goals as goal
use Rattle.tui_textarea.specs.Drawing.{widget_of}

pub returns-clause-back : goal.returns-clause-back
returns-clause-back c = λ old new area sound rendered.
    c.caret_hit_is_cursor.ensures (widget_of old) (widget_of new) area rendered.widget sound.cursor

pub returns-clause-displayed : goal.returns-clause-displayed
returns-clause-displayed c = λ old new area limit tabs rendered.
    c.caret_is_visible.ensures (widget_of old) (widget_of new) area rendered.widget limit tabs
