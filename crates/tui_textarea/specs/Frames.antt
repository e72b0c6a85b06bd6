-- The width that stays from one drawing to the next.
use Rattle.std.specs.Prelude.{◌≡◌, ℕ}
use Rattle.textarea_view.specs.Measure.{width_inside}
use Rattle.tui_textarea.specs.State.{State}

-- the layout has the width inside the block of an area of this width
abbrev pub HasLayoutFor : State → ℕ → Type 0
HasLayoutFor state width =
    state.document.layout.settings.inner_width ≡ width_inside state.surround.block width
