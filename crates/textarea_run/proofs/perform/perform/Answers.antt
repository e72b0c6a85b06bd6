use Rattle.std.proofs.Common.{◌≡◌, OnErr, OnOk, Result, Ok, Err, false, refl}
use Rattle.textarea_calls.specs.Topics.{draws}
use Rattle.textarea_calls.specs.declared.call.Call.{Call}
use Rattle.textarea_calls.specs.declared.call.Call.TheVariants.{Render}
use Rattle.textarea_run.proofs.perform.perform.Goals as goal
use Rattle.textarea_screen.specs.declared.screen.buffer.Buffer.{Buffer}
use Rattle.textarea_screen.specs.declared.screen.rect.Rect.{Rect}
use Rattle.tui_textarea.specs.Outcomes.{IsBufferAfter, IsBufferOutOfMemory}
use Rattle.tui_textarea.specs.State.{State}

-- a call that doesn't draw leaves the buffer
displayed : {T E : Type 0} (result : Result T E) (made : Call) (state : State) (buffer : Buffer) → ((area : Rect) → made ≡ Render area → ⊥) → OnOk result (IsBufferAfter made state buffer buffer)
displayed (Err error) made state buffer other = tt
displayed (Ok value) (Render area) state buffer other = absurd (other area refl)
displayed (Ok value) made state buffer other = refl

buffer_left : {T E : Type 0} (result : Result T E) (made : Call) (buffer : Buffer) → ((area : Rect) → made ≡ Render area → ⊥) → OnErr result (IsBufferOutOfMemory made buffer buffer)
buffer_left (Ok value) made buffer other = tt
buffer_left (Err error) (Render area) buffer other = absurd (other area refl)
buffer_left (Err error) made buffer other = refl

-- a call of another kind draws nothing
undrawn : (made : Call) → ((area : Rect) → made ≡ Render area → ⊥) → draws made ≡ false
undrawn (Render area) other = absurd (other area refl)
undrawn made other = refl

pub make-requires : goal.make-requires
make-requires c = record { can = c.requires; undrawn = undrawn c.args.call c.in_default.not-Render }

pub returns-in_default-clause-displayed : goal.returns-in_default-clause-displayed
returns-in_default-clause-displayed c =
    displayed c.make.result c.args.call c.make.new.area c.args.buffer.now c.in_default.not-Render

pub returns-in_default-clause-buffer_left : goal.returns-in_default-clause-buffer_left
returns-in_default-clause-buffer_left c =
    buffer_left c.make.result c.args.call c.args.buffer.now c.in_default.not-Render
