-- What calls on a terminal return, and what is behind its handle after them.
use Rattle.std.specs.Prelude.{ℕ, ◌≡◌, ◌≢◌, Bool, List, Option, Some, None, MatchOption, if◌then◌else◌}
use Rattle.textarea_screen.specs.declared.screen.buffer.Buffer.{Buffer}
use Rattle.textarea_screen.specs.declared.screen.rect.Position.{Position}
use Rattle.textarea_terminal.specs.InputEvent.{EventValue}
use Rattle.textarea_terminal.specs.InputState.{DecoderState}
use Rattle.textarea_terminal.specs.declared.input.reply.Expected.{Expected}
use Rattle.textarea_terminal.specs.declared.output.colors.Colors.{Colors}
use Rattle.textarea_c_data.specs.Areas.{IsArea}
use Rattle.textarea_c_data.specs.declared.area.Area.{Area}
use Rattle.textarea_c_data.specs.declared.event.CEvent.{CEvent}
use Rattle.textarea_c.specs.Incoming.{IncomingState, after_decoding, event_taken, new_incoming, rest_taken, with_expected_in}
use Rattle.textarea_c.specs.Outgoing.{IsFramePainted, OutgoingState, new_outgoing, resized, unpainted, with_colors}
use Rattle.textarea_c.specs.declared.terminal.Terminal.{Terminal}

abbrev pub with_incoming : Terminal → IncomingState → Terminal
with_incoming terminal incoming = record terminal { incoming = incoming }

abbrev pub with_outgoing : Terminal → OutgoingState → Terminal
with_outgoing terminal outgoing = record terminal { outgoing = outgoing }

-- a new terminal that shows the cells of the rectangle that this area stands for
abbrev pub IsTerminalFor : Area → Terminal → Type 0
IsTerminalFor area terminal =
    IsArea area terminal.outgoing.area × (terminal ≡ record { incoming = new_incoming; outgoing = new_outgoing terminal.outgoing.area })

-- this step of the decoder, unless memory runs out
abbrev pub Decodes : List EventValue × DecoderState → ℕ → Terminal → Terminal → Type 0
Decodes step status a b =
    (status ≡ 0 → b ≡ with_incoming a (after_decoding a.incoming step)) × (status ≢ 0 → (status ≡ 2) × (b ≡ a))

-- the oldest event, if there is one, is taken
abbrev pub TakesEvent : CEvent → ℕ → Terminal → Terminal → Type 0
TakesEvent event status a b =
    (b ≡ with_incoming a (rest_taken a.incoming a.incoming.events))
    × MatchOption (event_taken a.incoming.events) (status ≡ 1) (λ taken. (status ≡ 0) × (event ≡ taken))

-- the decoder expects this from now on
abbrev pub IsTold : Expected → ℕ → Terminal → Terminal → Type 0
IsTold expected status a b = (status ≡ 0) × (b ≡ with_incoming a (with_expected_in a.incoming expected))

-- the caret's cell that C passes
abbrev pub passed_caret : Bool → ℕ → ℕ → Option Position
passed_caret has_caret x y = if has_caret then Some (record { x = x; y = y }) else None

-- the frame of a screen and a caret is painted, unless memory runs out
abbrev pub PaintsScreen : Buffer → Option Position → ℕ → Terminal → Terminal → Type 0
PaintsScreen screen caret status a b =
    (b ≡ with_outgoing a b.outgoing) × (status ≡ 0 → IsFramePainted a.outgoing screen caret b.outgoing) × (status ≢ 0 → (status ≡ 2) × (b ≡ a))

-- what the terminal shows is unknown; the same with other colours
abbrev pub IsUnpainted : ℕ → Terminal → Terminal → Type 0
IsUnpainted status a b = (status ≡ 0) × (b ≡ with_outgoing a (unpainted a.outgoing))

abbrev pub HasColors : Colors → ℕ → Terminal → Terminal → Type 0
HasColors colors status a b = (status ≡ 0) × (b ≡ with_outgoing a (with_colors a.outgoing colors))

-- the terminal shows the cells of the rectangle that this area stands for, unless memory runs out
abbrev pub Resizes : Area → ℕ → Terminal → Terminal → Type 0
Resizes area status a b =
    (status ≡ 0 → IsArea area b.outgoing.area × (b ≡ with_outgoing a (resized a.outgoing b.outgoing.area)))
    × (status ≢ 0 → (status ≡ 2) × (b ≡ a))
