-- What a terminal is sent, behind a handle.
use Rattle.std.specs.Prelude.{ℕ, ◌≡◌, List, [], Option, Some, None}
use Rattle.textarea_screen.specs.declared.screen.buffer.Buffer.{Buffer}
use Rattle.textarea_screen.specs.declared.screen.rect.Position.{Position}
use Rattle.textarea_screen.specs.declared.screen.rect.Rect.{Rect}
use Rattle.textarea_terminal.specs.Paint.{PaintedFrame, Paints, Wrote}
use Rattle.textarea_terminal.specs.PaintArea.{cell_count, frame_in}
use Rattle.textarea_terminal.specs.declared.output.colors.Colors.{Colors}
use Rattle.textarea_terminal.specs.declared.output.colors.Colors.TheVariants as colors

-- the area of a painter, the colours of its terminal, the frame that was painted last, if it is known
-- that the terminal shows it, and the bytes that were sent for it
pub record OutgoingState : Type 0 where
  pub area : Rect
  pub colors : Colors
  pub painted : Option PaintedFrame
  pub bytes : List ℕ

abbrev pub new_outgoing : Rect → OutgoingState
new_outgoing area = record { area = area; colors = colors.True; painted = None; bytes = [] }

-- the frame of a buffer and a caret
abbrev pub frame_for : OutgoingState → Buffer → Option Position → PaintedFrame
frame_for s buffer caret = frame_in s.colors s.area buffer caret

-- the frame is painted: the bytes are those of controls that paint it, and none if it is shown
-- already
pub record IsFramePainted (old : OutgoingState) (buffer : Buffer) (caret : Option Position) (new : OutgoingState) : Type 0 where
  pub rest : new ≡ record old { painted = Some (frame_for old buffer caret); bytes = new.bytes }
  pub wrote : Wrote [] new.bytes (Paints old.area.width (cell_count old.area) old.painted (frame_for old buffer caret))
  pub unchanged : old.painted ≡ Some (frame_for old buffer caret) → new.bytes ≡ []

-- the terminal's content is unknown
abbrev pub unpainted : OutgoingState → OutgoingState
unpainted s = record s { painted = None }

abbrev pub resized : OutgoingState → Rect → OutgoingState
resized s area = record s { area = area; painted = None }

abbrev pub with_colors : OutgoingState → Colors → OutgoingState
with_colors s colors = record s { colors = colors; painted = None }
