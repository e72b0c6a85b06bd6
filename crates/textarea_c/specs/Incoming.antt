-- What a terminal sent, behind a handle.
use Rattle.std.specs.Prelude.{ℕ, List, [], ◌∷◌, ◌++◌, Option, Some, None}
use Rattle.textarea_terminal.specs.InputEvent.{EventValue, paste}
use Rattle.textarea_terminal.specs.InputState.{DecoderState, new_decoder, with_expected}
use Rattle.textarea_terminal.specs.declared.input.reply.Expected.{Expected}
use Rattle.textarea_c_data.specs.Events.{plain_event}
use Rattle.textarea_c_data.specs.declared.event.CEvent.{CEvent}

-- the decoder, the events that were not taken yet, and the text of the pasted one that was taken last
pub record IncomingState : Type 0 where
  pub decoder : DecoderState
  pub events : List EventValue
  pub pasted : List ℕ

abbrev pub new_incoming : IncomingState
new_incoming = record { decoder = new_decoder; events = []; pasted = [] }

-- the decoder's step is made, and its events wait after the others
abbrev pub after_decoding : IncomingState → List EventValue × DecoderState → IncomingState
after_decoding s step = record { decoder = step.1; events = s.events ++ step.0; pasted = s.pasted }

-- the oldest of these events, as C gets it
abbrev pub event_taken : List EventValue → Option CEvent
event_taken [] = None
event_taken (value ∷ rest) = Some (plain_event value)

-- the text that is pasted last after this event
abbrev pub pasted_after : EventValue → List ℕ → List ℕ
pasted_after (paste text) old = text
pasted_after other old = old

-- the state without the oldest of its events
abbrev pub rest_taken : IncomingState → List EventValue → IncomingState
rest_taken s [] = s
rest_taken s (value ∷ rest) = record { decoder = s.decoder; events = rest; pasted = pasted_after value s.pasted }

-- the same state, of whose terminal more was told
abbrev pub with_expected_in : IncomingState → Expected → IncomingState
with_expected_in s expected = record s { decoder = with_expected s.decoder expected }
