-- A decoder's state, and its steps: bytes, queries and pauses.
use Rattle.std.specs.Prelude.{◌≡◌, ℕ, ◌+◌, ◌-◌, ◌≤◌, Bool, true, false, List, [], ◌∷◌, ◌++◌, length, map, drop, min, nat_lt, Option, Some, None, is_some, if◌then◌else◌}
use Rattle.textarea_data.specs.declared.input.Input.{Input}
use Rattle.textarea_terminal.specs.declared.input.reply.Expected.{Expected}
use Rattle.textarea_terminal.specs.InputEvent.{EventValue, paste, unknown}
use Rattle.textarea_terminal.specs.InputReply.{given_up, refined, refining}
use Rattle.textarea_terminal.specs.InputStream.{values_in, begun_bytes, idle_keys, values_of_keys, idle_decoding}
use Rattle.textarea_terminal.specs.InputUnit.{unit_at, paste_start, paste_end, after_mark, mark_index}

-- the bytes of what is incomplete; whether the rest of a paste that gave way is dropped; what is expected; and the milliseconds
-- without bytes, at most the limit
pub record DecoderState : Type 0 where
  pub pending : List ℕ
  pub drops : Bool
  pub expected : Expected
  pub quiet : ℕ

-- what a decoder's state always is
pub record IsReady (s : DecoderState) : Type 0 where
  pub begun : s.drops ≡ false → unit_at s.pending ≡ None
  pub few : s.drops ≡ true → length s.pending ≤ 5

-- ---- bytes

-- what is read of bytes: values, whether the bytes after them are dropped, and the pending bytes
pub record Reading : Type 0 where
  pub values : List EventValue
  pub drops : Bool
  pub pending : List ℕ

abbrev pub reading_kept : List ℕ → Reading
reading_kept bytes = record { values = values_in bytes; drops = false; pending = begun_bytes bytes }

-- the last bytes, in which an end mark may have begun
abbrev pub last_five : List ℕ → List ℕ
last_five bytes = drop (length bytes - 5) bytes

-- the rest of a paste is dropped up to the first end mark
abbrev pub reading_dropped : List ℕ → Option ℕ → Reading
reading_dropped bytes None = record { values = []; drops = true; pending = last_five bytes }
reading_dropped bytes (Some index) = reading_kept (drop (index + 6) bytes)

unfoldable pub reading : Bool → List ℕ → Reading
reading false bytes = reading_kept bytes
reading true bytes = reading_dropped bytes (mark_index paste_end bytes)

-- the time without bytes starts anew with each byte
abbrev pub quiet_after : List ℕ → ℕ → ℕ
quiet_after [] quiet = quiet
quiet_after (b ∷ bytes) quiet = 0

abbrev pub after_reading : DecoderState → List ℕ → Reading → List EventValue × DecoderState
after_reading s bytes r = (
  (refining s.expected r.values).0,
  record { pending = r.pending; drops = r.drops; expected = (refining s.expected r.values).1; quiet = quiet_after bytes s.quiet },
)

-- the events of bytes, and the state after them
unfoldable pub fed : DecoderState → List ℕ → List EventValue × DecoderState
fed s bytes = after_reading s bytes (reading s.drops (s.pending ++ bytes))

-- ---- pauses

-- a pause of so many milliseconds is long
abbrev pub pause_limit : ℕ
pause_limit = 5000

-- a short pause: an ESC is the key, and so on
abbrev pub after_short : DecoderState → ℕ → List EventValue × List ℕ → List EventValue × DecoderState
after_short s quiet d = (d.0, record { pending = d.1; drops = s.drops; expected = s.expected; quiet = quiet })

abbrev pub short_pause : DecoderState → ℕ → List EventValue × DecoderState
short_pause s quiet = after_short s quiet (if s.drops then ([], s.pending) else idle_decoding s.pending)

-- after a long pause nothing is pending, and no reply is out
abbrev pub settled : DecoderState → Bool → DecoderState
settled s drops = record { pending = []; drops = drops; expected = given_up s.expected; quiet = 0 }

-- the keys that incomplete bytes are, or one unknown event
abbrev pub keys_or_unknown : List ℕ → Option (Bool × Input) → List EventValue
keys_or_unknown bytes (Some keys) = values_of_keys keys.0 keys.1
keys_or_unknown [] None = []
keys_or_unknown (b ∷ bytes) None = unknown ∷ []

-- A paste without an end gives way: what came of it is pasted, and what comes later is dropped. These are the events, by the
-- text after a start mark.
abbrev pub given : Expected → List ℕ → Option (List ℕ) → List EventValue
given e bytes (Some text) = (refined e (paste text)).0
given e bytes None = keys_or_unknown bytes (idle_keys bytes)

-- whether what comes later is dropped, and the events; a long pause also ends the dropping
abbrev pub settled_by : Bool → Expected → List ℕ → Bool × List EventValue
settled_by true e bytes = (false, [])
settled_by false e bytes = (is_some (after_mark paste_start bytes), given e bytes (after_mark paste_start bytes))

abbrev pub long_pause : DecoderState → List EventValue × DecoderState
long_pause s = ((settled_by s.drops s.expected s.pending).1, settled s (settled_by s.drops s.expected s.pending).0)

-- the events of a pause, which goes on from the one before if no byte came between, and the state after it
abbrev pub after_pause : DecoderState → ℕ → List EventValue × DecoderState
after_pause s quiet = if nat_lt quiet pause_limit then short_pause s quiet else long_pause s

unfoldable pub paused : DecoderState → ℕ → List EventValue × DecoderState
paused s milliseconds = after_pause s (min pause_limit (s.quiet + milliseconds))

-- ---- calls

-- the same state, of which more was told: a query is out, the terminal reports its sizes, it is the Linux console
abbrev pub with_expected : DecoderState → Expected → DecoderState
with_expected s e = record { pending = s.pending; drops = s.drops; expected = e; quiet = s.quiet }

abbrev pub asked : Expected → Expected
asked e = record { asked = min (e.asked + 1) 4294967295; resizes = e.resizes; console = e.console }

abbrev pub resizing : Bool → Expected → Expected
resizing b e = record { asked = e.asked; resizes = b; console = e.console }

abbrev pub on_console : Bool → Expected → Expected
on_console b e = record { asked = e.asked; resizes = e.resizes; console = b }

-- a decoder at first
abbrev pub new_decoder : DecoderState
new_decoder = record { pending = []; drops = false; expected = record { asked = 0; resizes = false; console = false }; quiet = 0 }

-- the calls of a decoder
pub data DecoderCall : Type 0 where
  feed : List ℕ → DecoderCall
  idle : ℕ → DecoderCall
  ask : DecoderCall
  set_resizes : Bool → DecoderCall
  set_console : Bool → DecoderCall

-- the events of a call, and the state after it
abbrev pub after_call : DecoderState → DecoderCall → List EventValue × DecoderState
after_call s (feed bytes) = fed s bytes
after_call s (idle milliseconds) = paused s milliseconds
after_call s ask = ([], with_expected s (asked s.expected))
after_call s (set_resizes b) = ([], with_expected s (resizing b s.expected))
after_call s (set_console b) = ([], with_expected s (on_console b s.expected))

-- the events of calls, one after another, and the state after the last
unfoldable pub after_calls : DecoderState → List DecoderCall → List EventValue × DecoderState
after_calls s [] = ([], s)
after_calls s (call ∷ calls) =
    ((after_call s call).0 ++ (after_calls (after_call s call).1 calls).0, (after_calls (after_call s call).1 calls).1)

-- The stream of calls: the bytes, each by itself, and what is told between them.
unfoldable pub stream_of : List DecoderCall → List DecoderCall
stream_of [] = []
stream_of (feed bytes ∷ calls) = map (λ b. feed (b ∷ [])) bytes ++ stream_of calls
stream_of (idle milliseconds ∷ calls) = idle milliseconds ∷ stream_of calls
stream_of (ask ∷ calls) = ask ∷ stream_of calls
stream_of (set_resizes b ∷ calls) = set_resizes b ∷ stream_of calls
stream_of (set_console b ∷ calls) = set_console b ∷ stream_of calls
