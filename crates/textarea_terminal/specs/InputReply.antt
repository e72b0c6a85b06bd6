-- Events of what is in bytes, by what a decoder was told of its terminal: replies in pasted texts, and keys of the Linux console.
use Rattle.std.specs.Prelude.{◌≡◌, ℕ, zero, suc, ◌-◌, Bool, true, false, not, ◌&&◌, nat_lt, List, [], ◌∷◌, ◌++◌, length, map, Option, Some, None, if◌then◌else◌}
use Rattle.std.specs.Str.Lossy.{utf8_lossy}
use Rattle.textarea_data.specs.declared.input.Input.{Input}
use Rattle.textarea_data.specs.declared.input.Key.{Key}
use Rattle.textarea_data.specs.declared.input.Key.TheVariants as key
use Rattle.textarea_terminal.specs.declared.input.reply.Expected.{Expected}
use Rattle.textarea_terminal.specs.declared.input.reply.PasteParts.{PasteParts}
use Rattle.textarea_terminal.specs.declared.input.event.Event.{Event}
use Rattle.textarea_terminal.specs.InputEvent.{EventValue, EventAndRest, value_of, input, paste, mouse, size, cursor, focus_gained, focus_lost, unknown, resized, released}
use Rattle.textarea_terminal.specs.InputKey.{input_with}
use Rattle.textarea_terminal.specs.InputStream.{values_in}
use Rattle.textarea_terminal.specs.InputUnit.{key_or_sequence}

-- a reply has come
abbrev pub answered : Expected → Expected
answered e = record { asked = e.asked - 1; resizes = e.resizes; console = e.console }

-- no reply is out
abbrev pub given_up : Expected → Expected
given_up e = record { asked = 0; resizes = e.resizes; console = e.console }

-- ---- pasted texts

-- The event of what is at the front of a pasted text, if it is a reply: one that is out, or a report of a new size; and what is
-- expected after it, and the rest of the bytes.
abbrev pub Reply : Type 0
Reply = Option (EventValue × (Expected × List ℕ))

abbrev pub reply_if : Bool → EventValue → Expected → List ℕ → Reply
reply_if true value e bytes = Some (value, (e, bytes))
reply_if false value e bytes = None

unfoldable pub as_reply : Expected → EventAndRest → Reply
as_reply e (Some (size columns rows, bytes)) = reply_if (nat_lt 0 e.asked) (size columns rows) (answered e) bytes
as_reply e (Some (cursor column row, bytes)) = reply_if (nat_lt 0 e.asked) (cursor column row) (answered e) bytes
as_reply e (Some (resized columns rows, bytes)) = reply_if e.resizes (size columns rows) e bytes
as_reply e (Some (other, bytes)) = None
as_reply e None = None

-- a reply in a text is what would be one outside of it
abbrev pub reply_at : Expected → List ℕ → Reply
reply_at e bytes = as_reply e (key_or_sequence bytes)

-- a text without its replies, their events, and what is expected after them
pub record Stripped : Type 0 where
  pub text : List ℕ
  pub replies : List EventValue
  pub expected : Expected

abbrev pub with_byte : ℕ → Stripped → Stripped
with_byte b s = record { text = b ∷ s.text; replies = s.replies; expected = s.expected }

abbrev pub with_reply : EventValue → Stripped → Stripped
with_reply value s = record { text = s.text; replies = value ∷ s.replies; expected = s.expected }

-- what is made of a text so far, and of the rest of it
abbrev pub with_stripped : PasteParts → Stripped → Stripped
with_stripped so_far s = record {
  text = so_far.text.items ++ s.text;
  replies = map value_of so_far.replies.items ++ s.replies;
  expected = s.expected;
}

abbrev pub stripped_value : PasteParts → Stripped
stripped_value s = record { text = s.text.items; replies = map value_of s.replies.items; expected = s.expected }

-- a text without the replies in it, by at most a number of steps
unfoldable pub stripped_within : ℕ → Expected → List ℕ → Stripped
stripped_within most e [] = record { text = []; replies = []; expected = e }
stripped_within zero e (b ∷ bytes) = record { text = b ∷ bytes; replies = []; expected = e }
stripped_within (suc most) e (b ∷ bytes) =
    elim (reply_at e (b ∷ bytes)) [ None ↦ with_byte b (stripped_within most e bytes) | Some x ↦ with_reply x.0 (stripped_within most x.1.0 x.1.1) ]

-- all replies, since each takes at least one byte
unfoldable pub stripped : Expected → List ℕ → Stripped
stripped e bytes = stripped_within (length bytes) e bytes

-- A text is without replies that were expected: each of its bytes is kept, or is in a reply at that position.
pub data IsWithout : Expected → List ℕ → Stripped → Type 0 where
  at_end : (e : Expected) → IsWithout e [] (record { text = []; replies = []; expected = e })
  kept_byte : (e : Expected) (b : ℕ) (bytes : List ℕ) (s : Stripped) → IsWithout e bytes s → IsWithout e (b ∷ bytes) (with_byte b s)
  no_reply : (e after : Expected) (b : ℕ) (front bytes : List ℕ) (value : EventValue) (s : Stripped)
      → reply_at e ((b ∷ front) ++ bytes) ≡ Some (value, (after, bytes)) → IsWithout after bytes s → IsWithout e ((b ∷ front) ++ bytes) (with_reply value s)

-- ---- events

-- whether a key is Tab with Alt only
abbrev pub is_tab_key : Key → Bool
is_tab_key key.Tab = true
is_tab_key _ = false

abbrev pub is_alt_tab : Input → Bool
is_alt_tab i = is_tab_key i.key && i.alt && not i.ctrl && not i.shift

-- ESC and a tab is Tab with Shift on the Linux console
abbrev pub console_input : Bool → Input → Input
console_input console i = if console && is_alt_tab i then input_with key.Tab 2 else i

-- the events of a pasted text are those of the replies in it, and then the text without them, as UTF-8
abbrev pub paste_events : Stripped → List EventValue × Expected
paste_events s = (s.replies ++ paste (utf8_lossy s.text) ∷ [], s.expected)

-- the events of a value, and what is expected after it
unfoldable pub refined : Expected → EventValue → List EventValue × Expected
refined e (input i) = (input (console_input e.console i) ∷ [], e)
refined e (paste bytes) = paste_events (stripped e bytes)
refined e (size columns rows) = (size columns rows ∷ [], answered e)
refined e (cursor column row) = (cursor column row ∷ [], answered e)
refined e (resized columns rows) = (size columns rows ∷ [], e)
refined e released = ([], e)
refined e (mouse m) = (mouse m ∷ [], e)
refined e focus_gained = (focus_gained ∷ [], e)
refined e focus_lost = (focus_lost ∷ [], e)
refined e unknown = (unknown ∷ [], e)

-- an event and what is expected after it, or none
abbrev pub one_event : Expected → Option (Event × Expected) → List EventValue × Expected
one_event e None = ([], e)
one_event e (Some x) = (value_of x.0 ∷ [], x.1)

-- the events of values, one after another, and what is expected after them
unfoldable pub refining : Expected → List EventValue → List EventValue × Expected
refining e [] = ([], e)
refining e (value ∷ values) =
    ((refined e value).0 ++ (refining (refined e value).1 values).0, (refining (refined e value).1 values).1)

-- the events of bytes, and what is expected after them
abbrev pub made : Expected → List ℕ → List EventValue × Expected
made e bytes = refining e (values_in bytes)
