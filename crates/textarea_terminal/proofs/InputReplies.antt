-- Replies in pasted texts.
use Rattle.std.proofs.Common.{◌≡◌, ◌≢◌, ℕ, zero, suc, ◌+◌, ◌-◌, ◌<◌, ◌≤◌, Bool, true, false, cond, List, [], ◌∷◌, ◌++◌, length, get_or, map, Option, Some, None, refl, sym, ap, ◌∙◌, arith, subst}
use Rattle.std.specs.Prelude.{option_map, nat_lt}
use Rattle.std.proofs.lemmas.List.{length-append, append_assoc, append-nil, map-append}
use Rattle.std.proofs.lemmas.Bool.{ne_eqb}
use Rattle.std.proofs.lemmas.Bool.Decides.{nat_tests}
use Rattle.std.specs.Str.Lossy.{utf8_lossy}
use Rattle.textarea_data.specs.declared.input.Input.{Input}
use Rattle.textarea_data.specs.declared.input.Key.TheVariants as key
use Rattle.textarea_data.specs.Input.{input_of_key}
use Rattle.textarea_terminal.specs.InputKey.{byte_input}
use Rattle.textarea_terminal.specs.declared.input.event.Event.{Event}
use Rattle.textarea_terminal.specs.declared.input.reply.Expected.{Expected}
use Rattle.textarea_terminal.specs.declared.input.reply.PasteParts.{PasteParts}
use Rattle.textarea_terminal.specs.InputCharacter.{utf8_character}
use Rattle.textarea_terminal.specs.InputEvent.{EventValue, EventAndRest, value_of, input, paste, mouse, size, cursor, focus_gained, focus_lost, unknown, resized, released}
use Rattle.textarea_terminal.specs.InputReply.{Reply, reply_if, as_reply, reply_at, answered, Stripped, with_byte, with_reply, with_stripped, stripped_value, stripped_within, stripped, refined}
use Rattle.textarea_terminal.specs.InputReply.{paste_events, IsWithout, at_end, kept_byte, no_reply}
use Rattle.textarea_terminal.specs.InputUnit.{key_or_sequence, key_at, character_event}
use Rattle.textarea_terminal.proofs.InputUnits.{keeps_key_or_sequence, nothing_read}

-- ---- what is no reply

character_no_reply : (e : Expected) (c : ℕ) (bytes : List ℕ) → as_reply e (Some (character_event c, bytes)) ≡ None
unfolding as_reply
character_no_reply e c bytes = tested (nat_lt c 160) (input_of_key (key.Char c))
  where
    tested : (t : Bool) (i : Input) → as_reply e (Some (cond t unknown (input i), bytes)) ≡ None
    tested true i = refl
    tested false i = refl

-- a first byte other than ESC begins none
pub reply-key : (e : Expected) (b : ℕ) (bytes : List ℕ) → b ≢ 27 → reply_at e (b ∷ bytes) ≡ None
unfolding key_or_sequence key_at as_reply
reply-key e b bytes h = rw (ne_eqb b 27 h) (tested (nat_lt b 128) (nat_lt b 160) (byte_input b) (utf8_character b bytes))
  where
    tested : (t u : Bool) (i : Input) (o : Option (ℕ × List ℕ)) → as_reply e (cond t (Some (input i, bytes)) (cond u (Some (unknown, bytes)) (option_map (λ x. (character_event x.0, x.1)) o))) ≡ None
    tested true u i o = refl
    tested false true i o = refl
    tested false false i None = refl
    tested false false i (Some x) = character_no_reply e x.0 x.1

pub reply-nil : (e : Expected) → reply_at e [] ≡ None
unfolding as_reply
reply-nil e = ap (as_reply e) nothing_read

pub reply-first : (e : Expected) (bytes : List ℕ) → 0 < length bytes → get_or bytes 0 0 ≢ 27 → reply_at e bytes ≡ None
reply-first e [] some h = absurd (omega arith)
reply-first e (b ∷ bytes) some h = reply-key e b bytes h

pub reply-none : (e : Expected) (bytes : List ℕ) → length bytes < 1 → reply_at e bytes ≡ None
reply-none e [] h = reply-nil e
reply-none e (b ∷ bytes) h = absurd (omega arith)

-- ---- steps

-- the rest of bytes after a reply is what is after the sequence
record LeavesRest (o : EventAndRest) (r : Reply) : Type 0 where
  is : (x : EventValue × (Expected × List ℕ)) → r ≡ Some x → (v : EventValue) × (o ≡ Some (v, x.1.1))

leaves_if : (t : Bool) (value v : EventValue) (e : Expected) (bytes : List ℕ) → LeavesRest (Some (v, bytes)) (reply_if t value e bytes)
leaves_if true value v e bytes = record {
  is = λ x same.
      let pair : (value, (e, bytes)) ≡ x = (cc) in (v, ap (λ (y : EventValue × (Expected × List ℕ)). Some (v, y.1.1)) pair);
}
leaves_if false value v e bytes = record { is = λ x same. (cc) }

leaves_rest : (e : Expected) (o : EventAndRest) → LeavesRest o (as_reply e o)
unfolding as_reply
leaves_rest e (Some (size columns rows, bytes)) = leaves_if _ _ (size columns rows) _ bytes
leaves_rest e (Some (cursor column row, bytes)) = leaves_if _ _ (cursor column row) _ bytes
leaves_rest e (Some (resized columns rows, bytes)) = leaves_if _ _ (resized columns rows) _ bytes
leaves_rest e (Some (input i, bytes)) = record { is = λ x same. (cc) }
leaves_rest e (Some (paste text, bytes)) = record { is = λ x same. (cc) }
leaves_rest e (Some (mouse m, bytes)) = record { is = λ x same. (cc) }
leaves_rest e (Some (focus_gained, bytes)) = record { is = λ x same. (cc) }
leaves_rest e (Some (focus_lost, bytes)) = record { is = λ x same. (cc) }
leaves_rest e (Some (unknown, bytes)) = record { is = λ x same. (cc) }
leaves_rest e (Some (released, bytes)) = record { is = λ x same. (cc) }
leaves_rest e None = record { is = λ x same. (cc) }

-- a reply takes a byte at least
pub reply-shorter : (e : Expected) (b : ℕ) (bytes : List ℕ) (x : EventValue × (Expected × List ℕ)) → reply_at e (b ∷ bytes) ≡ Some x → length x.1.1 ≤ length bytes
reply-shorter e b bytes x is =
    let read = (leaves_rest e (key_or_sequence (b ∷ bytes))).is x is in
    let same = (keeps_key_or_sequence b bytes).unchanged (read.0, x.1.1) read.1 in
    omega (arith, ap length same.whole ∙ length-append same.front x.1.1)

within-byte : (most : ℕ) (e : Expected) (b : ℕ) (bytes : List ℕ) → reply_at e (b ∷ bytes) ≡ None → stripped_within (suc most) e (b ∷ bytes) ≡ with_byte b (stripped_within most e bytes)
unfolding stripped_within
within-byte most e b bytes is = rw (is, stripped_within) refl

within-reply : (most : ℕ) (e : Expected) (b : ℕ) (bytes : List ℕ) (x : EventValue × (Expected × List ℕ)) → reply_at e (b ∷ bytes) ≡ Some x → stripped_within (suc most) e (b ∷ bytes) ≡ with_reply x.0 (stripped_within most x.1.0 x.1.1)
unfolding stripped_within
within-reply most e b bytes x is = rw (is, stripped_within) refl

within-nil : (most : ℕ) (e : Expected) → stripped_within most e [] ≡ record { text = []; replies = []; expected = e }
unfolding stripped_within
within-nil zero e = refl
within-nil (suc most) e = refl

-- more steps than bytes make no difference
within-enough : (n m : ℕ) (e : Expected) (bytes : List ℕ) → length bytes ≤ n → length bytes ≤ m → stripped_within n e bytes ≡ stripped_within m e bytes
within-enough n m e [] h k = within-nil n e ∙ sym (within-nil m e)
within-enough zero m e (b ∷ bytes) h k = absurd (omega arith)
within-enough (suc n) zero e (b ∷ bytes) h k = absurd (omega arith)
within-enough (suc n) (suc m) e (b ∷ bytes) h k = by_reply (λ f rest i j. within-enough n m f rest i j) (reply_at e (b ∷ bytes)) refl
  where
    by_reply : ((f : Expected) (rest : List ℕ) → length rest ≤ n → length rest ≤ m → stripped_within n f rest ≡ stripped_within m f rest) → (o : Reply) → reply_at e (b ∷ bytes) ≡ o →
        stripped_within (suc n) e (b ∷ bytes) ≡ stripped_within (suc m) e (b ∷ bytes)
    by_reply same None is = within-byte n e b bytes is ∙ ap (with_byte b) (same e bytes (omega arith) (omega arith)) ∙ sym (within-byte m e b bytes is)
    by_reply same (Some x) is =
        let short = reply-shorter e b bytes x is in
        within-reply n e b bytes x is ∙ ap (with_reply x.0) (same x.1.0 x.1.1 (omega arith) (omega arith)) ∙ sym (within-reply m e b bytes x is)

pub stripped-nil : (e : Expected) → stripped e [] ≡ record { text = []; replies = []; expected = e }
unfolding stripped
stripped-nil e = within-nil 0 e

pub stripped-byte : (e : Expected) (b : ℕ) (bytes : List ℕ) → reply_at e (b ∷ bytes) ≡ None → stripped e (b ∷ bytes) ≡ with_byte b (stripped e bytes)
unfolding stripped
stripped-byte e b bytes is = within-byte (length bytes) e b bytes is

pub stripped-reply : (e : Expected) (b : ℕ) (bytes : List ℕ) (x : EventValue × (Expected × List ℕ)) → reply_at e (b ∷ bytes) ≡ Some x → stripped e (b ∷ bytes) ≡ with_reply x.0 (stripped x.1.0 x.1.1)
unfolding stripped
stripped-reply e b bytes x is =
    let short = reply-shorter e b bytes x is in
    within-reply (length bytes) e b bytes x is ∙ ap (with_reply x.0) (within-enough (length bytes) (length x.1.1) x.1.0 x.1.1 short (omega arith))

-- ---- the text so far

-- a byte is added to it
pub with_stripped-byte : (old new : PasteParts) (b : ℕ) (bytes : List ℕ) → new.text.items ≡ old.text.items ++ b ∷ [] → new.replies.items ≡ old.replies.items → new.expected ≡ old.expected → reply_at old.expected (b ∷ bytes) ≡ None
    → with_stripped new (stripped new.expected bytes) ≡ with_stripped old (stripped old.expected (b ∷ bytes))
with_stripped-byte old new b bytes text replies expected is =
    let s = stripped old.expected bytes in
    let first : with_stripped new (stripped new.expected bytes) ≡ with_stripped new s = ap (λ e. with_stripped new (stripped e bytes)) expected in
    let second : with_stripped new s ≡ record { text = (old.text.items ++ b ∷ []) ++ s.text; replies = map value_of old.replies.items ++ s.replies; expected = s.expected } =
    rw (text, replies) refl in
    let third : record { text = (old.text.items ++ b ∷ []) ++ s.text; replies = map value_of old.replies.items ++ s.replies; expected = s.expected } ≡ with_stripped old (with_byte b s) =
    ap (λ (xs : List ℕ). record { text = xs; replies = map value_of old.replies.items ++ s.replies; expected = s.expected }) (append_assoc old.text.items (b ∷ []) s.text) in
    first ∙ second ∙ third ∙ ap (with_stripped old) (sym (stripped-byte old.expected b bytes is))

-- a reply is
pub with_stripped-reply : (old new : PasteParts) (b : ℕ) (bytes rest : List ℕ) (event : Event) → new.text.items ≡ old.text.items → new.replies.items ≡ old.replies.items ++ event ∷ [] →
    reply_at old.expected (b ∷ bytes) ≡ Some (value_of event, (new.expected, rest))
    → with_stripped new (stripped new.expected rest) ≡ with_stripped old (stripped old.expected (b ∷ bytes))
with_stripped-reply old new b bytes rest event text replies is =
    let s = stripped new.expected rest in
    let first : with_stripped new s ≡ record { text = old.text.items ++ s.text; replies = map value_of (old.replies.items ++ event ∷ []) ++ s.replies; expected = s.expected } =
    rw (text, replies) refl in
    let values : map value_of (old.replies.items ++ event ∷ []) ++ s.replies ≡ map value_of old.replies.items ++ (value_of event ∷ s.replies) =
    ap (λ xs. xs ++ s.replies) (map-append value_of old.replies.items (event ∷ [])) ∙ append_assoc (map value_of old.replies.items) (value_of event ∷ []) s.replies in
    first ∙ ap (λ (xs : List EventValue). record { text = old.text.items ++ s.text; replies = xs; expected = s.expected }) values
    ∙ ap (with_stripped old) (sym (stripped-reply old.expected b bytes (value_of event, (new.expected, rest)) is))

pub with_stripped-end : (s : PasteParts) → with_stripped s (stripped s.expected []) ≡ stripped_value s
with_stripped-end s =
    ap (with_stripped s) (stripped-nil s.expected)
    ∙ ap (λ (xs : List ℕ). record { text = xs; replies = map value_of s.replies.items ++ []; expected = s.expected }) (append-nil s.text.items)
    ∙ ap (λ (xs : List EventValue). record { text = s.text.items; replies = xs; expected = s.expected }) (append-nil (map value_of s.replies.items))

pub nothing_left : (xs : List ℕ) → length xs < 1 → xs ≡ []
nothing_left [] h = refl
nothing_left (x ∷ xs) h = absurd (omega arith)

-- ---- where nothing is out

nothing_out : (e : Expected) (o : EventAndRest) → e.asked ≡ 0 → e.resizes ≡ false → as_reply e o ≡ None
unfolding as_reply
nothing_out e (Some (size columns rows, bytes)) h k = rw h refl
nothing_out e (Some (cursor column row, bytes)) h k = rw h refl
nothing_out e (Some (resized columns rows, bytes)) h k = rw k refl
nothing_out e (Some (input i, bytes)) h k = refl
nothing_out e (Some (paste text, bytes)) h k = refl
nothing_out e (Some (mouse m, bytes)) h k = refl
nothing_out e (Some (focus_gained, bytes)) h k = refl
nothing_out e (Some (focus_lost, bytes)) h k = refl
nothing_out e (Some (unknown, bytes)) h k = refl
nothing_out e (Some (released, bytes)) h k = refl
nothing_out e None h k = refl

pub stripped-unasked : (e : Expected) (bytes : List ℕ) → e.asked ≡ 0 → e.resizes ≡ false → stripped e bytes ≡ record { text = bytes; replies = []; expected = e }
stripped-unasked e [] h k = stripped-nil e
stripped-unasked e (b ∷ bytes) h k =
    stripped-byte e b bytes (nothing_out e (key_or_sequence (b ∷ bytes)) h k) ∙ ap (with_byte b) (stripped-unasked e bytes h k)

pub refined-unasked : (e : Expected) (bytes : List ℕ) → e.asked ≡ 0 → e.resizes ≡ false → refined e (paste bytes) ≡ (paste (utf8_lossy bytes) ∷ [], e)
unfolding refined
refined-unasked e bytes h k = ap paste_events (stripped-unasked e bytes h k)

-- ---- what a text loses

-- the rest after a reply
front_of_reply : (e : Expected) (b : ℕ) (bytes : List ℕ) (x : EventValue × (Expected × List ℕ)) → reply_at e (b ∷ bytes) ≡ Some x → (front : List ℕ) × (b ∷ bytes ≡ (b ∷ front) ++ x.1.1)
front_of_reply e b bytes x is =
    let read = (leaves_rest e (key_or_sequence (b ∷ bytes))).is x is in
    let same = (keeps_key_or_sequence b bytes).unchanged (read.0, x.1.1) read.1 in
    (same.front, ap (λ xs. b ∷ xs) same.whole)

without_within : (n : ℕ) (e : Expected) (bytes : List ℕ) → length bytes ≤ n → IsWithout e bytes (stripped e bytes)
without_within n e [] h = let P : Stripped → Type 0 = λ s. IsWithout e [] s in subst P (sym (stripped-nil e)) (at_end e)
without_within zero e (b ∷ bytes) h = absurd (omega arith)
without_within (suc n) e (b ∷ bytes) h = by_reply (λ f rest i. without_within n f rest i) (reply_at e (b ∷ bytes)) refl
  where
    by_reply : ((f : Expected) (rest : List ℕ) → length rest ≤ n → IsWithout f rest (stripped f rest)) → (o : Reply) → reply_at e (b ∷ bytes) ≡ o → IsWithout e (b ∷ bytes) (stripped e (b ∷ bytes))
    by_reply later None is =
        let P : Stripped → Type 0 = λ s. IsWithout e (b ∷ bytes) s in
        subst P (sym (stripped-byte e b bytes is)) (kept_byte e b bytes (stripped e bytes) (later e bytes (omega arith)))
    by_reply later (Some x) is =
        let short = reply-shorter e b bytes x is in
        let front = front_of_reply e b bytes x is in
        let rest = later x.1.0 x.1.1 (omega arith) in
        let P : Stripped → Type 0 = λ s. IsWithout e (b ∷ bytes) s in
        let Q : List ℕ → Type 0 = λ xs. IsWithout e xs (with_reply x.0 (stripped x.1.0 x.1.1)) in
        let read : reply_at e ((b ∷ front.0) ++ x.1.1) ≡ Some (x.0, (x.1.0, x.1.1)) = ap (reply_at e) (sym front.1) ∙ is in
        subst P (sym (stripped-reply e b bytes x is)) (subst Q (sym front.1) (no_reply e x.1.0 b front.0 x.1.1 x.0 (stripped x.1.0 x.1.1) read rest))

pub stripped-without : (e : Expected) (bytes : List ℕ) → IsWithout e bytes (stripped e bytes)
stripped-without e bytes = without_within (length bytes) e bytes (omega arith)

-- ---- how many

some_out : (n : ℕ) → nat_lt 0 n ≡ true → 0 < n
some_out n h = grind (arith, nat_tests)

abbrev OneFewer : Expected → Expected → Type 0
OneFewer e after = (after.resizes ≡ false) × (after.asked + 1 ≤ e.asked)

fewer_if : (t : Bool) (value : EventValue) (e : Expected) (bytes : List ℕ) (x : EventValue × (Expected × List ℕ)) → (t ≡ true → 0 < e.asked) → e.resizes ≡ false → reply_if t value (answered e) bytes ≡ Some x → OneFewer e x.1.0
fewer_if true value e bytes x h off is =
    let pair : (value, (answered e, bytes)) ≡ x = (cc) in
    let same : answered e ≡ x.1.0 = ap (λ (y : EventValue × (Expected × List ℕ)). y.1.0) pair in
    let count : x.1.0.asked ≡ e.asked - 1 = ap (λ (f : Expected). f.asked) (sym same) in
    let out = h refl in
    (ap (λ (f : Expected). f.resizes) (sym same) ∙ off, omega arith)
fewer_if false value e bytes x h off is = (cc)

fewer_out : (e : Expected) (o : EventAndRest) (x : EventValue × (Expected × List ℕ)) → e.resizes ≡ false → as_reply e o ≡ Some x → OneFewer e x.1.0
unfolding as_reply
fewer_out e (Some (size columns rows, bytes)) x off is = fewer_if (nat_lt 0 e.asked) (size columns rows) e bytes x (some_out e.asked) off is
fewer_out e (Some (cursor column row, bytes)) x off is = fewer_if (nat_lt 0 e.asked) (cursor column row) e bytes x (some_out e.asked) off is
fewer_out e (Some (resized columns rows, bytes)) x off is =
    let never : None ≡ Some x = sym (ap (λ (t : Bool). reply_if t (size columns rows) e bytes) off) ∙ is in (cc)
fewer_out e (Some (input i, bytes)) x off is = (cc)
fewer_out e (Some (paste text, bytes)) x off is = (cc)
fewer_out e (Some (mouse m, bytes)) x off is = (cc)
fewer_out e (Some (focus_gained, bytes)) x off is = (cc)
fewer_out e (Some (focus_lost, bytes)) x off is = (cc)
fewer_out e (Some (unknown, bytes)) x off is = (cc)
fewer_out e (Some (released, bytes)) x off is = (cc)
fewer_out e None x off is = (cc)

few_without : (e : Expected) (bytes : List ℕ) (s : Stripped) → IsWithout e bytes s → e.resizes ≡ false → length s.replies ≤ e.asked
few_without e bytes s (at_end _) off = omega arith
few_without e bytes s (kept_byte _ b rest t w) off = few_without e rest t w off
few_without e bytes s (no_reply _ after b front rest value t read w) off =
    let fewer = fewer_out e (key_or_sequence ((b ∷ front) ++ rest)) (value, (after, rest)) off read in
    let few = few_without after rest t w fewer.0 in
    omega (arith, fewer.1, few)

-- at most as many replies are removed as are out
pub few_replies : (e : Expected) (text : List ℕ) → e.resizes ≡ false → length (stripped e text).replies ≤ e.asked
few_replies e text off = few_without e text (stripped e text) (stripped-without e text) off
