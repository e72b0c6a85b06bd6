-- A decoder's steps, whatever the slices of its bytes.
use Rattle.std.proofs.Common.{◌≡◌, ℕ, suc, ◌+◌, ◌-◌, ◌<◌, ◌≤◌, Bool, true, false, cond, List, [], ◌∷◌, ◌++◌, length, map, drop, Option, Some, None, refl, sym, ap, ◌∙◌, arith, ⊎_elim}
use Rattle.std.specs.Prelude.{option_map, is_some, nat_lt, min}
use Rattle.std.proofs.lemmas.List.{length-drop, length-append, append_assoc, append-nil, drop-append-le}
use Rattle.std.proofs.lemmas.Bool.{cases_lt}
use Rattle.textarea_data.specs.declared.input.Input.{Input}
use Rattle.textarea_terminal.specs.declared.input.reply.Expected.{Expected}
use Rattle.textarea_terminal.specs.InputEvent.{EventValue}
use Rattle.textarea_terminal.specs.InputReply.{refined, refining}
use Rattle.textarea_terminal.specs.InputState.{DecoderState, IsReady, Reading, reading_kept, last_five, reading_dropped, reading, quiet_after, after_reading, fed, pause_limit, after_short}
use Rattle.textarea_terminal.specs.InputState.{short_pause, settled, settled_by, long_pause, paused, DecoderCall, feed, idle, ask, set_resizes, set_console, new_decoder, after_call, after_calls}
use Rattle.textarea_terminal.specs.InputState.{stream_of}
use Rattle.textarea_terminal.specs.InputStream.{Decoding, begun_bytes, idle_keys, idle_of, idle_decoding}
use Rattle.textarea_terminal.specs.InputUnit.{unit_at, paste_end, after_mark, mark_index}
use Rattle.textarea_terminal.proofs.InputMarks.{index_of-fits, index_of-more, no_place, still_none}
use Rattle.textarea_terminal.proofs.InputUnits.{unit_at-nil}
use Rattle.textarea_terminal.proofs.InputStreams.{decoding-append, decoding-none, rest_of-begun}

-- one step, and then another
abbrev pub chain : List EventValue × DecoderState → (DecoderState → List EventValue × DecoderState) → List EventValue × DecoderState
chain a f = (a.0 ++ (f a.1).0, (f a.1).1)

-- ---- values, one after another

pub refining-append : (e : Expected) (xs ys : List EventValue) → refining e (xs ++ ys) ≡ ((refining e xs).0 ++ (refining (refining e xs).1 ys).0, (refining (refining e xs).1 ys).1)
unfolding refining
refining-append e [] ys = refl
refining-append e (x ∷ xs) ys =
    let first = (refined e x).0 in
    let mid = refining (refined e x).1 xs in
    ap (λ (d : List EventValue × Expected). (first ++ d.0, d.1)) (refining-append (refined e x).1 xs ys)
    ∙ ap (λ (values : List EventValue). (values, (refining mid.1 ys).1)) (sym (append_assoc first mid.0 (refining mid.1 ys).0))

-- ---- what is read of bytes

abbrev joined : Reading → Reading → Reading
joined r t = record { values = r.values ++ t.values; drops = t.drops; pending = t.pending }

kept-append : (bytes more : List ℕ) → reading_kept (bytes ++ more) ≡ joined (reading_kept bytes) (reading_kept (begun_bytes bytes ++ more))
kept-append bytes more = ap (λ (d : Decoding). record { values = d.0; drops = false; pending = d.1 }) (decoding-append bytes more)

abbrev dropped : List ℕ → Reading
dropped bytes = reading_dropped bytes (mark_index paste_end bytes)

last_five-cons : (b : ℕ) (bytes : List ℕ) → 5 ≤ length bytes → last_five (b ∷ bytes) ≡ last_five bytes
last_five-cons b bytes h = let n : suc (length bytes) - 5 ≡ suc (length bytes - 5) = omega arith in ap (λ (k : ℕ). drop k (b ∷ bytes)) n

dropped-later : (b : ℕ) (bytes : List ℕ) (o : Option ℕ) → 5 ≤ length bytes → reading_dropped (b ∷ bytes) (option_map suc o) ≡ reading_dropped bytes o
dropped-later b bytes None h = ap (λ (xs : List ℕ). record { values = []; drops = true; pending = xs }) (last_five-cons b bytes h)
dropped-later b bytes (Some k) h = let n : suc k + 6 ≡ suc (k + 6) = omega arith in ap (λ (m : ℕ). reading_kept (drop m (b ∷ bytes))) n

mark_index-later : (b : ℕ) (bytes more : List ℕ) → 5 ≤ length bytes → mark_index paste_end (b ∷ bytes) ≡ None →
    (mark_index paste_end (b ∷ (bytes ++ more)) ≡ option_map suc (mark_index paste_end (bytes ++ more))) × (mark_index paste_end bytes ≡ None)
unfolding mark_index
mark_index-later b bytes more h none =
    let components = no_place (is_some (after_mark paste_end (b ∷ bytes))) (mark_index paste_end bytes) none in
    (rw (still_none paste_end (b ∷ bytes) more (omega arith) components.0) refl, components.1)

-- bytes before the last five make no difference
dropped-front : (bytes more : List ℕ) → mark_index paste_end bytes ≡ None → dropped (bytes ++ more) ≡ dropped (last_five bytes ++ more)
dropped-front [] more none = refl
dropped-front (b ∷ bytes) more none = ⊎_elim
    (λ (short : length bytes < 5).
    let n : suc (length bytes) - 5 ≡ 0 = omega arith in
    ap (λ (k : ℕ). dropped (drop k (b ∷ bytes) ++ more)) (sym n))
    (λ (long : 5 ≤ length bytes).
    let later = mark_index-later b bytes more long none in
    let enough : 5 ≤ length (bytes ++ more) = simp length-append (omega arith) in
    ap (reading_dropped (b ∷ (bytes ++ more))) later.0
    ∙ dropped-later b (bytes ++ more) (mark_index paste_end (bytes ++ more)) enough
    ∙ dropped-front bytes more later.1 ∙ ap (λ (xs : List ℕ). dropped (xs ++ more)) (sym (last_five-cons b bytes long)))
    (cases_lt (length bytes) 5)

dropped-append : (bytes more : List ℕ) (o : Option ℕ) → mark_index paste_end bytes ≡ o → dropped (bytes ++ more) ≡ joined (reading_dropped bytes o) (reading (reading_dropped bytes o).drops ((reading_dropped bytes o).pending ++ more))
unfolding reading
dropped-append bytes more None is = dropped-front bytes more is
dropped-append bytes more (Some k) is =
    let fits : k + 6 ≤ length bytes = index_of-fits paste_end bytes k is in
    ap (reading_dropped (bytes ++ more)) (index_of-more paste_end bytes more k is)
    ∙ ap reading_kept (drop-append-le (k + 6) bytes more fits) ∙ kept-append (drop (k + 6) bytes) more

reading-append : (drops : Bool) (bytes more : List ℕ) → reading drops (bytes ++ more) ≡ joined (reading drops bytes) (reading (reading drops bytes).drops ((reading drops bytes).pending ++ more))
unfolding reading
reading-append false bytes more = kept-append bytes more
reading-append true bytes more = dropped-append bytes more (mark_index paste_end bytes) refl

-- what is read after the end of what is dropped
pub reading-found : (bytes : List ℕ) (k : ℕ) → mark_index paste_end bytes ≡ Some k → (reading true bytes).pending ≡ begun_bytes (drop (k + 6) bytes)
unfolding reading
reading-found bytes k is = ap (λ (o : Option ℕ). (reading_dropped bytes o).pending) is

-- ---- bytes

quiet-append : (xs ys : List ℕ) (quiet : ℕ) → quiet_after (xs ++ ys) quiet ≡ quiet_after ys (quiet_after xs quiet)
quiet-append [] ys quiet = refl
quiet-append (x ∷ xs) [] quiet = refl
quiet-append (x ∷ xs) (y ∷ ys) quiet = refl

pub fed-append : (s : DecoderState) (xs ys : List ℕ) → fed s (xs ++ ys) ≡ chain (fed s xs) (λ t. fed t ys)
unfolding fed
fed-append s xs ys =
    let r = reading s.drops (s.pending ++ xs) in
    let t = reading r.drops (r.pending ++ ys) in
    let e = refining s.expected r.values in
    ap (λ (bytes : List ℕ). after_reading s (xs ++ ys) (reading s.drops bytes)) (sym (append_assoc s.pending xs ys))
    ∙ ap (after_reading s (xs ++ ys)) (reading-append s.drops (s.pending ++ xs) ys)
    ∙ ap (λ (d : List EventValue × Expected). (d.0, record { pending = t.pending; drops = t.drops; expected = d.1; quiet = quiet_after (xs ++ ys) s.quiet })) (refining-append s.expected r.values t.values)
    ∙ ap (λ (n : ℕ). (e.0 ++ (refining e.1 t.values).0, record { pending = t.pending; drops = t.drops; expected = (refining e.1 t.values).1; quiet = n })) (quiet-append xs ys s.quiet)

few-last : (bytes : List ℕ) → length (last_five bytes) ≤ 5
few-last bytes = omega (arith, length-drop (length bytes - 5) bytes)

pub record IsReadyReading (r : Reading) : Type 0 where
  pub begun : r.drops ≡ false → unit_at r.pending ≡ None
  pub few : r.drops ≡ true → length r.pending ≤ 5

kept-ready : (bytes : List ℕ) → IsReadyReading (reading_kept bytes)
kept-ready bytes = record { begun = λ e. rest_of-begun bytes; few = λ e. (cc) }

dropped-ready : (bytes : List ℕ) (o : Option ℕ) → IsReadyReading (reading_dropped bytes o)
dropped-ready bytes None = record { begun = λ e. (cc); few = λ e. few-last bytes }
dropped-ready bytes (Some k) = kept-ready (drop (k + 6) bytes)

pub reading-ready : (drops : Bool) (bytes : List ℕ) → IsReadyReading (reading drops bytes)
unfolding reading
reading-ready false bytes = kept-ready bytes
reading-ready true bytes = dropped-ready bytes (mark_index paste_end bytes)

-- a decoder after it has read bytes
pub reading_begun : (drops drops' : Bool) (bytes pending : List ℕ) → pending ≡ (reading drops bytes).pending → drops' ≡ (reading drops bytes).drops → drops' ≡ false → unit_at pending ≡ None
reading_begun drops drops' bytes pending left is begun = ap unit_at left ∙ (reading-ready drops bytes).begun (sym is ∙ begun)

pub reading_few : (drops drops' : Bool) (bytes pending : List ℕ) → pending ≡ (reading drops bytes).pending → drops' ≡ (reading drops bytes).drops → drops' ≡ true → length pending ≤ 5
reading_few drops drops' bytes pending left is dropped =
    let few = (reading-ready drops bytes).few (sym is ∙ dropped) in
    omega (arith, few, ap length left)

pub fed-ready : (s : DecoderState) (bytes : List ℕ) → IsReady (fed s bytes).1
unfolding fed
fed-ready s bytes = let r = reading-ready s.drops (s.pending ++ bytes) in record { begun = r.begun; few = r.few }

no_mark : (bytes : List ℕ) (o : Option ℕ) → length bytes ≤ 5 → mark_index paste_end bytes ≡ o → mark_index paste_end bytes ≡ None
no_mark bytes None h is = is
no_mark bytes (Some k) h is = let fits : k + 6 ≤ length bytes = index_of-fits paste_end bytes k is in absurd (omega arith)

reading-nothing : (drops : Bool) (pending : List ℕ) → (drops ≡ false → unit_at pending ≡ None) → (drops ≡ true → length pending ≤ 5) → reading drops pending ≡ record { values = []; drops = drops; pending = pending }
unfolding reading
reading-nothing false pending h k = ap (λ (d : Decoding). record { values = d.0; drops = false; pending = d.1 }) (decoding-none pending (h refl))
reading-nothing true pending h k =
    let short = k refl in
    let n : length pending - 5 ≡ 0 = omega arith in
    ap (reading_dropped pending) (no_mark pending (mark_index paste_end pending) short refl)
    ∙ ap (λ (m : ℕ). record { values = []; drops = true; pending = drop m pending }) n

nothing-refined : (e : Expected) → refining e [] ≡ ([], e)
unfolding refining
nothing-refined e = refl

pub fed-nil : (s : DecoderState) → IsReady s → fed s [] ≡ ([], s)
unfolding fed
fed-nil s ready =
    ap (λ (bytes : List ℕ). after_reading s [] (reading s.drops bytes)) (append-nil s.pending)
    ∙ ap (after_reading s []) (reading-nothing s.drops s.pending ready.begun ready.few)
    ∙ ap (λ (d : List EventValue × Expected). (d.0, record { pending = s.pending; drops = s.drops; expected = d.1; quiet = s.quiet })) (nothing-refined s.expected)

-- ---- pauses

idle-begun : (bytes : List ℕ) (o : Option (Bool × Input)) → unit_at bytes ≡ None → unit_at (idle_of bytes o).1 ≡ None
idle-begun bytes None h = h
idle-begun bytes (Some keys) h = unit_at-nil

short-ready : (s : DecoderState) (quiet : ℕ) (drops : Bool) → IsReady s → s.drops ≡ drops → IsReady (after_short s quiet (cond drops ([], s.pending) (idle_decoding s.pending))).1
unfolding idle_decoding
short-ready s quiet true ready e = record { begun = ready.begun; few = ready.few }
short-ready s quiet false ready e = record {
  begun = λ off. idle-begun s.pending (idle_keys s.pending) (ready.begun off);
  few = λ yes. let both : false ≡ true = sym e ∙ yes in (cc);
}

settled-ready : (s : DecoderState) (drops : Bool) → IsReady (settled s drops)
settled-ready s drops = record { begun = λ e. unit_at-nil; few = λ e. omega arith }

pause-ready : (s : DecoderState) (quiet : ℕ) (short : Bool) → IsReady s → IsReady (cond {A = List EventValue × DecoderState} short (short_pause s quiet) (long_pause s)).1
pause-ready s quiet true ready = short-ready s quiet s.drops ready refl
pause-ready s quiet false ready = settled-ready s (settled_by s.drops s.expected s.pending).0

paused-ready : (s : DecoderState) (milliseconds : ℕ) → IsReady s → IsReady (paused s milliseconds).1
unfolding paused
paused-ready s milliseconds ready = let quiet = min pause_limit (s.quiet + milliseconds) in pause-ready s quiet (nat_lt quiet pause_limit) ready

-- ---- calls

call-ready : (s : DecoderState) (call : DecoderCall) → IsReady s → IsReady (after_call s call).1
call-ready s (feed bytes) ready = fed-ready s bytes
call-ready s (idle milliseconds) ready = paused-ready s milliseconds ready
call-ready s ask ready = record { begun = ready.begun; few = ready.few }
call-ready s (set_resizes b) ready = record { begun = ready.begun; few = ready.few }
call-ready s (set_console b) ready = record { begun = ready.begun; few = ready.few }

abbrev single : ℕ → DecoderCall
single b = feed (b ∷ [])

after_calls-cons : (s : DecoderState) (call : DecoderCall) (calls : List DecoderCall) → after_calls s (call ∷ calls) ≡ chain (after_call s call) (λ t. after_calls t calls)
unfolding after_calls
after_calls-cons s call calls = refl

chain-assoc : (a : List EventValue × DecoderState) (f g : DecoderState → List EventValue × DecoderState) → chain a (λ t. chain (f t) g) ≡ chain (chain a f) g
chain-assoc a f g = let t = f a.1 in ap (λ (xs : List EventValue). (xs, (g t.1).1)) (sym (append_assoc a.0 t.0 (g t.1).0))

-- bytes one by one
singles : (s : DecoderState) (bytes : List ℕ) (calls : List DecoderCall) → IsReady s → after_calls s (map single bytes ++ calls) ≡ chain (fed s bytes) (λ t. after_calls t calls)
singles s [] calls ready = sym (ap (λ (a : List EventValue × DecoderState). chain a (λ t. after_calls t calls)) (fed-nil s ready))
singles s (b ∷ bytes) calls ready =
    after_calls-cons s (single b) (map single bytes ++ calls)
    ∙ ap (λ (d : List EventValue × DecoderState). ((fed s (b ∷ [])).0 ++ d.0, d.1)) (singles (fed s (b ∷ [])).1 bytes calls (fed-ready s (b ∷ [])))
    ∙ chain-assoc (fed s (b ∷ [])) (λ t. fed t bytes) (λ t. after_calls t calls)
    ∙ ap (λ (a : List EventValue × DecoderState). chain a (λ t. after_calls t calls)) (sym (fed-append s (b ∷ []) bytes))

streamed-cons : (s : DecoderState) (call : DecoderCall) (calls : List DecoderCall) → IsReady s → ((t : DecoderState) → IsReady t → after_calls t calls ≡ after_calls t (stream_of calls))
    → after_calls s (call ∷ calls) ≡ chain (after_call s call) (λ t. after_calls t (stream_of calls))
streamed-cons s call calls ready same =
    after_calls-cons s call calls
    ∙ ap (λ (d : List EventValue × DecoderState). ((after_call s call).0 ++ d.0, d.1)) (same (after_call s call).1 (call-ready s call ready))

pub streamed : (calls : List DecoderCall) (s : DecoderState) → IsReady s → after_calls s calls ≡ after_calls s (stream_of calls)
unfolding stream_of
streamed [] s ready = refl
streamed (feed bytes ∷ calls) s ready = streamed-cons s (feed bytes) calls ready (streamed calls) ∙ sym (singles s bytes (stream_of calls) ready)
streamed (idle milliseconds ∷ calls) s ready = streamed-cons s (idle milliseconds) calls ready (streamed calls) ∙ sym (after_calls-cons s (idle milliseconds) (stream_of calls))
streamed (ask ∷ calls) s ready = streamed-cons s ask calls ready (streamed calls) ∙ sym (after_calls-cons s ask (stream_of calls))
streamed (set_resizes b ∷ calls) s ready = streamed-cons s (set_resizes b) calls ready (streamed calls) ∙ sym (after_calls-cons s (set_resizes b) (stream_of calls))
streamed (set_console b ∷ calls) s ready = streamed-cons s (set_console b) calls ready (streamed calls) ∙ sym (after_calls-cons s (set_console b) (stream_of calls))

pub new-ready : IsReady new_decoder
new-ready = record { begun = λ e. unit_at-nil; few = λ e. (cc) }
