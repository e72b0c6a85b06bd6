-- The text after stretches are replaced: exactly these are replaced by the symbols, whatever is inserted.
use Rattle.std.proofs.Common.{◌≡◌, ◌∙◌, ◌≤◌, ℕ, ◌+◌, ◌-◌, Bool, true, false, cond, List, [], ◌∷◌, ◌++◌, length, take, drop, filter_map, min, Option, Some, None, refl, sym, ap, subst, arith}
use Rattle.std.specs.Prelude.{All}
use Rattle.std.proofs.lemmas.Bool.Decides.{nat_tests}
use Rattle.std.proofs.lemmas.List.{append-nil, append_assoc, drop_at, length-append, length-take-le, drop-drop, length-drop, take-append-drop, take_at}
use Rattle.std.proofs.lemmas.List.Elements.{All-cons, All-head, All-nil, All-tail}
use Rattle.std.proofs.Math.Seq.{take-add}
use Rattle.textarea_text.proofs.PlacesAfterSplice.{end_after, end_from, shifted_end}
use Rattle.textarea_text.proofs.Splices.{end-append, inserted_at, removed_at}
use Rattle.textarea_text.proofs.TextPlaces.{IsPlace-end, index_parted}
use Rattle.textarea_data.specs.declared.range.AtomicCursorBias.{AtomicCursorBias}
use Rattle.textarea_data.specs.declared.range.AtomicCursorBias.TheVariants.{Backward, Forward}
use Rattle.textarea_ranges.specs.Lookup.{is_inside, range_edge_or}
use Rattle.textarea_ranges.specs.Moved.{shifted_range}
use Rattle.textarea_ranges.proofs.Moving.{Left, MovesOn, StaysThere, left}
use Rattle.textarea_text.specs.PlacesAfterSplice.{shifted}
use Rattle.textarea_document.specs.Prelude.{AtomicRange, DocumentState, Fits, IsInside, IsPlace, IsSound, IsUpTo, Place, Splice, Symbol, after_edit, between_removed, cons_option, end, index_of, is_before, is_open}
use Rattle.textarea_document.specs.Prelude.{insertion, moved_out, moved_range, moved_ranges, place_after, place_before, range_around, range_end, range_start, removal, symbols_between, symbols_inserted, group_ended}
use Rattle.textarea_document.specs.ReplacedText.{AreReplaceable, AreStretches, IsOutside, with_replaced}
use Rattle.textarea_document.specs.Replacing.{ahead_replaced, all_replaced, begun, begun_at_start, each_replaced, ended_after, place_ahead, stretch_removed, stretch_replaced}
use Rattle.textarea_document.proofs.Layouts.{all_relaid}
use Rattle.textarea_document.proofs.Sounds.{sound_begun, sound_edited, sound_otherwise, start_is_place}

-- ---- a position that is strictly inside no range stays outside of all after a splice

abbrev IsOrdered : AtomicRange → Type 0
IsOrdered range = range.start_col ≤ range.end_col

inside_shifted : (old new place : Place) (range : AtomicRange) → IsOrdered range → IsUpTo old place → IsUpTo old (range_start range) → IsInside (shifted old new place) (shifted_range old new range) → IsInside place range
inside_shifted old new place range ordered up from inside = (grind (arith, nat_tests), grind (arith, nat_tests), grind (arith, nat_tests))

after_from : (splice : Splice) → IsUpTo splice.place (place_after splice)
after_from splice = by splice.inserts
  where
    by : (inserts : Bool) → IsUpTo splice.place (cond inserts (end splice.place splice.symbols) splice.place)
    by true = end_from splice.place splice.symbols
    by false = end_from splice.place []

never_inside : (start after place : Place) (range : AtomicRange) → IsUpTo (range_end range) start → IsUpTo start after → IsUpTo after place → IsInside place range → ⊥
never_inside start after place range up from further inside =
    omega (arith, up.0, up.1, from.0, from.1, further.0, further.1, inside.0, inside.1, inside.2)

stays_outside : (splice : Splice) (range new : AtomicRange) (xs : List Symbol) → IsOrdered range → ¬ IsInside (end (place_before splice) xs) range → moved_range splice range ≡ Some new →
    ¬ IsInside (end (place_after splice) xs) new
stays_outside splice range new xs ordered out e inside = by (left splice range new e)
  where
    before : Place
    before = place_before splice

    after : Place
    after = place_after splice

    by : Left splice range new → ⊥
    by (StaysThere up same) =
        never_inside splice.place after (end after xs) range up (after_from splice) (end_from after xs) (subst (IsInside (end after xs)) same inside)
    by (MovesOn up same) =
        out (inside_shifted before after (end before xs) range ordered (end_from before xs) up
        (subst (λ (p : Place). IsInside p (shifted_range before after range)) (sym (shifted_end before after xs)) (subst (IsInside (end after xs)) same inside)))

outside_option : (place : Place) (found : Option AtomicRange) (rest : List AtomicRange) → ((new : AtomicRange) → found ≡ Some new → ¬ IsInside place new) → IsOutside rest place →
    IsOutside (cons_option found rest) place
outside_option place None rest one others = others
outside_option place (Some new) rest one others = All-cons (λ range. ¬ IsInside place range) new rest (one new refl) others

outside_all : (splice : Splice) (ranges : List AtomicRange) (xs : List Symbol) → All IsOrdered ranges → IsOutside ranges (end (place_before splice) xs) →
    IsOutside (filter_map (moved_range splice) ranges) (end (place_after splice) xs)
outside_all splice [] xs ordered out = All-nil (λ range. ¬ IsInside (end (place_after splice) xs) range)
outside_all splice (range ∷ ranges) xs ordered out =
    outside_option (end (place_after splice) xs) (moved_range splice range) (filter_map (moved_range splice) ranges)
    (λ new e. stays_outside splice range new xs (All-head IsOrdered range ranges ordered) (All-head (λ r. ¬ IsInside (end (place_before splice) xs) r) range ranges out) e)
    (outside_all splice ranges xs (All-tail IsOrdered range ranges ordered) (All-tail (λ r. ¬ IsInside (end (place_before splice) xs) r) range ranges out))

outside_moved : (document : DocumentState) (splice : Splice) (xs : List Symbol) → IsSound document → IsOutside document.ranges (end (place_before splice) xs) →
    IsOutside (moved_ranges document.ranges splice) (end (place_after splice) xs)
unfolding moved_ranges
outside_moved document splice xs h out =
    outside_all splice document.ranges xs (λ k d within. omega (arith, (h.ranges.components k d within).1)) out

-- ---- such a position is not moved out of a range

inside_test : (place : Place) (range : AtomicRange) → is_inside place range ≡ true → IsInside place range
inside_test place range e = (grind (arith, nat_tests), grind (arith, nat_tests), grind (arith, nat_tests))

none_around : (ranges : List AtomicRange) (place : Place) → IsOutside ranges place → range_around ranges place ≡ None
none_around [] place out = refl
none_around (range ∷ ranges) place out =
    by (is_inside place range) refl (none_around ranges place (All-tail (λ r. ¬ IsInside place r) range ranges out))
  where
    by : (b : Bool) → is_inside place range ≡ b → range_around ranges place ≡ None → cond b (Some range) (range_around ranges place) ≡ None
    by true e later = absurd (All-head (λ r. ¬ IsInside place r) range ranges out (inside_test place range e))
    by false e later = later

stays_out : (ranges : List AtomicRange) (place : Place) (bias : AtomicCursorBias) → IsOutside ranges place → moved_out ranges place bias ≡ place
stays_out ranges place bias out = ap (λ (found : Option AtomicRange). range_edge_or found place bias) (none_around ranges place out)

-- ---- a removal, of some symbols or of none

abbrev pub place_at : List Symbol → Place
place_at front = end (0, 0) front

pub record Removed (document : DocumentState) (front gone back : List Symbol) (new : DocumentState) : Type 0 where
  pub sound : IsSound new
  pub text : new.text ≡ front ++ back
  pub cursor : new.cursor ≡ place_at front
  pub outside : (xs : List Symbol) → IsOutside document.ranges (end (place_at front) (gone ++ xs)) → IsOutside new.ranges (end (place_at front) xs)

never_before : (place : Place) → is_before place place ≡ false
never_before place = grind (arith, nat_tests)

before_end : (place : Place) (symbol : Symbol) (symbols : List Symbol) → is_before place (end place (symbol ∷ symbols)) ≡ true
before_end place symbol symbols =
    let h = end_after place symbol symbols in
    grind (arith, nat_tests)

sound_moved : (document : DocumentState) (place : Place) → IsSound document → IsPlace document.text place → IsSound (record document { cursor = place; anchor = None; log = record document.log { run_open = false } })
sound_moved document place h at = sound_otherwise document document.layout place None false document.log.group document.changes h at tt

-- the symbols between two positions of a text in three parts
between_parts : (text front gone back : List Symbol) → text ≡ front ++ (gone ++ back) → symbols_between text (place_at front) (end (place_at front) gone) ≡ gone
between_parts text front gone back is =
    let start : index_of text (place_at front) ≡ length front = ap (λ t. index_of t (place_at front)) is ∙ index_parted (place_at front) front (gone ++ back) refl in
    let stop : index_of text (end (place_at front) gone) ≡ length (front ++ gone) =
    ap (λ t. index_of t (end (place_at front) gone)) (is ∙ sym (append_assoc front gone back)) ∙ index_parted (end (place_at front) gone) (front ++ gone) back (end-append (0, 0) front gone) in
    let count : index_of text (end (place_at front) gone) - index_of text (place_at front) ≡ length gone = omega (arith, start, stop, length-append front gone) in
    ap (λ n. take n (drop (index_of text (place_at front)) text)) count
    ∙ ap (λ n. take (length gone) (drop n text)) start
    ∙ ap (λ t. take (length gone) (drop (length front) t)) is
    ∙ ap (take (length gone)) (drop_at front (gone ++ back) (length front) refl)
    ∙ take_at gone back (length gone) refl

removed_parts : (document : DocumentState) (front : List Symbol) (symbol : Symbol) (gone back : List Symbol) (now : ℕ) → IsSound document → document.text ≡ front ++ ((symbol ∷ gone) ++ back) →
    IsOutside document.ranges (place_at front) → IsOutside document.ranges (end (place_at front) (symbol ∷ gone)) →
    Removed document front (symbol ∷ gone) back (between_removed document (place_at front) (end (place_at front) (symbol ∷ gone)) now)
unfolding between_removed
removed_parts document front symbol gone back now h is out_start out_stop =
    let symbols = symbol ∷ gone in
    let start = place_at front in
    let stop = end start symbols in
    let splice : Splice = record { place = start; symbols = symbols; inserts = false } in
    let narrow : removal document.text (moved_out document.ranges start Backward) (moved_out document.ranges stop Forward) ≡ splice =
    ap (λ (p : Place). removal document.text p (moved_out document.ranges stop Forward)) (stays_out document.ranges start Backward out_start)
    ∙ ap (removal document.text start) (stays_out document.ranges stop Forward out_stop)
    ∙ ap (λ (s : List Symbol). record { place = start; symbols = s; inserts = false }) (between_parts document.text front symbols back is) in
    let at : index_of (front ++ (symbols ++ back)) start ≡ length front = index_parted start front (symbols ++ back) refl in
    let fits : Fits document.text splice = record {
      some = omega arith;
      is_place = subst (λ t. IsPlace t start) (sym is) (IsPlace-end front (symbols ++ back));
      allowed = ap (λ t. take (length symbols) (drop (index_of t start) t)) is
          ∙ ap (λ n. take (length symbols) (drop n (front ++ (symbols ++ back)))) at
          ∙ ap (take (length symbols)) (drop_at front (symbols ++ back) (length front) refl)
          ∙ take_at symbols back (length symbols) refl;
    } in
    let leaves : Removed document front symbols back (after_edit document splice false now) = record {
      sound = sound_edited document splice false now h fits;
      text = ap (λ t. take (index_of t start) t ++ drop (index_of t start + length symbols) t) is ∙ removed_at front back symbols start at;
      cursor = refl;
      outside = λ xs out. outside_moved document splice xs h (subst (IsOutside document.ranges) (end-append start symbols xs) out);
    } in
    subst (λ (s : Splice). Removed document front symbols back (after_edit document s false now)) (sym narrow) leaves

removed_none : (document : DocumentState) (front back : List Symbol) → IsSound document → document.text ≡ front ++ back →
    Removed document front [] back (record document { cursor = place_at front; anchor = None; log = record document.log { run_open = false } })
removed_none document front back h is = record {
  sound = sound_moved document (place_at front) h (subst (λ t. IsPlace t (place_at front)) (sym is) (IsPlace-end front back));
  text = is;
  cursor = refl;
  outside = λ xs out. out;
}

pub removed : (document : DocumentState) (front gone back : List Symbol) (now : ℕ) → IsSound document → document.text ≡ front ++ (gone ++ back) → IsOutside document.ranges (place_at front) →
    IsOutside document.ranges (end (place_at front) gone) → Removed document front gone back (stretch_removed document (place_at front) (end (place_at front) gone) now)
unfolding stretch_removed
removed document front [] back now h is out_start out_stop =
    let start = place_at front in
    let moved = record document { cursor = start; anchor = None; log = record document.log { run_open = false } } in
    subst (λ b. Removed document front [] back (cond b (between_removed document start start now) moved)) (sym (never_before start)) (removed_none document front back h is)
removed document front (symbol ∷ gone) back now h is out_start out_stop =
    let start = place_at front in
    let stop = end start (symbol ∷ gone) in
    let moved = record document { cursor = start; anchor = None; log = record document.log { run_open = false } } in
    subst (λ b. Removed document front (symbol ∷ gone) back (cond b (between_removed document start stop now) moved)) (sym (before_end start symbol gone))
    (removed_parts document front symbol gone back now h is out_start out_stop)

-- ---- an insertion, of some symbols or of none

record Inserted (document : DocumentState) (front symbols back : List Symbol) (new : DocumentState) : Type 0 where
  sound : IsSound new
  text : new.text ≡ (front ++ symbols) ++ back
  cursor : new.cursor ≡ place_at (front ++ symbols)
  outside : (xs : List Symbol) → IsOutside document.ranges (end (place_at front) xs) → IsOutside new.ranges (end (place_at (front ++ symbols)) xs)

inserted_at_cursor : (document : DocumentState) (front symbols back : List Symbol) (now : ℕ) → IsSound document → document.text ≡ front ++ back → document.cursor ≡ place_at front →
    IsOutside document.ranges (place_at front) → Inserted document front symbols back (symbols_inserted document symbols now)
inserted_at_cursor document front [] back now h is at out =
    let start = place_at front in
    let place = moved_out document.ranges document.cursor Forward in
    let here : place ≡ start = ap (λ (p : Place). moved_out document.ranges p Forward) at ∙ stays_out document.ranges start Forward out in
    record {
      sound =
          sound_otherwise document document.layout place None document.log.run_open document.log.group document.changes h
          (subst (IsPlace document.text) (sym here) (subst (λ t. IsPlace t start) (sym is) (IsPlace-end front back))) tt;
      text = is ∙ ap (λ t. t ++ back) (sym (append-nil front));
      cursor = here ∙ ap place_at (sym (append-nil front));
      outside = λ xs out. subst (λ t. IsOutside document.ranges (end (place_at t) xs)) (sym (append-nil front)) out;
    }
inserted_at_cursor document front (symbol ∷ more) back now h is at out =
    let symbols = symbol ∷ more in
    let start = place_at front in
    let splice : Splice = record { place = start; symbols = symbols; inserts = true } in
    let here : insertion (moved_out document.ranges document.cursor Forward) symbols ≡ splice =
    ap (λ (p : Place). insertion p symbols) (ap (λ (p : Place). moved_out document.ranges p Forward) at ∙ stays_out document.ranges start Forward out) in
    let fits : Fits document.text splice = record {
      some = omega arith;
      is_place = subst (λ t. IsPlace t start) (sym is) (IsPlace-end front back);
      allowed = tt;
    } in
    let leaves : Inserted document front symbols back (after_edit document splice false now) = record {
      sound = sound_edited document splice false now h fits;
      text = ap (λ t. take (index_of t start) t ++ (symbols ++ drop (index_of t start) t)) is ∙ inserted_at front back symbols start (index_parted start front back refl)
          ∙ sym (append_assoc front symbols back);
      cursor = sym (end-append (0, 0) front symbols);
      outside = λ xs out. subst (λ (p : Place). IsOutside (moved_ranges document.ranges splice) (end p xs)) (sym (end-append (0, 0) front symbols)) (outside_moved document splice xs h out);
    } in
    subst (λ (s : Splice). Inserted document front symbols back (after_edit document s false now)) (sym here) leaves

-- ---- both

pub record Replaced (document : DocumentState) (front gone symbols back : List Symbol) (new : DocumentState) : Type 0 where
  pub sound : IsSound new
  pub text : new.text ≡ (front ++ symbols) ++ back
  pub cursor : new.cursor ≡ place_at (front ++ symbols)
  pub outside : (xs : List Symbol) → IsOutside document.ranges (end (place_at front) (gone ++ xs)) → IsOutside new.ranges (end (place_at (front ++ symbols)) xs)

pub replaced : (document : DocumentState) (front gone symbols back : List Symbol) (now : ℕ) → IsSound document → document.text ≡ front ++ (gone ++ back) → IsOutside document.ranges (place_at front) →
    IsOutside document.ranges (end (place_at front) gone) → Replaced document front gone symbols back (stretch_replaced document (place_at front) (end (place_at front) gone) symbols now)
unfolding stretch_replaced
replaced document front gone symbols back now h is out_start out_stop =
    let between = stretch_removed document (place_at front) (end (place_at front) gone) now in
    let first = removed document front gone back now h is out_start out_stop in
    let here = first.outside [] (subst (λ t. IsOutside document.ranges (end (place_at front) t)) (sym (append-nil gone)) out_stop) in
    let second = inserted_at_cursor between front symbols back now first.sound first.text first.cursor here in
    record { sound = second.sound; text = second.text; cursor = second.cursor; outside = λ xs out. second.outside xs (first.outside xs out) }

-- ---- one stretch after another

-- later stretches are outside of ranges after it too
still_stretches : (old new : List AtomicRange) (p q : Place) → ((xs : List Symbol) → IsOutside old (end p xs) → IsOutside new (end q xs)) → (left : List Symbol) (passed : ℕ) (stretches : List (ℕ × ℕ)) →
    AreStretches old p left passed stretches → AreStretches new q left passed stretches
still_stretches old new p q goes left passed [] h = tt
still_stretches old new p q goes left passed (stretch ∷ rest) h =
    let t = take (stretch.1 - passed) left in (
      h.0,
      h.1,
      h.2,
      goes (take (stretch.0 - passed) left) h.3,
      goes t h.4,
      still_stretches old new (end p t) (end q t)
          (λ xs out. subst (IsOutside new) (end-append q t xs) (goes (t ++ xs) (subst (IsOutside old) (sym (end-append p t xs)) out)))
          (drop (stretch.1 - passed) left) stretch.1 rest h.5,
    )

-- the position some symbols ahead of one, in a text in two parts
ahead_is : (text front back : List Symbol) (place : Place) (count : ℕ) → text ≡ front ++ back → place ≡ place_at front → count ≤ length back → place_ahead text place count ≡ place_at (front ++ take count back)
ahead_is text front back place count is at within =
    let index : index_of text place ≡ length front = ap (index_of text) at ∙ ap (λ t. index_of t (place_at front)) is ∙ index_parted (place_at front) front back refl in
    let size : length text ≡ length front + length back = ap length is ∙ length-append front back in
    let count_is : min (index_of text place + count) (length text) ≡ length (front ++ take count back) =
    grind (arith, nat_tests, index, size, length-append front (take count back), length-take-le count back within) in
    let parts : text ≡ (front ++ take count back) ++ drop count back =
    is ∙ ap (λ t. front ++ t) (sym (take-append-drop count back)) ∙ sym (append_assoc front (take count back) (drop count back)) in
    ap (λ n. end (0, 0) (take n text)) count_is
    ∙ ap (λ t. end (0, 0) (take (length (front ++ take count back)) t)) parts
    ∙ ap place_at (take_at (front ++ take count back) (drop count back) (length (front ++ take count back)) refl)

each_text : (document : DocumentState) (front left : List Symbol) (passed : ℕ) (stretches : List (ℕ × ℕ)) (symbols : List Symbol) (now : ℕ) → IsSound document → document.text ≡ front ++ left →
    document.cursor ≡ place_at front → AreStretches document.ranges (place_at front) left passed stretches → (each_replaced document passed stretches symbols now).text ≡ front ++ with_replaced left passed stretches symbols
unfolding ahead_replaced
each_text document front left passed [] symbols now h is at are = is
each_text document front left passed (stretch ∷ rest) symbols now h is at are =
    let skip = stretch.0 - passed in
    let count = stretch.1 - stretch.0 in
    let kept = take skip left in
    let after = drop skip left in
    let gone = take count after in
    let back = drop count after in
    let before = front ++ kept in
    let sum : stretch.1 - passed ≡ skip + count = omega (arith, are.0, are.1) in
    let room : skip + count ≤ length left = omega (arith, sum, are.2) in
    let inside : count ≤ length after = omega (arith, room, length-drop skip left) in
    let whole : take (stretch.1 - passed) left ≡ kept ++ gone = ap (λ n. take n left) sum ∙ take-add skip count left in
    let further : drop (stretch.1 - passed) left ≡ back = ap (λ n. drop n left) sum ∙ sym (drop-drop count skip left) in
    let parts : document.text ≡ before ++ after = is ∙ ap (λ t. front ++ t) (sym (take-append-drop skip left)) ∙ sym (append_assoc front kept after) in
    let three : document.text ≡ before ++ (gone ++ back) = parts ∙ ap (λ t. before ++ t) (sym (take-append-drop count after)) in
    let start_is : place_ahead document.text document.cursor skip ≡ place_at before = ahead_is document.text front left document.cursor skip is at (omega (arith, room)) in
    let stop_is : place_ahead document.text (place_ahead document.text document.cursor skip) count ≡ end (place_at before) gone =
    ahead_is document.text before after (place_ahead document.text document.cursor skip) count parts start_is inside ∙ end-append (0, 0) before gone in
    let old = place_at front in
    let out_start : IsOutside document.ranges (place_at before) = subst (IsOutside document.ranges) (sym (end-append (0, 0) front kept)) are.3 in
    let end_is : end old (take (stretch.1 - passed) left) ≡ end (place_at before) gone =
    ap (end old) whole ∙ end-append old kept gone ∙ ap (λ (p : Place). end p gone) (sym (end-append (0, 0) front kept)) in
    let out_stop : IsOutside document.ranges (end (place_at before) gone) = subst (IsOutside document.ranges) end_is are.4 in
    let new = stretch_replaced document (place_at before) (end (place_at before) gone) symbols now in
    let one = replaced document before gone symbols back now h three out_start out_stop in
    let made : ahead_replaced document skip count symbols now ≡ new =
    ap (λ (p : Place). stretch_replaced document p (place_ahead document.text (place_ahead document.text document.cursor skip) count) symbols now) start_is
    ∙ ap (λ (p : Place). stretch_replaced document (place_at before) p symbols now) stop_is in
    let later : AreStretches new.ranges (place_at (before ++ symbols)) back stretch.1 rest =
    still_stretches document.ranges new.ranges (end (place_at before) gone) (place_at (before ++ symbols))
    (λ xs out. one.outside xs (subst (IsOutside document.ranges) (sym (end-append (place_at before) gone xs)) out)) back stretch.1 rest
    (subst (λ t. AreStretches document.ranges (end (place_at before) gone) t stretch.1 rest) further
    (subst (λ (p : Place). AreStretches document.ranges p (drop (stretch.1 - passed) left) stretch.1 rest) end_is are.5)) in
    ap (λ (d : DocumentState). (each_replaced d stretch.1 rest symbols now).text) made
    ∙ each_text new (before ++ symbols) back stretch.1 rest symbols now one.sound one.text one.cursor later
    ∙ append_assoc before symbols (with_replaced back stretch.1 rest symbols)
    ∙ append_assoc front kept (symbols ++ with_replaced back stretch.1 rest symbols)
    ∙ ap (λ t. front ++ (kept ++ (symbols ++ with_replaced t stretch.1 rest symbols))) (sym further)

pub ended_text : (before document : DocumentState) → (ended_after before document).text ≡ document.text
ended_text before document = by (is_open before.log.group)
  where
    by : (b : Bool) → (cond b document (record document { log = group_ended document.log })).text ≡ document.text
    by true = refl
    by false = refl

pub replaced_text : (document : DocumentState) (stretches : List (ℕ × ℕ)) (symbols : List Symbol) (now : ℕ) → IsSound document → AreReplaceable document stretches →
    (all_replaced document stretches symbols now).text ≡ with_replaced document.text 0 stretches symbols
unfolding all_replaced
replaced_text document [] symbols now h are = refl
replaced_text document (stretch ∷ rest) symbols now h are =
    let stretches = stretch ∷ rest in
    let start = begun_at_start document in
    ap (λ (d : DocumentState). d.text) (all_relaid document stretch rest symbols now)
    ∙ ended_text document (each_replaced start 0 stretches symbols now)
    ∙ each_text start [] document.text 0 stretches symbols now (sound_moved (begun document) (0, 0) (sound_begun document h) (start_is_place document.text)) refl refl are
