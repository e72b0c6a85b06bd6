-- Control sequences of the general form, and decimal numbers in them.
use Rattle.std.proofs.Common.{◌≡◌, ◌≢◌, ℕ, zero, suc, ◌+◌, ◌-◌, ◌*◌, ◌/◌, ◌%◌, ◌<◌, ◌≤◌, Bool, true, false, cond, eqb, ltb, List, [], ◌∷◌, ◌++◌, length, take, drop, min, Option, Some, None, refl, sym, ap, ◌∙◌, arith, ⊎_elim}
use Rattle.std.proofs.lemmas.List.{length-append, append-nil}
use Rattle.std.proofs.Math.Seq.{drop-append_seam, take-append_seam}
use Rattle.std.proofs.lemmas.Bool.{eq-eqb, ne_eqb, lt-ltb, le-ltb, cases_lt}
use Rattle.std.proofs.lemmas.Bool.Decides.{nat_tests}
use Rattle.textarea_terminal.specs.InputEvent.{EventAndRest, unknown}
use Rattle.textarea_terminal.specs.InputParameter.{is_digit, number_limit, digit_at, number_from, number_at, number_after, count_of, parameters_of, after_first, after_shifted, after_base, after_second, after_kind, after_third}
use Rattle.textarea_terminal.specs.declared.input.parameter.Parameters.{Parameters}
use Rattle.textarea_terminal.specs.InputSequence.{is_text, text_limit, string_at, after_text, after_text_escape, is_inner, is_final, count_front, inner_limit, final_at, after_inner, control_at}
use Rattle.textarea_terminal.specs.InputSequence.{shift_key_at, shift_key_after_one, shift_key_after_two, bracket_at, or_else, sequence_event}
use Rattle.textarea_terminal.specs.InputUnit.{unit_at, after_mark, paste_start, key_or_sequence, escape_at, begins_string}
use Rattle.textarea_terminal.specs.InputRow.{AreInner, AreText, IsGeneral, digit, decimal, bracket}
use Rattle.textarea_terminal.proofs.InputPrefixes.{number_from-end, count_front-zero, count_front-cons, count_front-cons_end}
use Rattle.textarea_terminal.proofs.InputMarks.{after_mark-whole}
use Rattle.textarea_terminal.proofs.InputUnits.{control_after_count, control_at-counted, string_after_count, string_at-counted, escape-string, unit-other}

-- ---- where a sequence ends

final-not_inner : (b : ℕ) → is_final b ≡ true → is_inner b ≡ false
final-not_inner b h = grind (arith, nat_tests)

final-not_digit : (b : ℕ) → is_final b ≡ true → is_digit b ≡ false
final-not_digit b h = grind (arith, nat_tests)

final-range : (b : ℕ) → is_final b ≡ true → 64 ≤ b
final-range b h = grind (arith, nat_tests)

inner-range : (b : ℕ) → is_inner b ≡ true → b < 64
inner-range b h = grind (arith, nat_tests)

count_front-inner : (most : ℕ) (inner : List ℕ) (last : ℕ) (more : List ℕ) → AreInner inner → length inner < most → is_final last ≡ true → count_front is_inner most (inner ++ last ∷ more) ≡ length inner
count_front-inner most [] last more h k f = count_front-cons_end is_inner most last more (final-not_inner last f)
count_front-inner zero (b ∷ inner) last more h k f = absurd (omega arith)
count_front-inner (suc most) (b ∷ inner) last more h k f =
    count_front-cons is_inner most b (inner ++ last ∷ more) h.0.0 ∙ ap suc (count_front-inner most inner last more h.1 (omega arith) f)

no_shifted_two : (n : ℕ) (inner : List ℕ) (last : ℕ) (more : List ℕ) → AreInner inner → is_final last ≡ true → shift_key_after_two n (inner ++ last ∷ more) ≡ None
unfolding shift_key_after_two
no_shifted_two n [] last more h f = let no = ne_eqb last 36 (λ e. let high = final-range last f in omega arith) in rw no refl
no_shifted_two n (b ∷ inner) last more h f = rw (ne_eqb b 36 h.0.1) refl

no_shifted_one : (n : ℕ) (inner : List ℕ) (last : ℕ) (more : List ℕ) → AreInner inner → is_final last ≡ true → shift_key_after_one n (inner ++ last ∷ more) ≡ None
unfolding shift_key_after_one
no_shifted_one n [] last more h f =
    let no = ne_eqb last 36 (λ e. let high = final-range last f in omega arith) in rw (no, final-not_digit last f) refl
no_shifted_one n (b ∷ inner) last more h f = rw (ne_eqb b 36 h.0.1) (chosen (is_digit b))
  where
    chosen : (t : Bool) → cond t (shift_key_after_two (10 * n + (b - 48)) (inner ++ last ∷ more)) None ≡ None
    chosen true = no_shifted_two (10 * n + (b - 48)) inner last more h.1 f
    chosen false = refl

no_shifted_at : (inner : List ℕ) (last : ℕ) (more : List ℕ) → AreInner inner → is_final last ≡ true → shift_key_at (inner ++ last ∷ more) ≡ None
unfolding shift_key_at
no_shifted_at [] last more h f = rw (final-not_digit last f) refl
no_shifted_at (b ∷ inner) last more h f = chosen (is_digit b)
  where
    chosen : (t : Bool) → cond t (shift_key_after_one (b - 48) (inner ++ last ∷ more)) None ≡ None
    chosen true = no_shifted_one (b - 48) inner last more h.1 f
    chosen false = refl

control_after_count-last : (n : ℕ) (inner : List ℕ) (last : ℕ) (more : List ℕ) → n < inner_limit → is_final last ≡ true → control_after_count n inner (last ∷ more) ≡ final_at inner last more
unfolding control_after_count after_inner
control_after_count-last n inner last more h f = let below = ne_eqb n inner_limit (λ e. omega arith) in rw (below, f) refl

control-written : (inner : List ℕ) (last : ℕ) (more : List ℕ) → AreInner inner → length inner < inner_limit → is_final last ≡ true → control_at (inner ++ last ∷ more) ≡ final_at inner last more
control-written inner last more h k f =
    let all = inner ++ last ∷ more in
    control_at-counted all ∙ ap (λ (n : ℕ). control_after_count n (take n all) (drop n all)) (count_front-inner inner_limit inner last more h k f)
    ∙ ap (λ (xs : List ℕ). control_after_count (length inner) xs (drop (length inner) all)) (take-append_seam inner (last ∷ more))
    ∙ ap (λ (xs : List ℕ). control_after_count (length inner) inner xs) (drop-append_seam inner (last ∷ more))
    ∙ control_after_count-last (length inner) inner last more k f

final_at-general : (inner : List ℕ) (last : ℕ) (more : List ℕ) → (last ≡ 91 → inner ≢ []) → (last ≡ 77 → inner ≢ []) → final_at inner last more ≡ Some (sequence_event inner last, more)
unfolding final_at
final_at-general [] last more h k = let no = ne_eqb last 91 (λ e. h e refl) in let no_mouse = ne_eqb last 77 (λ e. k e refl) in rw (no, no_mouse) refl
final_at-general (b ∷ inner) last more h k = refl

bracket-general : (inner : List ℕ) (last : ℕ) (more : List ℕ) → IsGeneral inner last → bracket_at (inner ++ last ∷ more) ≡ Some (sequence_event inner last, more)
unfolding bracket_at
bracket-general inner last more g =
    ap (λ (o : EventAndRest). or_else o (control_at (inner ++ last ∷ more))) (no_shifted_at inner last more g.inner_bytes g.last_byte)
    ∙ control-written inner last more g.inner_bytes g.short g.last_byte ∙ final_at-general inner last more g.no_console g.no_mouse

-- ---- what begins no pasted text

pub same_head : (a b : ℕ) (xs ys : List ℕ) → a ∷ xs ≡ b ∷ ys → a ≡ b
same_head a b xs ys e = (cc)

same_tail : (a b : ℕ) (xs ys : List ℕ) → a ∷ xs ≡ b ∷ ys → xs ≡ ys
same_tail a b xs ys e = (cc)

no_mark : (inner : List ℕ) (last : ℕ) (more rest : List ℕ) → AreInner inner → is_final last ≡ true → (last ≡ 126 → inner ≢ 50 ∷ 48 ∷ 48 ∷ []) → inner ++ last ∷ more ≡ 50 ∷ 48 ∷ 48 ∷ 126 ∷ rest → ⊥
no_mark [] last more rest h f free e = let high = final-range last f in let same = same_head last 50 more (48 ∷ 48 ∷ 126 ∷ rest) e in omega arith
no_mark (a ∷ []) last more rest h f free e =
    let high = final-range last f in let same = same_head last 48 more (48 ∷ 126 ∷ rest) (same_tail a 50 (last ∷ more) (48 ∷ 48 ∷ 126 ∷ rest) e) in omega arith
no_mark (a ∷ b ∷ []) last more rest h f free e =
    let high = final-range last f in
    let same = same_head last 48 more (126 ∷ rest) (same_tail b 48 (last ∷ more) (48 ∷ 126 ∷ rest) (same_tail a 50 (b ∷ last ∷ more) (48 ∷ 48 ∷ 126 ∷ rest) e)) in omega arith
no_mark (a ∷ b ∷ c ∷ []) last more rest h f free e =
    let second = same_tail a 50 (b ∷ c ∷ last ∷ more) (48 ∷ 48 ∷ 126 ∷ rest) e in
    let third = same_tail b 48 (c ∷ last ∷ more) (48 ∷ 126 ∷ rest) second in
    let fourth = same_tail c 48 (last ∷ more) (126 ∷ rest) third in
    let one : a ≡ 50 = same_head a 50 (b ∷ c ∷ last ∷ more) (48 ∷ 48 ∷ 126 ∷ rest) e in
    let two : b ≡ 48 = same_head b 48 (c ∷ last ∷ more) (48 ∷ 126 ∷ rest) second in
    let three : c ≡ 48 = same_head c 48 (last ∷ more) (126 ∷ rest) third in
    let four : last ≡ 126 = same_head last 126 more rest fourth in
    let whole : a ∷ b ∷ c ∷ [] ≡ 50 ∷ 48 ∷ 48 ∷ [] = (cc) in
    free four whole
no_mark (a ∷ b ∷ c ∷ d ∷ inner) last more rest h f free e =
    let low = inner-range d h.1.1.1.0.0 in
    let fourth = same_tail c 48 (d ∷ (inner ++ last ∷ more)) (126 ∷ rest) (same_tail b 48 (c ∷ d ∷ (inner ++ last ∷ more)) (48 ∷ 126 ∷ rest) (same_tail a 50 (b ∷ c ∷ d ∷ (inner ++ last ∷ more)) (48 ∷ 48 ∷ 126 ∷ rest) e)) in
    let same = same_head d 126 (inner ++ last ∷ more) rest fourth in omega arith

no_start : (inner : List ℕ) (last : ℕ) (more : List ℕ) (o : Option (List ℕ)) → IsGeneral inner last → after_mark paste_start (bracket (inner ++ last ∷ more)) ≡ o → after_mark paste_start (bracket (inner ++ last ∷ more)) ≡ None
no_start inner last more None g e = e
no_start inner last more (Some rest) g e =
    let whole = after_mark-whole paste_start (bracket (inner ++ last ∷ more)) rest e in
    let inside = same_tail 91 91 (inner ++ last ∷ more) (50 ∷ 48 ∷ 48 ∷ 126 ∷ rest) (same_tail 27 27 (91 ∷ (inner ++ last ∷ more)) (91 ∷ 50 ∷ 48 ∷ 48 ∷ 126 ∷ rest) whole) in
    absurd (no_mark inner last more rest g.inner_bytes g.last_byte g.no_paste inside)

key_or_sequence-bracket : (bytes : List ℕ) → key_or_sequence (bracket bytes) ≡ bracket_at bytes
unfolding key_or_sequence escape_at
key_or_sequence-bracket bytes = refl

-- a control sequence of the general form is one event
pub general-read : (inner : List ℕ) (last : ℕ) (more : List ℕ) → IsGeneral inner last → unit_at (bracket (inner ++ last ∷ more)) ≡ Some (sequence_event inner last, more)
general-read inner last more g =
    unit-other (bracket (inner ++ last ∷ more)) (no_start inner last more (after_mark paste_start (bracket (inner ++ last ∷ more))) g refl)
    ∙ key_or_sequence-bracket (inner ++ last ∷ more) ∙ bracket-general inner last more g

-- ---- a sequence without end

none_of : (t u : Bool) → cond {A = EventAndRest} t (cond {A = EventAndRest} u None None) None ≡ None
none_of true true = refl
none_of true false = refl
none_of false u = refl

-- inner bytes that are at least three begin no key of rxvt's
no_shift_key : (inner more : List ℕ) → AreInner inner → 3 ≤ length inner → shift_key_at (inner ++ more) ≡ None
unfolding shift_key_at shift_key_after_one shift_key_after_two
no_shift_key [] more h k = absurd (omega arith)
no_shift_key (a ∷ []) more h k = absurd (omega arith)
no_shift_key (a ∷ b ∷ []) more h k = absurd (omega arith)
no_shift_key (a ∷ b ∷ c ∷ inner) more h k = rw (ne_eqb b 36 h.1.0.1, ne_eqb c 36 h.1.1.0.1) (none_of (is_digit a) (is_digit b))

count_front-full : (inner more : List ℕ) → AreInner inner → count_front is_inner (length inner) (inner ++ more) ≡ length inner
count_front-full [] more h = count_front-zero is_inner more
count_front-full (b ∷ inner) more h = count_front-cons is_inner (length inner) b (inner ++ more) h.0.0 ∙ ap suc (count_front-full inner more h.1)

control-full : (n : ℕ) (inner bytes : List ℕ) → n ≡ inner_limit → control_after_count n inner bytes ≡ Some (unknown, bytes)
unfolding control_after_count
control-full n inner bytes e = rw (eq-eqb n inner_limit e) refl

-- no mark of a pasted text is there, since its last byte is not inner
no_mark_inside : (inner more rest : List ℕ) → AreInner inner → 4 ≤ length inner → inner ++ more ≡ 50 ∷ 48 ∷ 48 ∷ 126 ∷ rest → ⊥
no_mark_inside [] more rest h k e = omega arith
no_mark_inside (a ∷ []) more rest h k e = omega arith
no_mark_inside (a ∷ b ∷ []) more rest h k e = omega arith
no_mark_inside (a ∷ b ∷ c ∷ []) more rest h k e = omega arith
no_mark_inside (a ∷ b ∷ c ∷ d ∷ inner) more rest h k e =
    let low = inner-range d h.1.1.1.0.0 in
    let same : d ≡ 126 = (cc) in omega arith

no_start_inside : (inner more : List ℕ) (o : Option (List ℕ)) → AreInner inner → 4 ≤ length inner → after_mark paste_start (bracket (inner ++ more)) ≡ o → after_mark paste_start (bracket (inner ++ more)) ≡ None
no_start_inside inner more None h k e = e
no_start_inside inner more (Some rest) h k e =
    let whole = after_mark-whole paste_start (bracket (inner ++ more)) rest e in
    let inside = same_tail 91 91 (inner ++ more) (50 ∷ 48 ∷ 48 ∷ 126 ∷ rest) (same_tail 27 27 (91 ∷ (inner ++ more)) (91 ∷ 50 ∷ 48 ∷ 48 ∷ 126 ∷ rest) whole) in
    absurd (no_mark_inside inner more rest h k inside)

bracket-endless : (inner more : List ℕ) → AreInner inner → length inner ≡ inner_limit → bracket_at (inner ++ more) ≡ Some (unknown, more)
unfolding bracket_at
bracket-endless inner more h k =
    let all = inner ++ more in
    let full : count_front is_inner inner_limit all ≡ length inner = ap (λ (n : ℕ). count_front is_inner n all) (sym k) ∙ count_front-full inner more h in
    ap (λ (o : EventAndRest). or_else o (control_at all)) (no_shift_key inner more h (omega arith))
    ∙ control_at-counted all ∙ ap (λ (n : ℕ). control_after_count n (take n all) (drop n all)) full
    ∙ control-full (length inner) (take (length inner) all) (drop (length inner) all) k
    ∙ ap (λ (xs : List ℕ). Some (unknown, xs)) (drop-append_seam inner more)

-- a sequence without end is one unknown event at its limit
pub endless-read : (inner more : List ℕ) → AreInner inner → length inner ≡ inner_limit → unit_at (bracket (inner ++ more)) ≡ Some (unknown, more)
endless-read inner more h k =
    unit-other (bracket (inner ++ more)) (no_start_inside inner more (after_mark paste_start (bracket (inner ++ more))) h (omega arith) refl)
    ∙ key_or_sequence-bracket (inner ++ more) ∙ bracket-endless inner more h k

-- ---- decimal numbers

digit-more : (m d : ℕ) (rest : List ℕ) → d < 10 → 10 * m + d ≤ 65535 → number_from m ((48 + d) ∷ rest) ≡ number_from (10 * m + d) rest
unfolding number_from
digit-more m d rest h k =
    let is : is_digit (48 + d) ≡ true = grind (arith, nat_tests) in
    let sum : min number_limit (10 * m + (48 + d - 48)) ≡ 10 * m + d = omega arith in
    rw (is, sum) refl

-- the number that digits make
stopped : (m n : ℕ) (rest : List ℕ) → m ≡ n → digit_at rest ≡ None → number_from m rest ≡ (n, rest)
stopped m n rest e stop = ap (λ (k : ℕ). number_from k rest) e ∙ number_from-end n rest stop

two_digits : (m a b : ℕ) (rest : List ℕ) → a < 10 → b < 10 → 10 * (10 * m + a) + b ≤ 65535 → number_from m ((48 + a) ∷ (48 + b) ∷ rest) ≡ number_from (10 * (10 * m + a) + b) rest
two_digits m a b rest h k bound = digit-more m a ((48 + b) ∷ rest) h (omega arith) ∙ digit-more (10 * m + a) b rest k bound

-- a number's digits, at the front of what begins with none
pub number-decimal : (n : ℕ) (rest : List ℕ) → n < 65536 → digit_at rest ≡ None → number_at (decimal n ++ rest) ≡ (n, rest)
number-decimal n rest h stop = ⊎_elim
    (λ (k : n < 10). rw (lt-ltb n 10 k) (digit-more 0 (n % 10) rest (omega arith) (omega arith) ∙ stopped (10 * 0 + n % 10) n rest (omega arith) stop))
    (λ (k : 10 ≤ n). ⊎_elim
    (λ (l : n < 100). rw (le-ltb n 10 k, lt-ltb n 100 l)
    (two_digits 0 ((n / 10) % 10) (n % 10) rest (omega arith) (omega arith) (omega arith) ∙ stopped _ n rest (omega arith) stop))
    (λ (l : 100 ≤ n). ⊎_elim
    (λ (m : n < 1000). rw (le-ltb n 10 k, le-ltb n 100 l, lt-ltb n 1000 m)
    (digit-more 0 ((n / 100) % 10) _ (omega arith) (omega arith) ∙ two_digits _ ((n / 10) % 10) (n % 10) rest (omega arith) (omega arith) (omega arith) ∙ stopped _ n rest (omega arith) stop))
    (λ (m : 1000 ≤ n). ⊎_elim
    (λ (o : n < 10000). rw (le-ltb n 10 k, le-ltb n 100 l, le-ltb n 1000 m, lt-ltb n 10000 o)
    (two_digits 0 ((n / 1000) % 10) ((n / 100) % 10) _ (omega arith) (omega arith) (omega arith)
    ∙ two_digits _ ((n / 10) % 10) (n % 10) rest (omega arith) (omega arith) (omega arith) ∙ stopped _ n rest (omega arith) stop))
    (λ (o : 10000 ≤ n). rw (le-ltb n 10 k, le-ltb n 100 l, le-ltb n 1000 m, le-ltb n 10000 o)
    (digit-more 0 ((n / 10000) % 10) _ (omega arith) (omega arith) ∙ two_digits _ ((n / 1000) % 10) ((n / 100) % 10) _ (omega arith) (omega arith) (omega arith)
    ∙ two_digits _ ((n / 10) % 10) (n % 10) rest (omega arith) (omega arith) (omega arith) ∙ stopped _ n rest (omega arith) stop))
    (cases_lt n 10000))
    (cases_lt n 1000))
    (cases_lt n 100))
    (cases_lt n 10)

digit-inner : (n : ℕ) → (is_inner (digit n) ≡ true) × (digit n ≢ 36)
digit-inner n = (grind (arith, nat_tests), λ e. omega arith)

pub decimal-inner : (n : ℕ) → AreInner (decimal n)
decimal-inner n = by_five (ltb n 10) (ltb n 100) (ltb n 1000) (ltb n 10000)
  where
    d : (k : ℕ) → (is_inner (digit k) ≡ true) × (digit k ≢ 36)
    d k = digit-inner k

    by_five : (p q r s : Bool) → AreInner (cond p (digit n ∷ []) (cond q (digit (n / 10) ∷ digit n ∷ []) (cond r (digit (n / 100) ∷ digit (n / 10) ∷ digit n ∷ [])
        (cond s (digit (n / 1000) ∷ digit (n / 100) ∷ digit (n / 10) ∷ digit n ∷ []) (digit (n / 10000) ∷ digit (n / 1000) ∷ digit (n / 100) ∷ digit (n / 10) ∷ digit n ∷ [])))))
    by_five true q r s = (d n, tt)
    by_five false true r s = (d (n / 10), (d n, tt))
    by_five false false true s = (d (n / 100), (d (n / 10), (d n, tt)))
    by_five false false false true = (d (n / 1000), (d (n / 100), (d (n / 10), (d n, tt))))
    by_five false false false false = (d (n / 10000), (d (n / 1000), (d (n / 100), (d (n / 10), (d n, tt)))))

pub length-decimal : (n : ℕ) → length (decimal n) ≤ 5
length-decimal n = by_five (ltb n 10) (ltb n 100) (ltb n 1000) (ltb n 10000)
  where
    by_five : (p q r s : Bool) → length (cond p (digit n ∷ []) (cond q (digit (n / 10) ∷ digit n ∷ []) (cond r (digit (n / 100) ∷ digit (n / 10) ∷ digit n ∷ [])
        (cond s (digit (n / 1000) ∷ digit (n / 100) ∷ digit (n / 10) ∷ digit n ∷ []) (digit (n / 10000) ∷ digit (n / 1000) ∷ digit (n / 100) ∷ digit (n / 10) ∷ digit n ∷ []))))) ≤ 5
    by_five true q r s = omega arith
    by_five false true r s = omega arith
    by_five false false true s = omega arith
    by_five false false false true = omega arith
    by_five false false false false = omega arith

-- ---- two and three numbers

-- inner bytes, one after others
pub inner-append : (xs ys : List ℕ) → AreInner xs → AreInner ys → AreInner (xs ++ ys)
inner-append [] ys h k = k
inner-append (x ∷ xs) ys h k = (h.0, inner-append xs ys h.1 k)

-- numbers between semicolons
abbrev pub two_numbers : ℕ → ℕ → List ℕ
two_numbers a b = decimal a ++ 59 ∷ decimal b

abbrev pub numbers_of_three : ℕ → ℕ → ℕ → List ℕ
numbers_of_three a b c = decimal a ++ 59 ∷ two_numbers b c

pub two_numbers-inner : (a b : ℕ) → AreInner (two_numbers a b)
two_numbers-inner a b = inner-append (decimal a) (59 ∷ decimal b) (decimal-inner a) ((refl, λ e. omega (arith, e)), decimal-inner b)

pub numbers_of_three-inner : (a b c : ℕ) → AreInner (numbers_of_three a b c)
numbers_of_three-inner a b c = inner-append (decimal a) (59 ∷ two_numbers b c) (decimal-inner a) ((refl, λ e. omega (arith, e)), two_numbers-inner b c)

pub length-two : (a b : ℕ) → length (two_numbers a b) ≤ 11
length-two a b = omega (arith, length-append (decimal a) (59 ∷ decimal b), length-decimal a, length-decimal b)

pub length-three : (a b c : ℕ) → length (numbers_of_three a b c) ≤ 17
length-three a b c = omega (arith, length-append (decimal a) (59 ∷ two_numbers b c), length-decimal a, length-two b c)

no_digit_nil : digit_at [] ≡ None
unfolding digit_at
no_digit_nil = refl

no_digit_semicolon : (bytes : List ℕ) → digit_at (59 ∷ bytes) ≡ None
unfolding digit_at
no_digit_semicolon bytes = refl

number-last : (n : ℕ) → n < 65536 → number_at (decimal n) ≡ (n, [])
number-last n h = ap number_at (sym (append-nil (decimal n))) ∙ number-decimal n [] h no_digit_nil

other_separator : (separator : ℕ) (bytes : List ℕ) → eqb 59 separator ≡ false → number_after separator (59 ∷ bytes) ≡ (0, 59 ∷ bytes)
unfolding number_after
other_separator separator bytes e = rw e refl

this_separator : (bytes : List ℕ) → number_after 59 (59 ∷ bytes) ≡ number_at bytes
unfolding number_after
this_separator bytes = refl

no_separator : (separator : ℕ) → number_after separator [] ≡ (0, [])
unfolding number_after
no_separator separator = refl

count-two : (b : ℕ) (bytes third : List ℕ) → b ≡ 59 → count_of (b ∷ bytes) [] third ≡ 2
unfolding count_of
count-two b bytes third e = rw e refl

count-three : (bytes more : List ℕ) → count_of (59 ∷ bytes) (59 ∷ more) [] ≡ 3
unfolding count_of
count-three bytes more = refl

-- two and three numbers, as parameters
abbrev pub two_parameters : ℕ → ℕ → Parameters
two_parameters a b = record { count = 2; first = a; shifted = 0; second = b; kind = 0; third = 0 }

abbrev pub three_parameters : ℕ → ℕ → ℕ → Parameters
three_parameters a b c = record { count = 3; first = a; shifted = 0; second = b; kind = 0; third = c }

pub parameters-two : (a b : ℕ) → a < 65536 → b < 65536 → parameters_of (two_numbers a b) ≡ two_parameters a b
unfolding parameters_of
parameters-two a b h k =
    let more = 59 ∷ decimal b in
    ap after_first (number-decimal a more h (no_digit_semicolon (decimal b)))
    ∙ ap (after_shifted a) (other_separator 58 (decimal b) refl) ∙ ap (after_base a 0) (other_separator 58 (decimal b) refl)
    ∙ ap (after_second a 0 more) (this_separator (decimal b) ∙ number-last b k)
    ∙ ap (after_kind a 0 b more) (no_separator 58) ∙ ap (after_third a 0 b 0 more []) (no_separator 59)
    ∙ ap (λ (n : ℕ). record { count = n; first = a; shifted = 0; second = b; kind = 0; third = 0 }) (count-two 59 (decimal b) [] refl)

pub parameters-three : (a b c : ℕ) → a < 65536 → b < 65536 → c < 65536 → parameters_of (numbers_of_three a b c) ≡ three_parameters a b c
unfolding parameters_of
parameters-three a b c h k l =
    let more = 59 ∷ two_numbers b c in
    let last = 59 ∷ decimal c in
    ap after_first (number-decimal a more h (no_digit_semicolon (two_numbers b c)))
    ∙ ap (after_shifted a) (other_separator 58 (two_numbers b c) refl) ∙ ap (after_base a 0) (other_separator 58 (two_numbers b c) refl)
    ∙ ap (after_second a 0 more) (this_separator (two_numbers b c) ∙ number-decimal b last k (no_digit_semicolon (decimal c)))
    ∙ ap (after_kind a 0 b more) (other_separator 58 (decimal c) refl) ∙ ap (after_third a 0 b 0 more last) (this_separator (decimal c) ∙ number-last c l)
    ∙ ap (λ (n : ℕ). record { count = n; first = a; shifted = 0; second = b; kind = 0; third = c }) (count-three (two_numbers b c) (decimal c))

-- ---- strings

string-count : (most : ℕ) (text : List ℕ) (last : ℕ) (more : List ℕ) → AreText text → length text < most → is_text last ≡ false → count_front is_text most (text ++ last ∷ more) ≡ length text
string-count most [] last more h k f = count_front-cons_end is_text most last more f
string-count zero (b ∷ text) last more h k f = absurd (omega arith)
string-count (suc most) (b ∷ text) last more h k f =
    count_front-cons is_text most b (text ++ last ∷ more) h.0 ∙ ap suc (string-count most text last more h.1 (omega arith) f)

string_after_count-last : (n : ℕ) (bytes : List ℕ) → n < text_limit → string_after_count n bytes ≡ after_text bytes
unfolding string_after_count
string_after_count-last n bytes h = let below = ne_eqb n text_limit (λ e. omega arith) in rw below refl

string-written : (text : List ℕ) (last : ℕ) (more : List ℕ) → AreText text → length text < text_limit → is_text last ≡ false → string_at (text ++ last ∷ more) ≡ after_text (last ∷ more)
string-written text last more h k f =
    let all = text ++ last ∷ more in
    string_at-counted all ∙ ap (λ (n : ℕ). string_after_count n (drop n all)) (string-count text_limit text last more h k f)
    ∙ ap (λ (xs : List ℕ). string_after_count (length text) xs) (drop-append_seam text (last ∷ more))
    ∙ string_after_count-last (length text) (last ∷ more) k

no_start_string : (b : ℕ) (bytes : List ℕ) (o : Option (List ℕ)) → begins_string b ≡ true → after_mark paste_start (27 ∷ b ∷ bytes) ≡ o → after_mark paste_start (27 ∷ b ∷ bytes) ≡ None
no_start_string b bytes None is e = e
no_start_string b bytes (Some rest) is e =
    let whole : 27 ∷ b ∷ bytes ≡ 27 ∷ 91 ∷ 50 ∷ 48 ∷ 48 ∷ 126 ∷ rest = after_mark-whole paste_start (27 ∷ b ∷ bytes) rest e in
    let same : b ≡ 91 = (cc) in
    let both : true ≡ false = sym is ∙ ap begins_string same in (cc)

key_or_sequence-escape : (bytes : List ℕ) → key_or_sequence (27 ∷ bytes) ≡ escape_at bytes
unfolding key_or_sequence
key_or_sequence-escape bytes = refl

unit_at-string : (b : ℕ) (bytes : List ℕ) → begins_string b ≡ true → unit_at (27 ∷ b ∷ bytes) ≡ string_at bytes
unit_at-string b bytes is =
    unit-other (27 ∷ b ∷ bytes) (no_start_string b bytes (after_mark paste_start (27 ∷ b ∷ bytes)) is refl)
    ∙ key_or_sequence-escape (b ∷ bytes) ∙ escape-string b bytes is

ends_bell : (more : List ℕ) → after_text (7 ∷ more) ≡ Some (unknown, more)
unfolding after_text
ends_bell more = refl

ends_terminator : (more : List ℕ) → after_text (27 ∷ 92 ∷ more) ≡ Some (unknown, more)
unfolding after_text after_text_escape
ends_terminator more = refl

-- a string is one event, up to BEL or ESC \
pub string_bell-read : (b : ℕ) (text more : List ℕ) → begins_string b ≡ true → AreText text → length text < text_limit → unit_at (27 ∷ b ∷ (text ++ 7 ∷ more)) ≡ Some (unknown, more)
string_bell-read b text more is h k = unit_at-string b (text ++ 7 ∷ more) is ∙ string-written text 7 more h k refl ∙ ends_bell more

pub string_terminator-read : (b : ℕ) (text more : List ℕ) → begins_string b ≡ true → AreText text → length text < text_limit → unit_at (27 ∷ b ∷ (text ++ 27 ∷ 92 ∷ more)) ≡ Some (unknown, more)
string_terminator-read b text more is h k = unit_at-string b (text ++ 27 ∷ 92 ∷ more) is ∙ string-written text 27 (92 ∷ more) h k refl ∙ ends_terminator more
