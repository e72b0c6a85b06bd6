-- Texts that are split at their first line feed, and fragments that are joined to one text.
use Rattle.std.proofs.Common.{◌≡◌, ◌≢◌, ℕ, ◌+◌, ◌-◌, ◌<◌, ◌≤◌, true, false, nat_eq, encode_utf8_all, List, [], ◌∷◌, ◌++◌, length, take, drop, get_or, refl, sym, ap, subst, ◌∙◌, arith, Option, Some, None, MatchOption, String}
use denote.Ref.{Bor}
use Rattle.textarea_text.specs.Prelude.{unwrap_or, chars, IsUtf8, NonePass, NoCharPasses, HasCharAt, Symbol, Character, Break, characters, characters_of, following, joined, leading}
use Rattle.textarea_text.specs.Prelude.{lines_of, text_of, fragment_symbols, fragment_text, symbols_for, begins_with_line_feed, unified, unified_after, without_last_break}
use Rattle.std.specs.Prelude.{encode_utf8}
use Rattle.textarea_text.proofs.Prelude.{common_steps, nat_tests, length-map, append-nil, append_assoc, take-append-drop, length-take-le, map-append, take_all, take_more, chars-append}
use Rattle.textarea_text.proofs.Prelude.{encodes-append, encodes-chars, encodes_same, IsUtf8-take, IsUtf8-drop, IsUtf8-past_char, IsCharBoundary-before_ascii, chars_past_char, encode_ascii}
use Rattle.textarea_text.proofs.Splices.{joined-append, following-append}

-- ---- a text with line feeds, from its first line on

-- no line feed, 10, is among the characters
abbrev pub HasNoLineFeed : List ℕ → Type 0
HasNoLineFeed cs = NonePass (λ d. nat_eq d 10) cs

-- the two lists do not meet in a carriage return and its line feed
abbrev pub StandApart : List ℕ → List ℕ → Type 0
StandApart line rest = (front : List ℕ) → line ≡ front ++ 13 ∷ [] → begins_with_line_feed rest ≡ false

symbols_for-retained : (c : ℕ) (rest_after : List ℕ) → nat_eq c 10 ≡ false → (c ≡ 13 → begins_with_line_feed rest_after ≡ false) → symbols_for c rest_after ≡ Character c ∷ []
symbols_for-retained c rest_after other apart = grind (arith, nat_tests)

apart-next : (c : ℕ) (cs rest : List ℕ) → HasNoLineFeed cs → StandApart (c ∷ cs) rest → c ≡ 13 → begins_with_line_feed (cs ++ rest) ≡ false
apart-next c [] rest none apart e = apart [] (ap (λ d. d ∷ []) e)
apart-next c (d ∷ cs) rest none apart e = none.0

pub fragment_symbols-append : (line rest : List ℕ) → HasNoLineFeed line → StandApart line rest → fragment_symbols (line ++ rest) ≡ characters line ++ fragment_symbols rest
fragment_symbols-append [] rest none apart = refl
fragment_symbols-append (c ∷ cs) rest none apart =
    rw (symbols_for-retained c (cs ++ rest) none.0 (apart-next c cs rest none.1 apart))
    (ap (λ t. Character c ∷ t) (fragment_symbols-append cs rest none.1 (λ front e. apart (c ∷ front) (ap (λ t. c ∷ t) e))))

-- a text without a line feed is one line
pub fragment_symbols-last : (line : List ℕ) → HasNoLineFeed line → fragment_symbols line ≡ characters line
fragment_symbols-last line none = simp append-nil at (fragment_symbols-append line [] none (λ front e. refl))

-- a line that a line feed ends, and one that a carriage return and a line feed end
fragment_symbols-line : (line rest_after : List ℕ) → HasNoLineFeed line → ((front : List ℕ) → line ≢ front ++ 13 ∷ []) → fragment_symbols (line ++ 10 ∷ rest_after) ≡ characters line ++ (Break ∷ fragment_symbols rest_after)
fragment_symbols-line line rest_after none other = fragment_symbols-append line (10 ∷ rest_after) none (λ front e. absurd (other front e))

fragment_symbols-line_with_return : (line rest_after : List ℕ) → HasNoLineFeed line → fragment_symbols (line ++ (13 ∷ 10 ∷ rest_after)) ≡ characters line ++ (Break ∷ fragment_symbols rest_after)
fragment_symbols-line_with_return line rest_after none = fragment_symbols-append line (13 ∷ 10 ∷ rest_after) none (λ front e. refl)

-- ---- the same for texts as bytes

no_line_feed : (bs : List ℕ) → IsUtf8 bs → NoCharPasses (λ d. nat_eq d 10) bs → HasNoLineFeed (chars bs)
no_line_feed bs text none = subst HasNoLineFeed (encodes_same none.0 (chars bs) (none.1 ∙ sym (encodes-chars bs text))) none.2

pub fragment_symbols-last_text : (bs : List ℕ) → IsUtf8 bs → NoCharPasses (λ d. nat_eq d 10) bs → fragment_symbols (chars bs) ≡ characters (chars bs)
fragment_symbols-last_text bs text none = fragment_symbols-last (chars bs) (no_line_feed bs text none)

front-none : (xs ys : List ℕ) → HasNoLineFeed (xs ++ ys) → HasNoLineFeed xs
front-none [] ys none = tt
front-none (x ∷ xs) ys none = (none.0, front-none xs ys none.1)

chars_return : (bs : List ℕ) → IsUtf8 bs → chars (bs ++ 13 ∷ []) ≡ chars bs ++ 13 ∷ []
unfolding chars
chars_return bs text = chars-append bs (13 ∷ []) text

-- a line without the carriage return at its end, if it has one
fragment_symbols-stripped : (rest_after : List ℕ) (whole : Bor (List ℕ)) (stripped : Option (Bor (List ℕ))) → IsUtf8 whole.now → IsUtf8 (unwrap_or stripped whole).now →
    HasNoLineFeed (chars whole.now) → MatchOption stripped ((front : List ℕ) → whole.now ≢ front ++ 13 ∷ []) (λ x. whole.now ≡ x.now ++ 13 ∷ []) →
    fragment_symbols (chars whole.now ++ 10 ∷ rest_after) ≡ characters (chars (unwrap_or stripped whole).now) ++ (Break ∷ fragment_symbols rest_after)
fragment_symbols-stripped rest_after whole None text text' none h =
    grind (arith, common_steps, fragment_symbols-line, encodes-chars whole.now text, encodes-append, encode_ascii)
fragment_symbols-stripped rest_after whole (Some line) text text' none h =
    grind (arith, common_steps, chars_return line.now text', append_assoc (chars line.now) (13 ∷ []) (10 ∷ rest_after), fragment_symbols-line_with_return, front-none)

-- a text, split at its first line feed
pub fragment_symbols-split_text : (bs rest_after : List ℕ) (i j : ℕ) (line : Bor (List ℕ)) (stripped : Option (Bor (List ℕ))) → IsUtf8 bs → IsUtf8 (unwrap_or stripped line).now →
    NoCharPasses (λ d. nat_eq d 10) (take i bs) → HasCharAt 10 bs i j → line.now ≡ take i bs → rest_after ≡ drop j bs →
    MatchOption stripped ((front : List ℕ) → line.now ≢ front ++ 13 ∷ []) (λ x. line.now ≡ x.now ++ 13 ∷ []) →
    fragment_symbols (chars bs) ≡ characters (chars (unwrap_or stripped line).now) ++ (Break ∷ fragment_symbols (chars rest_after))
fragment_symbols-split_text bs rest_after i j line stripped text text' none at front_is symbol_after_is h =
    let within : i < length bs = omega (arith, at.after.0) in
    let boundary = IsCharBoundary-before_ascii bs i within (omega (arith, at.byte (omega arith))) in
    let front : IsUtf8 line.now = subst IsUtf8 (sym front_is) (IsUtf8-take bs i text boundary) in
    let split_text : chars bs ≡ chars line.now ++ 10 ∷ chars rest_after =
    ap chars (sym (take-append-drop i bs) ∙ ap (λ t. t ++ drop i bs) (sym front_is)) ∙ chars-append line.now (drop i bs) front
    ∙ ap (λ t. chars line.now ++ t) (chars_past_char (drop i bs) (drop j bs) 10 (IsUtf8-drop bs i text boundary) at.split)
    ∙ ap (λ t. chars line.now ++ 10 ∷ chars t) (sym symbol_after_is) in
    ap fragment_symbols split_text ∙ fragment_symbols-stripped (chars rest_after) line stripped front text' (no_line_feed line.now front (subst (NoCharPasses (λ d. nat_eq d 10)) (sym front_is) none)) h

-- ---- lines, split off one after another

pub leading-append : (xs ys : List (List ℕ)) → leading (xs ++ ys) ≡ leading xs ++ leading ys
leading-append [] ys = refl
leading-append (x ∷ xs) ys = rw (leading-append xs ys) (simp append_assoc)

pub fragment_more : (old more : List (List ℕ)) (rest line after : List ℕ) (whole : List Symbol) → leading old ++ fragment_symbols rest ≡ whole →
    fragment_symbols rest ≡ characters line ++ (Break ∷ fragment_symbols after) → more ≡ old ++ line ∷ [] → leading more ++ fragment_symbols after ≡ whole
fragment_more old more rest line after whole h split_text is = rw (is, leading-append, append_assoc, append_assoc, ← split_text) h

pub fragment_done : (old : List (List ℕ)) (rest : List ℕ) (whole : List Symbol) → leading old ++ fragment_symbols rest ≡ whole →
    fragment_symbols rest ≡ characters rest → (more : List (List ℕ)) → more ≡ old ++ rest ∷ [] → joined more ≡ whole
fragment_done old rest whole h last more is = rw (is, joined-append old (rest ∷ []) (omega arith), append-nil, ← last) h

-- ---- lines, joined by line feeds

written-append : (xs ys : List Symbol) → fragment_text (xs ++ ys) ≡ fragment_text xs ++ fragment_text ys
written-append [] ys = refl
written-append (Character c ∷ xs) ys = ap (λ t. c ∷ t) (written-append xs ys)
written-append (Break ∷ xs) ys = ap (λ t. 10 ∷ t) (written-append xs ys)

written-characters : (cs : List ℕ) → fragment_text (characters cs) ≡ cs
written-characters [] = refl
written-characters (c ∷ cs) = ap (λ t. c ∷ t) (written-characters cs)

-- after `push` of a line feed
pub chars_line_feed : (bs new : List ℕ) → IsUtf8 bs → new ≡ bs ++ encode_utf8 10 → chars new ≡ chars bs ++ 10 ∷ []
unfolding chars
chars_line_feed bs new text e = ap chars e ∙ ap (λ t. chars (bs ++ t)) (encode_ascii 10 (omega arith)) ∙ chars-append bs (10 ∷ []) text

pub written_more : {Z : Type 0} (first text next_text fragment_line : List ℕ) (rest : List (String Z)) (number : ℕ) →
    text ≡ first ++ fragment_text (following (take number (lines_of rest))) → number < length rest → next_text ≡ (text ++ 10 ∷ []) ++ fragment_line →
    fragment_line ≡ get_or (lines_of rest) number [] → next_text ≡ first ++ fragment_text (following (take (number + 1) (lines_of rest)))
written_more first text next_text fragment_line rest number h within now e =
    grind (arith, common_steps, take_more, length-map rest characters_of, following-append, written-append, written-characters, append-nil, append_assoc)

pub written_done : {Z : Type 0} (first : String Z) (fragment_lines rest : List (String Z)) (begins text : List ℕ) (number : ℕ) →
    text ≡ begins ++ fragment_text (following (take number (lines_of rest))) → take number (lines_of rest) ≡ lines_of rest → begins ≡ characters_of first →
    fragment_lines ≡ first ∷ rest → text ≡ fragment_text (text_of fragment_lines)
written_done first fragment_lines rest begins text number h all e is = rw (h, all, e, is, written-append, written-characters) refl

-- ---- line ends of pasted texts

-- no carriage return, 13, is among the characters
abbrev HasNoReturn : List ℕ → Type 0
HasNoReturn cs = NonePass (λ d. nat_eq d 13) cs

unified-append : (line rest : List ℕ) → HasNoReturn line → unified (line ++ 13 ∷ rest) ≡ line ++ 10 ∷ unified_after true rest
unified-append [] rest none = refl
unified-append (c ∷ cs) rest none = rw none.0 (ap (λ t. c ∷ t) (unified-append cs rest none.1))

unified-last : (line : List ℕ) → HasNoReturn line → unified line ≡ line
unified-last [] none = refl
unified-last (c ∷ cs) none = rw none.0 (ap (λ t. c ∷ t) (unified-last cs none.1))

-- what follows a carriage return, if it is no line feed
unified-behind : (rest : List ℕ) → ((after : List ℕ) → rest ≢ 10 ∷ after) → unified_after true rest ≡ unified rest
unified-behind [] other = refl
unified-behind (c ∷ cs) other = rw (differs c (λ e. other cs (ap (λ d. d ∷ cs) e))) refl
  where
    differs : (d : ℕ) → d ≢ 10 → nat_eq d 10 ≡ false
    differs d h = grind (arith, nat_tests)

no_return : (bs : List ℕ) → IsUtf8 bs → NoCharPasses (λ d. nat_eq d 13) bs → HasNoReturn (chars bs)
no_return bs text none = subst HasNoReturn (encodes_same none.0 (chars bs) (none.1 ∙ sym (encodes-chars bs text))) none.2

pub unified-last_text : (bs : List ℕ) → IsUtf8 bs → NoCharPasses (λ d. nat_eq d 13) bs → unified (chars bs) ≡ chars bs
unified-last_text bs text none = unified-last (chars bs) (no_return bs text none)

-- what follows a carriage return, without the line feed at its start, if it has one
unified-stripped : (whole : Bor (List ℕ)) (stripped : Option (Bor (List ℕ))) → IsUtf8 whole.now →
    MatchOption stripped ((after : List ℕ) → whole.now ≢ 10 ∷ after) (λ x. whole.now ≡ 10 ∷ x.now) →
    unified_after true (chars whole.now) ≡ unified (chars (unwrap_or stripped whole).now)
unified-stripped whole None text other =
    unified-behind (chars whole.now) (λ after e. other (encode_utf8_all after) (sym (encodes-chars whole.now text) ∙ ap encode_utf8_all e ∙ ap (λ t. t ++ encode_utf8_all after) (encode_ascii 10 (omega arith))))
unified-stripped whole (Some rest) text is =
    ap (unified_after true) (chars_past_char whole.now rest.now 10 text (is ∙ ap (λ t. t ++ rest.now) (sym (encode_ascii 10 (omega arith)))))

-- a text, split at its first carriage return
pub unified-split_text : (bs : List ℕ) (i j : ℕ) (front after : Bor (List ℕ)) (stripped : Option (Bor (List ℕ))) → IsUtf8 bs → NoCharPasses (λ d. nat_eq d 13) (take i bs) →
    HasCharAt 13 bs i j → front.now ≡ take i bs → after.now ≡ drop j bs → MatchOption stripped ((rest : List ℕ) → after.now ≢ 10 ∷ rest) (λ x. after.now ≡ 10 ∷ x.now) →
    unified (chars bs) ≡ chars front.now ++ (10 ∷ unified (chars (unwrap_or stripped after).now))
unified-split_text bs i j front after stripped text none at front_is after_is h =
    let within : i < length bs = omega (arith, at.after.0) in
    let boundary = IsCharBoundary-before_ascii bs i within (omega (arith, at.byte (omega arith))) in
    let front_text : IsUtf8 front.now = subst IsUtf8 (sym front_is) (IsUtf8-take bs i text boundary) in
    let after_text : IsUtf8 after.now = subst IsUtf8 (sym after_is) (IsUtf8-past_char (drop i bs) (drop j bs) 13 (IsUtf8-drop bs i text boundary) at.split) in
    let parts : chars bs ≡ chars front.now ++ 13 ∷ chars after.now =
    ap chars (sym (take-append-drop i bs) ∙ ap (λ t. t ++ drop i bs) (sym front_is)) ∙ chars-append front.now (drop i bs) front_text
    ∙ ap (λ t. chars front.now ++ t) (chars_past_char (drop i bs) (drop j bs) 13 (IsUtf8-drop bs i text boundary) at.split)
    ∙ ap (λ t. chars front.now ++ 13 ∷ chars t) (sym after_is) in
    ap unified parts
    ∙ unified-append (chars front.now) (chars after.now) (no_return front.now front_text (subst (NoCharPasses (λ d. nat_eq d 13)) (sym front_is) none))
    ∙ ap (λ t. chars front.now ++ 10 ∷ t) (unified-stripped after stripped after_text h)

-- ---- the break at the end of a file

pub last_break-removed : (symbols : List Symbol) → without_last_break (symbols ++ Break ∷ []) ≡ symbols
last_break-removed [] = refl
last_break-removed (Character c ∷ symbols) = ap (λ t. Character c ∷ t) (last_break-removed symbols)
last_break-removed (Break ∷ []) = refl
last_break-removed (Break ∷ symbol ∷ symbols) = ap (λ t. Break ∷ t) (last_break-removed (symbol ∷ symbols))

without_break : (cs : List ℕ) → without_last_break (characters cs) ≡ characters cs
without_break [] = refl
without_break (c ∷ cs) = ap (λ t. Character c ∷ t) (without_break cs)

-- a text that ends in a character
pub last_line-stays : (symbols : List Symbol) (c : ℕ) (cs : List ℕ) → without_last_break (symbols ++ characters (c ∷ cs)) ≡ symbols ++ characters (c ∷ cs)
last_line-stays [] c cs = without_break (c ∷ cs)
last_line-stays (Character d ∷ symbols) c cs = ap (λ t. Character d ∷ t) (last_line-stays symbols c cs)
last_line-stays (Break ∷ []) c cs = ap (λ t. Break ∷ t) (last_line-stays [] c cs)
last_line-stays (Break ∷ symbol ∷ symbols) c cs = ap (λ t. Break ∷ t) (last_line-stays (symbol ∷ symbols) c cs)

leading-joined : (rows : List (List ℕ)) → 0 < length rows → leading rows ≡ joined rows ++ Break ∷ []
leading-joined [] some = absurd (omega arith)
leading-joined (row ∷ []) some = ap (λ t. t ++ Break ∷ []) (sym (append-nil (characters row)))
leading-joined (row ∷ next ∷ rows) some =
    ap (λ t. characters row ++ (Break ∷ t)) (leading-joined (next ∷ rows) (omega arith)) ∙ sym (append_assoc (characters row) (Break ∷ joined (next ∷ rows)) (Break ∷ []))

-- the lines before the last one, and the last one
module _ {Z : Type 0} (items : List (String Z)) (d : String Z) (some : 0 < length items) where
  abbrev front : List (String Z)
  front = take (length items - 1) items

  abbrev last : String Z
  last = get_or items (length items - 1) d

  whole : items ≡ front ++ last ∷ []
  whole =
      sym (take_all (length items - 1 + 1) items (omega arith))
      ∙ take_more items (length items - 1) d (omega (arith, some))

  split_text : text_of items ≡ leading (lines_of front) ++ characters (characters_of last)
  split_text =
      ap text_of whole ∙ ap joined (map-append characters_of front (last ∷ [])) ∙ joined-append (lines_of front) (characters_of last ∷ []) (omega arith)
      ∙ ap (λ t. leading (lines_of front) ++ t) (append-nil (characters (characters_of last)))

  pub text_of-without_end : 1 < length items → characters_of last ≡ [] → text_of front ≡ without_last_break (text_of items)
  text_of-without_end several none =
      sym (last_break-removed (text_of front))
      ∙ ap without_last_break (sym (split_text ∙ ap (λ cs. leading (lines_of front) ++ characters cs) none ∙ append-nil (leading (lines_of front))
      ∙ leading-joined (lines_of front) (omega (arith, several, length-map front characters_of, length-take-le (length items - 1) items (omega arith)))))

  pub text_of-full_end : characters_of last ≢ [] → text_of items ≡ without_last_break (text_of items)
  text_of-full_end full = full_end (characters_of last) split_text full
    where
      full_end : (cs : List ℕ) → text_of items ≡ leading (lines_of front) ++ characters cs → cs ≢ [] → text_of items ≡ without_last_break (text_of items)
      full_end [] e full = absurd (full refl)
      full_end (c ∷ cs) e full = e ∙ sym (last_line-stays (leading (lines_of front)) c cs) ∙ ap without_last_break (sym e)

pub text_of-one_line : {Z : Type 0} (items : List (String Z)) → length items ≤ 1 → text_of items ≡ without_last_break (text_of items)
text_of-one_line [] few = refl
text_of-one_line (line ∷ []) few =
    append-nil (characters (characters_of line)) ∙ sym (without_break (characters_of line)) ∙ ap without_last_break (sym (append-nil (characters (characters_of line))))
text_of-one_line (line ∷ next ∷ items) few = absurd (omega (arith, few))
