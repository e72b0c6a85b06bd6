-- The text after lines change places with the line above or below them.
use Rattle.std.proofs.Common.{◌≡◌, ◌≢◌, ◌∙◌, ◌<◌, ◌≤◌, ◌+◌, ◌-◌, ◌==◌, nat_lt, ℕ, Bool, true, false, cond, not, List, [], ◌∷◌, ◌++◌, length, drop, take, min, Option, option_map, ap, arith, refl, sym, subst}
use Rattle.std.proofs.lemmas.Bool.{ne_eqb}
use Rattle.std.proofs.lemmas.Bool.Decides.{nat_tests}
use Rattle.std.proofs.lemmas.List.{append-nil, append_assoc, drop-append-le, drop_more, length-append, length-drop, length-take-le, take-append-drop, take_more}
use Rattle.textarea_text.proofs.FragmentLemmas.{leading-append}
use Rattle.textarea_text.proofs.Splices.{end-append, end-characters, end-leading, end_of_front, following-append, joined-append, joined_three, lines-joined}
use Rattle.textarea_text.proofs.TextPlaces.{IsPlace-end, joined-lines}
use Rattle.textarea_text.specs.Text.{following, leading}
use Rattle.textarea_document.specs.Prelude.{AtomicRange, DocumentState, IsPlace, IsPlaceOf, IsSound, Place, Symbol, characters, clip, end, joined, last_row, line_end, line_of, lines}
use Rattle.textarea_document.specs.Indenting.{moved_near}
use Rattle.textarea_document.specs.Moving.{has_line_above, has_line_below, line_above_relocated, line_below_relocated, lines_moved_down, lines_moved_up, relocated}
use Rattle.textarea_document.specs.Moving.{row_down, row_up, selected_lines, swapped_down, swapped_up, with_lines_down, with_lines_up}
use Rattle.textarea_document.specs.ReplacedText.{IsOutside}
use Rattle.textarea_document.specs.Replacing.{begun, stretch_removed, stretch_replaced}
use Rattle.textarea_document.specs.Selection.{first_selected_row, last_selected_row}
use Rattle.textarea_document.proofs.Inserts.{again, selected_rows}
use Rattle.textarea_document.proofs.Ranges.{outside_end, outside_start}
use Rattle.textarea_document.proofs.ReplacedTexts.{Removed, ended_text, place_at, removed, replaced}
use Rattle.textarea_document.proofs.Sounds.{sound_begun}

-- ---- text that is removed, and inserted elsewhere

-- a position of the lines is the nearest to itself
clip_same : (rows : List (List ℕ)) (place : Place) → IsPlaceOf rows place → clip rows place ≡ place
clip_same rows place at =
    let row : min place.0 (last_row rows) ≡ place.0 = grind (arith, nat_tests, at.0) in
    ap (λ (n : ℕ). (n, min place.1 (length (line_of rows n)))) row
    ∙ ap (λ (n : ℕ). (place.0, n)) (grind (arith, nat_tests, at.1))

relocated_text : (document : DocumentState) (front gone back before after symbols : List Symbol) (now : ℕ) → IsSound document → document.text ≡ front ++ (gone ++ back) → front ++ back ≡ before ++ after
    → IsOutside document.ranges (place_at front) → IsOutside document.ranges (end (place_at front) gone)
    → ((new : DocumentState) → Removed (begun document) front gone back new → IsOutside new.ranges (place_at before))
    → (relocated document (place_at front) (end (place_at front) gone) (place_at before) symbols now).text ≡ (before ++ symbols) ++ after
unfolding relocated
relocated_text document front gone back before after symbols now h is same out_start out_stop out_there =
    let between = stretch_removed (begun document) (place_at front) (end (place_at front) gone) now in
    let first = removed (begun document) front gone back now (sound_begun document h) is out_start out_stop in
    let text : between.text ≡ before ++ after = first.text ∙ same in
    let at : IsPlace between.text (place_at before) = subst (λ t. IsPlace t (place_at before)) (sym text) (IsPlace-end before after) in
    let there = out_there between first in
    let second = replaced between before [] symbols after now first.sound text there there in
    let place = clip (lines between.text) (place_at before) in
    ended_text document (stretch_replaced between place place symbols now)
    ∙ ap (λ (p : Place). (stretch_replaced between p p symbols now).text) (clip_same (lines between.text) (place_at before) at)
    ∙ second.text

-- ---- lines in parts

-- a line before and after others
line_before : (above middle below : List (List ℕ)) (line : List ℕ) → 0 < length middle
    → joined (above ++ (line ∷ (middle ++ below))) ≡ leading above ++ (leading (line ∷ []) ++ (joined middle ++ following below))
line_before above middle below line some =
    joined_three above (line ∷ middle) below (omega arith)
    ∙ ap (λ t. leading above ++ (t ++ following below)) (joined-append (line ∷ []) middle some)
    ∙ ap (λ t. leading above ++ t) (append_assoc (leading (line ∷ [])) (joined middle) (following below))

line_after : (above middle below : List (List ℕ)) (line : List ℕ) → 0 < length middle
    → joined (above ++ (middle ++ (line ∷ below))) ≡ (leading above ++ joined middle) ++ (following (line ∷ []) ++ following below)
line_after above middle below line some =
    joined_three above middle (line ∷ below) some
    ∙ sym (append_assoc (leading above) (joined middle) (following (line ∷ below)))
    ∙ ap (λ t. (leading above ++ joined middle) ++ t) (following-append (line ∷ []) below)

-- where the lines end
lines_end : (above middle : List (List ℕ)) (last : List ℕ) → place_at (leading above ++ joined (middle ++ last ∷ [])) ≡ (length above + length middle, length last)
lines_end above middle last =
    ap (λ t. place_at (leading above ++ t)) (joined-append middle (last ∷ []) (omega arith) ∙ ap (λ t. leading middle ++ t) (append-nil (characters last)))
    ∙ ap place_at (sym (append_assoc (leading above) (leading middle) (characters last)) ∙ ap (λ t. t ++ characters last) (sym (leading-append above middle)))
    ∙ end_of_front (above ++ middle) last
    ∙ ap (λ (n : ℕ). (n, length last)) (length-append above middle)

-- ---- the lines from a row to another, and the one before or after them

record AreRows (rows : List (List ℕ)) (first last : ℕ) : Type 0 where
  ordered : first ≤ last
  within : last < length rows

-- the lines but the last
abbrev others : List (List ℕ) → ℕ → ℕ → List (List ℕ)
others rows first last = drop first (take last rows)

others_last : (rows : List (List ℕ)) (first last : ℕ) → AreRows rows first last → selected_lines rows first last ≡ others rows first last ++ line_of rows last ∷ []
others_last rows first last are =
    ap (drop first) (take_more rows last [] are.within)
    ∙ drop-append-le first (take last rows) (line_of rows last ∷ []) (omega (arith, are.ordered, are.within, length-take-le last rows (omega (arith, are.within))))

length_others : (rows : List (List ℕ)) (first last : ℕ) → AreRows rows first last → length (others rows first last) ≡ last - first
length_others rows first last are = omega (arith, length-drop first (take last rows), length-take-le last rows (omega (arith, are.within)))

some_between : (rows : List (List ℕ)) (first last : ℕ) → AreRows rows first last → 0 < length (selected_lines rows first last)
some_between rows first last are =
    omega (arith, ap length (others_last rows first last are), length-append (others rows first last) (line_of rows last ∷ []))

-- all lines, with that above them
with_above : (rows : List (List ℕ)) (first last : ℕ) → 0 < first → AreRows rows first last
    → rows ≡ take (first - 1) rows ++ (line_of rows (first - 1) ∷ (selected_lines rows first last ++ drop (last + 1) rows))
with_above rows first last some are =
    let next : first - 1 + 1 ≡ first = omega (arith, some) in
    sym (take-append-drop (first - 1) rows)
    ∙ ap (λ r. take (first - 1) rows ++ r) (drop_more rows (first - 1) [] (omega (arith, are.ordered, are.within)))
    ∙ ap (λ n. take (first - 1) rows ++ (line_of rows (first - 1) ∷ drop n rows)) next
    ∙ ap (λ r. take (first - 1) rows ++ (line_of rows (first - 1) ∷ r)) (sym (again rows first last are.ordered are.within))

-- all lines, with that below them
with_below : (rows : List (List ℕ)) (first last : ℕ) → last + 1 < length rows → AreRows rows first last
    → rows ≡ take first rows ++ (selected_lines rows first last ++ (line_of rows (last + 1) ∷ drop (last + 2) rows))
with_below rows first last some are =
    let next : last + 1 + 1 ≡ last + 2 = omega arith in
    sym (take-append-drop first rows)
    ∙ ap (λ r. take first rows ++ r) (sym (again rows first last are.ordered are.within))
    ∙ ap (λ r. take first rows ++ (selected_lines rows first last ++ r)) (drop_more rows (last + 1) [] some)
    ∙ ap (λ n. take first rows ++ (selected_lines rows first last ++ (line_of rows (last + 1) ∷ drop n rows))) next

-- where the last line ends
end_of_last : (rows above : List (List ℕ)) (first last row : ℕ) → AreRows rows first last → length above + (last - first) ≡ row
    → place_at (leading above ++ joined (selected_lines rows first last)) ≡ (row, length (line_of rows last))
end_of_last rows above first last row are is =
    ap (λ (r : List (List ℕ)). place_at (leading above ++ joined r)) (others_last rows first last are)
    ∙ lines_end above (others rows first last) (line_of rows last)
    ∙ ap (λ (n : ℕ). (n, length (line_of rows last))) (omega (arith, is, length_others rows first last are))

start_at : (above : List (List ℕ)) (row : ℕ) → length above ≡ row → place_at (leading above) ≡ (row, 0)
start_at above row is = end-leading 0 above ∙ ap (λ (n : ℕ). (n, 0)) (omega (arith, is))

out_at : (ranges : List AtomicRange) (place : Place) (row : ℕ) → place ≡ (row, 0) → IsOutside ranges place
out_at ranges place row is = outside_start ranges place (ap (λ (p : Place). p.1) is)

out_at_end : (document : DocumentState) (place : Place) (row : ℕ) → IsSound document → place ≡ line_end (lines document.text) row → IsOutside document.ranges place
out_at_end document place row h is =
    subst (IsOutside document.ranges) (sym is) (outside_end (lines document.text) document.ranges (line_end (lines document.text) row) h.ranges (omega arith))

-- ---- the line above is inserted after them

up_text : (document : DocumentState) (first last now : ℕ) → IsSound document → AreRows (lines document.text) first last → 0 < first
    → (relocated document (first - 1, 0) (first, 0) (last - 1, length (line_of (lines document.text) last)) (following (line_of (lines document.text) (first - 1) ∷ [])) now).text
    ≡ joined (take (first - 1) (lines document.text) ++ (selected_lines (lines document.text) first last ++ (line_of (lines document.text) (first - 1) ∷ drop (last + 1) (lines document.text))))
up_text document first last now h are some =
    let rows = lines document.text in
    let above = take (first - 1) rows in
    let middle = selected_lines rows first last in
    let below = drop (last + 1) rows in
    let line = line_of rows (first - 1) in
    let symbols = following (line ∷ []) in
    let front = leading above in
    let gone = leading (line ∷ []) in
    let back = joined middle ++ following below in
    let before = front ++ joined middle in
    let filled = some_between rows first last are in
    let long : length above ≡ first - 1 = length-take-le (first - 1) rows (omega (arith, are.ordered, are.within)) in
    let text : document.text ≡ front ++ (gone ++ back) =
    sym (joined-lines document.text) ∙ ap joined (with_above rows first last some are) ∙ line_before above middle below line filled in
    let start : place_at front ≡ (first - 1, 0) = start_at above (first - 1) long in
    let stop : end (place_at front) gone ≡ (first, 0) =
    ap (λ (p : Place). end p gone) start ∙ end-leading (first - 1) (line ∷ []) ∙ ap (λ (n : ℕ). (n, 0)) (omega (arith, some)) in
    let place : place_at before ≡ (last - 1, length (line_of rows last)) = end_of_last rows above first last (last - 1) are (omega (arith, long, some, are.ordered)) in
    let end_was : end (place_at front) (gone ++ joined middle) ≡ line_end rows last =
    sym (end-append (0, 0) front (gone ++ joined middle))
    ∙ ap place_at (sym (append_assoc front gone (joined middle)) ∙ ap (λ t. t ++ joined middle) (sym (leading-append above (line ∷ []))))
    ∙ end_of_last rows (above ++ line ∷ []) first last last are (omega (arith, long, length-append above (line ∷ []), some, are.ordered)) in
    let out_there : (new : DocumentState) → Removed (begun document) front gone back new → IsOutside new.ranges (place_at before) =
    λ new left. subst (IsOutside new.ranges) (sym (end-append (0, 0) front (joined middle))) (left.outside (joined middle) (out_at_end document (end (place_at front) (gone ++ joined middle)) last h end_was)) in
    ap (λ (p : Place). (relocated document p (first, 0) (last - 1, length (line_of rows last)) symbols now).text) (sym start)
    ∙ ap (λ (p : Place). (relocated document (place_at front) p (last - 1, length (line_of rows last)) symbols now).text) (sym stop)
    ∙ ap (λ (p : Place). (relocated document (place_at front) (end (place_at front) gone) p symbols now).text) (sym place)
    ∙ relocated_text document front gone back before (following below) symbols now h text (sym (append_assoc front (joined middle) (following below)))
    (out_at document.ranges (place_at front) (first - 1) start) (out_at document.ranges (end (place_at front) gone) first stop) out_there
    ∙ append_assoc before symbols (following below)
    ∙ sym (line_after above middle below line filled)

-- ---- the line below is inserted before them

end_of_next : (row : ℕ) (line next : List ℕ) → end (row, length line) (following (next ∷ [])) ≡ (row + 1, length next)
end_of_next row line next = ap (end (row + 1, 0)) (append-nil (characters next)) ∙ end-characters (row + 1) 0 next ∙ ap (λ (n : ℕ). (row + 1, n)) (omega arith)

down_text : (document : DocumentState) (first last now : ℕ) → IsSound document → AreRows (lines document.text) first last → last + 1 < length (lines document.text)
    → (relocated document (line_end (lines document.text) last) (line_end (lines document.text) (last + 1)) (first, 0) (leading (line_of (lines document.text) (last + 1) ∷ [])) now).text
    ≡ joined (take first (lines document.text) ++ (line_of (lines document.text) (last + 1) ∷ (selected_lines (lines document.text) first last ++ drop (last + 2) (lines document.text))))
down_text document first last now h are some =
    let rows = lines document.text in
    let above = take first rows in
    let middle = selected_lines rows first last in
    let below = drop (last + 2) rows in
    let line = line_of rows (last + 1) in
    let symbols = leading (line ∷ []) in
    let before = leading above in
    let front = before ++ joined middle in
    let gone = following (line ∷ []) in
    let back = following below in
    let filled = some_between rows first last are in
    let long : length above ≡ first = length-take-le first rows (omega (arith, are.ordered, are.within)) in
    let text : document.text ≡ front ++ (gone ++ back) =
    sym (joined-lines document.text) ∙ ap joined (with_below rows first last some are) ∙ line_after above middle below line filled in
    let start : place_at front ≡ line_end rows last = end_of_last rows above first last last are (omega (arith, long, are.ordered)) in
    let stop : end (place_at front) gone ≡ line_end rows (last + 1) = ap (λ (p : Place). end p gone) start ∙ end_of_next last (line_of rows last) line in
    let place : place_at before ≡ (first, 0) = start_at above first long in
    ap (λ (p : Place). (relocated document p (line_end rows (last + 1)) (first, 0) symbols now).text) (sym start)
    ∙ ap (λ (p : Place). (relocated document (place_at front) p (first, 0) symbols now).text) (sym stop)
    ∙ ap (λ (p : Place). (relocated document (place_at front) (end (place_at front) gone) p symbols now).text) (sym place)
    ∙ relocated_text document front gone back before (joined middle ++ following below) symbols now h text (append_assoc before (joined middle) (following below))
    (out_at_end document (place_at front) last h start) (out_at_end document (end (place_at front) gone) (last + 1) h stop) (λ new left. out_at new.ranges (place_at before) first place)
    ∙ append_assoc before symbols (joined middle ++ following below)
    ∙ sym (line_before above middle below line filled)

-- ---- the lines after a call

some_lines : (front rest : List (List ℕ)) → 0 < length rest → 0 < length (front ++ rest)
some_lines front rest some = omega (arith, length-append front rest, some)

selected : (document : DocumentState) → IsSound document → AreRows (lines document.text) (first_selected_row document) (last_selected_row document)
selected document h =
    let rows = selected_rows document h.cursor h.anchor in
    record { ordered = rows.ordered; within = rows.within }

above_text : (document : DocumentState) (now : ℕ) → (swapped_up document now).text ≡ (line_above_relocated document now).text
unfolding swapped_up
above_text document now = refl

below_text : (document : DocumentState) (now : ℕ) → (swapped_down document now).text ≡ (line_below_relocated document now).text
unfolding swapped_down
below_text document now = refl

-- of two documents that a test chooses
either : (b : Bool) (one other : DocumentState) (rows more : List (List ℕ)) → (b ≡ true → lines one.text ≡ rows) → (b ≡ false → lines other.text ≡ more) → lines (cond b one other).text ≡ cond b rows more
either true one other rows more h k = h refl
either false one other rows more h k = k refl

positive : (n : ℕ) → (n == 0) ≡ false → 0 < n
positive n e = grind (arith, nat_tests)

less_from_test : (m n : ℕ) → nat_lt m n ≡ true → m < n
less_from_test m n e = grind (arith, nat_tests)

pub lines_up : (document : DocumentState) (now : ℕ) → IsSound document → lines (lines_moved_up document now).text ≡ with_lines_up (lines document.text) (first_selected_row document) (last_selected_row document)
lines_up document now h =
    let rows = lines document.text in
    let first = first_selected_row document in
    let last = last_selected_row document in
    let above = take (first - 1) rows in
    let rest = line_of rows (first - 1) ∷ drop (last + 1) rows in
    let middle = selected_lines rows first last in
    either (first == 0) document (swapped_up document now) rows (above ++ (middle ++ rest)) (λ none. refl)
    (λ some. ap lines (above_text document now ∙ up_text document first last now h (selected document h) (positive first some))
    ∙ lines-joined (above ++ (middle ++ rest)) (some_lines above (middle ++ rest) (some_lines middle rest (omega arith))))

pub lines_down : (document : DocumentState) (now : ℕ) → IsSound document → lines (lines_moved_down document now).text ≡ with_lines_down (lines document.text) (first_selected_row document) (last_selected_row document)
lines_down document now h =
    let rows = lines document.text in
    let first = first_selected_row document in
    let last = last_selected_row document in
    let above = take first rows in
    let rest = line_of rows (last + 1) ∷ (selected_lines rows first last ++ drop (last + 2) rows) in
    either (nat_lt (last + 1) (length rows)) (swapped_down document now) document (above ++ rest) rows
    (λ some. ap lines (below_text document now ∙ down_text document first last now h (selected document h) (less_from_test (last + 1) (length rows) some))
    ∙ lines-joined (above ++ rest) (some_lines above rest (omega arith)))
    (λ none. refl)

-- ---- the positions between which the line is removed

pub ends_above : (document : DocumentState) → IsSound document → IsPlace document.text (first_selected_row document - 1, 0) × IsPlace document.text (first_selected_row document, 0)
ends_above document h =
    let rows = selected document h in
    ((omega (arith, rows.ordered, rows.within), omega arith), (omega (arith, rows.ordered, rows.within), omega arith))

pub ends_below : (document : DocumentState) → IsSound document → has_line_below document ≡ true
    → IsPlace document.text (line_end (lines document.text) (last_selected_row document)) × IsPlace document.text (line_end (lines document.text) (last_selected_row document + 1))
ends_below document h some =
    let rows = selected document h in
    ((rows.within, omega arith), (less_from_test (last_selected_row document + 1) (length (lines document.text)) some, omega arith))

-- ---- the same of values that are equal to these

not_first : (document : DocumentState) (first : ℕ) → first ≡ first_selected_row document → first ≢ 0 → (first_selected_row document == 0) ≡ false
not_first document first is some = ne_eqb (first_selected_row document) 0 (λ zero. some (is ∙ zero))

pub above_as : (document : DocumentState) (first : ℕ) → first ≡ first_selected_row document → first ≢ 0 → has_line_above document ≡ true
above_as document first is some = ap not (not_first document first is some)

less_test : (m n : ℕ) → m < n → nat_lt m n ≡ true
less_test m n h = grind (arith, nat_tests)

pub below_as : (document : DocumentState) (last count : ℕ) → last ≡ last_selected_row document → count ≡ length (lines document.text) → last + 1 < count → has_line_below document ≡ true
below_as document last count is long less = less_test (last_selected_row document + 1) (length (lines document.text)) (omega (arith, is, long, less))

pub up_as : (document made new : DocumentState) (first last length_of_last : ℕ) (symbols : List Symbol) (cursor : Place) (anchor : Option Place) (now : ℕ)
    → first ≡ first_selected_row document → last ≡ last_selected_row document → first ≢ 0 → length_of_last ≡ length (line_of (lines document.text) last)
    → symbols ≡ following (line_of (lines document.text) (first - 1) ∷ []) → cursor ≡ row_up document.cursor → anchor ≡ option_map row_up document.anchor
    → made ≡ relocated document (first - 1, 0) (first, 0) (last - 1, length_of_last) symbols now → new ≡ moved_near made cursor anchor
    → new ≡ lines_moved_up document now
unfolding swapped_up
up_as document made new first last length_of_last symbols cursor anchor now first_is last_is some length_is symbols_are cursor_is anchor_is made_is new_is =
    let goes : new ≡ swapped_up document now = rw (new_is, made_is, cursor_is, anchor_is, symbols_are, length_is, first_is, last_is) refl in
    goes ∙ ap (λ (b : Bool). cond b document (swapped_up document now)) (sym (not_first document first first_is some))

pub down_as : (document made new : DocumentState) (first last : ℕ) (start stop : Place) (symbols : List Symbol) (cursor : Place) (anchor : Option Place) (now : ℕ)
    → first ≡ first_selected_row document → last ≡ last_selected_row document → has_line_below document ≡ true → start ≡ line_end (lines document.text) last
    → stop ≡ line_end (lines document.text) (last + 1) → symbols ≡ leading (line_of (lines document.text) (last + 1) ∷ [])
    → cursor ≡ row_down (lines document.text) document.cursor → anchor ≡ option_map (row_down (lines document.text)) document.anchor
    → made ≡ relocated document start stop (first, 0) symbols now → new ≡ moved_near made cursor anchor
    → new ≡ lines_moved_down document now
unfolding swapped_down
down_as document made new first last start stop symbols cursor anchor now first_is last_is some start_is stop_is symbols_are cursor_is anchor_is made_is new_is =
    let goes : new ≡ swapped_down document now = rw (new_is, made_is, cursor_is, anchor_is, symbols_are, start_is, stop_is, first_is, last_is) refl in
    goes ∙ ap (λ (b : Bool). cond b (swapped_down document now) document) (sym some)
