-- The text after lines are indented or outdented: their starts are replaced, and nothing else.
use Rattle.std.proofs.Common.{◌≡◌, ◌∙◌, ◌≤◌, ◌+◌, ◌-◌, ◌==◌, ◌&&◌, ℕ, zero, suc, Bool, true, false, cond, not, List, [], ◌∷◌, ◌++◌, length, drop, take, Option, None, Some, IfSome, is_some, ap, arith, refl, sym, subst}
use Rattle.std.specs.Prelude.{find}
use Rattle.std.proofs.lemmas.Bool.{and_parts}
use Rattle.std.proofs.lemmas.Bool.Decides.{nat_tests}
use Rattle.std.proofs.lemmas.List.{append_assoc, drop_at, length-append, length-drop, length-take-le, length-take, take-append-drop, take_at}
use Rattle.std.proofs.lemmas.List.Elements.{All-cons, All-nil}
use Rattle.textarea_text.proofs.Splices.{characters-append, end-append, end-characters, length-characters, lines-joined}
use Rattle.textarea_text.proofs.TextPlaces.{joined-lines}
use Rattle.textarea_text.specs.Text.{following}
use Rattle.textarea_clusters.specs.Edges.{is_cluster_edge}
use Rattle.textarea_clusters.specs.Stops.{column_back, is_column_stop}
use Rattle.textarea_data.specs.declared.cursor.CursorUnit.{CursorUnit}
use Rattle.textarea_data.specs.declared.cursor.CursorUnit.TheVariants as units
use Rattle.textarea_ranges.specs.Lookup.{is_inside, is_range_at_place, range_around}
use Rattle.textarea_ranges.proofs.LookupLemmas.{is_inside-IsInside}
use Rattle.textarea_document.specs.Prelude.{AtomicRange, Break, DocumentState, Forward, IsInside, IsSound, Place, Symbol, characters, end, joined, lines}
use Rattle.textarea_document.specs.Indenting.{begins_with_tab, free_spaces, indent_columns, is_free, is_free_space, is_selected_row, line_stretches, lines_shifted, outdent_columns, replaced_columns, shift_columns}
use Rattle.textarea_document.specs.Indenting.{shifted_over, unless_zero, whole_columns, stretch_from, stretches_from, with_start, with_starts}
use Rattle.textarea_document.specs.ReplacedText.{AreReplaceable, AreStretches, IsOutside, with_replaced}
use Rattle.textarea_document.specs.Replacing.{all_replaced}
use Rattle.textarea_document.proofs.ReplacedTexts.{replaced_text}

-- ---- what is replaced is in the line, and its end is strictly inside no range

out_at_start : (ranges : List AtomicRange) (row : ℕ) → IsOutside ranges (row, 0)
out_at_start [] row = All-nil (λ range. ¬ IsInside (row, 0) range)
out_at_start (range ∷ ranges) row = All-cons (λ range. ¬ IsInside (row, 0) range) range ranges (λ inside. omega (arith, inside.1)) (out_at_start ranges row)

-- after a character that no range has
out_after : (ranges : List AtomicRange) (row column : ℕ) → is_free ranges (row, column) ≡ true → IsOutside ranges (row, column + 1)
out_after [] row column free = All-nil (λ range. ¬ IsInside (row, column + 1) range)
out_after (range ∷ ranges) row column free = by (is_range_at_place (row, column) Forward range) refl free (λ e. out_after ranges row column e)
  where
    by : (here : Bool) → is_range_at_place (row, column) Forward range ≡ here → not (is_some (cond here (Some range) (find (is_range_at_place (row, column) Forward) ranges))) ≡ true
        → (is_free ranges (row, column) ≡ true → IsOutside ranges (row, column + 1)) → IsOutside (range ∷ ranges) (row, column + 1)
    by true is e others = absurd cc
    by false is e others =
        All-cons (λ range. ¬ IsInside (row, column + 1) range) range ranges
        (λ inside. let no : is_range_at_place (row, column) Forward range ≡ true = grind (arith, nat_tests, inside) in absurd cc)
        (others e)

-- this many characters can be replaced at the start of the row's line
abbrev IsStart : List AtomicRange → ℕ → List ℕ → ℕ → Type 0
IsStart ranges row line count = (count ≤ length line) × IsOutside ranges (row, count)

same_column : (ranges : List AtomicRange) (row one other : ℕ) → one ≡ other → IsOutside ranges (row, one) → IsOutside ranges (row, other)
same_column ranges row one other e out = subst (λ (n : ℕ). IsOutside ranges (row, n)) e out

-- spaces that no range has lead out of all ranges
abbrev SpacesLeadOut : List AtomicRange → ℕ → ℕ → List ℕ → Type 0
SpacesLeadOut ranges row column line =
    (free_spaces ranges row column line ≤ length line) × IsOutside ranges (row, column + free_spaces ranges row column line)

spaces_out : (ranges : List AtomicRange) (row column : ℕ) (line : List ℕ) → IsOutside ranges (row, column) → SpacesLeadOut ranges row column line
spaces_out ranges row column [] out = (omega arith, same_column ranges row column (column + 0) (omega arith) out)
spaces_out ranges row column (c ∷ line) out = by (is_free_space ranges (row, column) c) refl (λ o. spaces_out ranges row (column + 1) line o)
  where
    by : (free : Bool) → is_free_space ranges (row, column) c ≡ free → (IsOutside ranges (row, column + 1) → SpacesLeadOut ranges row (column + 1) line)
        → (cond free (free_spaces ranges row (column + 1) line + 1) 0 ≤ length (c ∷ line)) × IsOutside ranges (row, column + cond free (free_spaces ranges row (column + 1) line + 1) 0)
    by true e later =
        let after = later (out_after ranges row column (and_parts (c == 32) (is_free ranges (row, column)) e).1) in
        let n = free_spaces ranges row (column + 1) line in
        (omega (arith, after.0), same_column ranges row (column + 1 + n) (column + (n + 1)) (omega arith) after.1)
    by false e later = (omega arith, same_column ranges row column (column + 0) (omega arith) out)

tab_within : (line : List ℕ) → begins_with_tab line ≡ true → 1 ≤ length line
tab_within [] e = absurd cc
tab_within (c ∷ line) e = omega arith

outdent_fits : (ranges : List AtomicRange) (tab_length row : ℕ) (line : List ℕ) → IsStart ranges row line (outdent_columns ranges tab_length row line)
outdent_fits ranges tab_length row line = by (begins_with_tab line && is_free ranges (row, 0)) refl
  where
    by : (tab : Bool) → (begins_with_tab line && is_free ranges (row, 0)) ≡ tab → IsStart ranges row line (cond tab 1 (free_spaces ranges row 0 (take tab_length line)))
    by true e =
        let both = and_parts (begins_with_tab line) (is_free ranges (row, 0)) e in (tab_within line both.0, out_after ranges row 0 both.1)
    by false e =
        let spaces = spaces_out ranges row 0 (take tab_length line) (out_at_start ranges row) in
        let n = free_spaces ranges row 0 (take tab_length line) in
        (grind (arith, nat_tests, spaces.0, length-take tab_length line), same_column ranges row (0 + n) n (omega arith) spaces.1)

-- where the cursor can be is strictly inside no range
out_unless_around : (ranges : List AtomicRange) (row column : ℕ) → is_some (range_around ranges (row, column)) ≡ false → IsOutside ranges (row, column)
out_unless_around [] row column none = All-nil (λ range. ¬ IsInside (row, column) range)
out_unless_around (range ∷ ranges) row column none = by (is_inside (row, column) range) refl none (λ e. out_unless_around ranges row column e)
  where
    by : (here : Bool) → is_inside (row, column) range ≡ here → is_some (cond here (Some range) (find (is_inside (row, column)) ranges)) ≡ false
        → (is_some (range_around ranges (row, column)) ≡ false → IsOutside ranges (row, column)) → IsOutside (range ∷ ranges) (row, column)
    by true is e others = absurd cc
    by false is e others =
        All-cons (λ range. ¬ IsInside (row, column) range) range ranges
        (λ inside. let no : is_inside (row, column) range ≡ true = is_inside-IsInside (row, column) range inside in absurd cc)
        (others e)

not_false : (b : Bool) → not b ≡ true → b ≡ false
not_false true e = absurd cc
not_false false e = refl

pub outdent_within : (ranges : List AtomicRange) (tab_length row : ℕ) (line : List ℕ) → outdent_columns ranges tab_length row line ≤ length line
outdent_within ranges tab_length row line = (outdent_fits ranges tab_length row line).0

back_fits : (ranges : List AtomicRange) (row : ℕ) (line : List ℕ) (count : ℕ) → count ≤ length line → IsStart ranges row line (column_back ranges line row count)
unfolding column_back
back_fits ranges row line zero within = (within, out_at_start ranges row)
back_fits ranges row line (suc count) within = by (is_column_stop ranges line row (suc count)) refl (back_fits ranges row line count (omega (arith, within)))
  where
    by : (stop : Bool) → is_column_stop ranges line row (suc count) ≡ stop → IsStart ranges row line (column_back ranges line row count)
        → IsStart ranges row line (cond stop (suc count) (column_back ranges line row count))
    by true e earlier =
        let both = and_parts (is_cluster_edge line (suc count)) (not (is_some (range_around ranges (row, suc count)))) e in
        (within, out_unless_around ranges row (suc count) (not_false (is_some (range_around ranges (row, suc count))) both.1))
    by false e earlier = earlier

whole_fits : (unit : CursorUnit) (ranges : List AtomicRange) (row : ℕ) (line : List ℕ) (count : ℕ) → IsStart ranges row line count → IsStart ranges row line (whole_columns unit ranges row line count)
whole_fits units.Character ranges row line count fits = fits
whole_fits units.Cluster ranges row line count fits = back_fits ranges row line count fits.0

some_fits : (P : ℕ → Type 0) (count : ℕ) → P count → IfSome (unless_zero count) P
some_fits P count h = by (count == 0)
  where
    by : (none : Bool) → IfSome (cond none None (Some count)) P
    by true = tt
    by false = h

indent_fits : (ranges : List AtomicRange) (tab_length row : ℕ) (line : List ℕ) → IfSome (indent_columns tab_length line) (IsStart ranges row line)
indent_fits ranges tab_length row [] = tt
indent_fits ranges tab_length row (c ∷ line) = by (tab_length == 0)
  where
    by : (none : Bool) → IfSome (cond none None (Some 0)) (IsStart ranges row (c ∷ line))
    by true = tt
    by false = (omega arith, out_at_start ranges row)

pub starts_fit : (document : DocumentState) (outdents : Option CursorUnit) (row : ℕ) (line : List ℕ) → IfSome (replaced_columns document outdents row line) (IsStart document.ranges row line)
starts_fit document outdents row line = by (is_selected_row document row) outdents
  where
    tab_length : ℕ
    tab_length = document.layout.settings.tab_len

    by : (selected : Bool) (outdents : Option CursorUnit) → IfSome (cond selected (shift_columns outdents document.ranges tab_length row line) None) (IsStart document.ranges row line)
    by false outdents = tt
    by true None = indent_fits document.ranges tab_length row line
    by true (Some unit) =
        let count = outdent_columns document.ranges tab_length row line in
        some_fits (IsStart document.ranges row line) (whole_columns unit document.ranges row line count)
        (whole_fits unit document.ranges row line count (outdent_fits document.ranges tab_length row line))

-- ---- lines after some symbols

-- the lines, with breaks between them, and before the first of them what opens it
abbrev opened : List Symbol → List (List ℕ) → List Symbol
opened opening [] = []
opened opening (line ∷ rest) = opening ++ (characters line ++ following rest)

opened_is : (rows : List (List ℕ)) → opened (Break ∷ []) rows ≡ following rows
opened_is [] = refl
opened_is (line ∷ rest) = refl

joined_is : (rows : List (List ℕ)) → joined rows ≡ opened [] rows
joined_is [] = refl
joined_is (line ∷ rest) = refl

-- such lines after other symbols
abbrev laid : List Symbol → List Symbol → List ℕ → List (List ℕ) → List Symbol
laid gap opening line rest = gap ++ (opening ++ (characters line ++ following rest))

-- a line without and with a part of it taken off
line_apart : (gap opening : List Symbol) (line : List ℕ) (rest : List (List ℕ)) → laid gap opening line rest ≡ (gap ++ (opening ++ characters line)) ++ opened (Break ∷ []) rest
line_apart gap opening line rest =
    ap (λ t. gap ++ t) (sym (append_assoc opening (characters line) (following rest)))
    ∙ sym (append_assoc gap (opening ++ characters line) (following rest))
    ∙ ap (λ t. (gap ++ (opening ++ characters line)) ++ t) (sym (opened_is rest))

characters_parts : (count : ℕ) (line : List ℕ) → characters line ≡ characters (take count line) ++ characters (drop count line)
characters_parts count line = ap characters (sym (take-append-drop count line)) ∙ characters-append (take count line) (drop count line)

start_apart : (gap opening : List Symbol) (count : ℕ) (line : List ℕ) (rest : List (List ℕ))
    → laid gap opening line rest ≡ (gap ++ opening) ++ (characters (take count line) ++ (characters (drop count line) ++ opened (Break ∷ []) rest))
start_apart gap opening count line rest =
    let front = characters (take count line) in
    let back = characters (drop count line) in
    sym (append_assoc gap opening (characters line ++ following rest))
    ∙ ap (λ t. (gap ++ opening) ++ (t ++ following rest)) (characters_parts count line)
    ∙ ap (λ t. (gap ++ opening) ++ t) (append_assoc front back (following rest))
    ∙ ap (λ t. (gap ++ opening) ++ (front ++ (back ++ t))) (sym (opened_is rest))

-- what is before the end of what is replaced, and after it
before_stop : (gap opening : List Symbol) (count : ℕ) (line : List ℕ) (rest : List (List ℕ)) (n : ℕ) → count ≤ length line → length gap + length opening + count ≡ n
    → (take n (laid gap opening line rest) ≡ (gap ++ opening) ++ characters (take count line))
    × (drop n (laid gap opening line rest) ≡ characters (drop count line) ++ opened (Break ∷ []) rest)
before_stop gap opening count line rest n within is =
    let front = (gap ++ opening) ++ characters (take count line) in
    let back = characters (drop count line) ++ opened (Break ∷ []) rest in
    let long : length front ≡ n =
    omega (arith, is, length-append (gap ++ opening) (characters (take count line)), length-append gap opening, length-characters (take count line), length-take-le count line within) in
    let parts = start_apart gap opening count line rest ∙ sym (append_assoc (gap ++ opening) (characters (take count line)) back) in
    (ap (take n) parts ∙ take_at front back n long, ap (drop n) parts ∙ drop_at front back n long)

before_start : (gap opening : List Symbol) (line : List ℕ) (rest : List (List ℕ)) (n : ℕ) → length gap + length opening ≡ n
    → take n (laid gap opening line rest) ≡ gap ++ opening
before_start gap opening line rest n is =
    ap (take n) (sym (append_assoc gap opening (characters line ++ following rest))) ∙ take_at (gap ++ opening) (characters line ++ following rest) n (length-append gap opening ∙ is)

-- ---- the stretches are in order, in the text, and cut no range

end_of_line : (place : Place) (front : List Symbol) (row column : ℕ) (line : List ℕ) → end place front ≡ (row, column) → end place (front ++ (characters line ++ Break ∷ [])) ≡ (row + 1, 0)
end_of_line place front row column line is =
    end-append place front (characters line ++ Break ∷ [])
    ∙ ap (λ (p : Place). end p (characters line ++ Break ∷ [])) is
    ∙ end-append (row, column) (characters line) (Break ∷ [])
    ∙ ap (λ (p : Place). end p (Break ∷ [])) (end-characters row column line)

stretches_are : (document : DocumentState) (outdents : Option CursorUnit) (row before passed : ℕ) (place : Place) (gap opening : List Symbol) (rows : List (List ℕ)) → passed + (length gap + length opening) ≡ before
    → end place (gap ++ opening) ≡ (row, 0) → AreStretches document.ranges place (gap ++ opened opening rows) passed (stretches_from document outdents row before rows)
stretches_are document outdents row before passed place gap opening [] is at = tt
stretches_are document outdents row before passed place gap opening (line ∷ rest) is at =
    by (replaced_columns document outdents row line) (starts_fit document outdents row line) (λ row before passed place gap opening is at. stretches_are document outdents row before passed place gap opening rest is at)
  where
    others : List (ℕ × ℕ)
    others = stretches_from document outdents (row + 1) (before + length line + 1) rest

    by : (found : Option ℕ) → IfSome found (IsStart document.ranges row line)
        → ((row before passed : ℕ) (place : Place) (gap opening : List Symbol) → passed + (length gap + length opening) ≡ before → end place (gap ++ opening) ≡ (row, 0)
        → AreStretches document.ranges place (gap ++ opened opening rest) passed (stretches_from document outdents row before rest))
        → AreStretches document.ranges place (laid gap opening line rest) passed (stretch_from before found ++ others)
    by None fits later =
        let front = gap ++ (opening ++ characters line) in
        let long : passed + (length front + 1) ≡ before + length line + 1 =
        omega (arith, is, length-append gap (opening ++ characters line), length-append opening (characters line), length-characters line) in
        let same : front ++ Break ∷ [] ≡ (gap ++ opening) ++ (characters line ++ Break ∷ []) =
        append_assoc gap (opening ++ characters line) (Break ∷ []) ∙ ap (λ t. gap ++ t) (append_assoc opening (characters line) (Break ∷ [])) ∙ sym (append_assoc gap opening (characters line ++ Break ∷ [])) in
        subst (λ t. AreStretches document.ranges place t passed others) (sym (line_apart gap opening line rest))
        (later (row + 1) (before + length line + 1) passed place front (Break ∷ []) long (ap (end place) same ∙ end_of_line place (gap ++ opening) row 0 line at))
    by (Some count) fits later =
        let stop = before + count in
        let start_is = before_start gap opening line rest (before - passed) (omega (arith, is)) in
        let stop_is = before_stop gap opening count line rest (stop - passed) fits.0 (omega (arith, is)) in
        let front = characters (take count line) in
        let width : 0 + length (take count line) ≡ count = omega (arith, length-take-le count line fits.0) in
        let back = characters (drop count line) in
        let here : end place (take (stop - passed) (laid gap opening line rest)) ≡ (row, count) =
        ap (end place) stop_is.0 ∙ end-append place (gap ++ opening) front ∙ ap (λ (p : Place). end p front) at ∙ end-characters row 0 (take count line)
        ∙ ap (λ (n : ℕ). end (row, n) []) width in
        let room : stop - passed ≤ length (laid gap opening line rest) =
        omega (arith, is, fits.0, length-append gap (opening ++ (characters line ++ following rest)), length-append opening (characters line ++ following rest), length-append (characters line) (following rest), length-characters line) in
        let long : stop + (length back + 1) ≡ before + length line + 1 = omega (arith, fits.0, length-characters (drop count line), length-drop count line) in
        let further = later (row + 1) (before + length line + 1) stop (row, count) back (Break ∷ []) long (end_of_line (row, count) [] row count (drop count line) refl) in (
          omega (arith, is),
          omega arith,
          room,
          subst (IsOutside document.ranges) (sym (ap (end place) start_is ∙ at)) (out_at_start document.ranges row),
          subst (IsOutside document.ranges) (sym here) fits.1,
          subst (λ (p : Place). AreStretches document.ranges p (drop (stop - passed) (laid gap opening line rest)) stop others) (sym here)
              (subst (λ t. AreStretches document.ranges (row, count) t stop others) (sym stop_is.1) further),
        )

pub lines_replaceable : (document : DocumentState) (outdents : Option CursorUnit) → AreReplaceable document (line_stretches document outdents)
lines_replaceable document outdents =
    subst (λ t. AreStretches document.ranges (0, 0) t 0 (line_stretches document outdents)) (sym (joined_is (lines document.text)) ∙ joined-lines document.text)
    (stretches_are document outdents 0 0 0 (0, 0) [] [] (lines document.text) refl refl)

-- ---- the text after it

starts_replaced : (document : DocumentState) (outdents : Option CursorUnit) (tab : List ℕ) (row before passed : ℕ) (gap opening : List Symbol) (rows : List (List ℕ)) → passed + (length gap + length opening) ≡ before
    → with_replaced (gap ++ opened opening rows) passed (stretches_from document outdents row before rows) (characters tab) ≡ gap ++ opened opening (with_starts document outdents tab row rows)
starts_replaced document outdents tab row before passed gap opening [] is = refl
starts_replaced document outdents tab row before passed gap opening (line ∷ rest) is =
    by (replaced_columns document outdents row line) (starts_fit document outdents row line) (λ row before passed gap opening is. starts_replaced document outdents tab row before passed gap opening rest is)
  where
    others : List (ℕ × ℕ)
    others = stretches_from document outdents (row + 1) (before + length line + 1) rest

    new : List (List ℕ)
    new = with_starts document outdents tab (row + 1) rest

    by : (found : Option ℕ) → IfSome found (IsStart document.ranges row line)
        → ((row before passed : ℕ) (gap opening : List Symbol) → passed + (length gap + length opening) ≡ before
        → with_replaced (gap ++ opened opening rest) passed (stretches_from document outdents row before rest) (characters tab) ≡ gap ++ opened opening (with_starts document outdents tab row rest))
        → with_replaced (laid gap opening line rest) passed (stretch_from before found ++ others) (characters tab) ≡ laid gap opening (with_start tab found line) new
    by None fits later =
        let front = gap ++ (opening ++ characters line) in
        let long : passed + (length front + 1) ≡ before + length line + 1 =
        omega (arith, is, length-append gap (opening ++ characters line), length-append opening (characters line), length-characters line) in
        ap (λ t. with_replaced t passed others (characters tab)) (line_apart gap opening line rest)
        ∙ later (row + 1) (before + length line + 1) passed front (Break ∷ []) long
        ∙ sym (line_apart gap opening line new)
    by (Some count) fits later =
        let stop = before + count in
        let start_is = before_start gap opening line rest (before - passed) (omega (arith, is)) in
        let stop_is = before_stop gap opening count line rest (stop - passed) fits.0 (omega (arith, is)) in
        let back = characters (drop count line) in
        let long : stop + (length back + 1) ≡ before + length line + 1 = omega (arith, fits.0, length-characters (drop count line), length-drop count line) in
        let further = later (row + 1) (before + length line + 1) stop back (Break ∷ []) long in
        let whole : characters tab ++ (back ++ opened (Break ∷ []) new) ≡ characters (tab ++ drop count line) ++ following new =
        ap (λ t. characters tab ++ (back ++ t)) (opened_is new) ∙ sym (append_assoc (characters tab) back (following new)) ∙ ap (λ t. t ++ following new) (sym (characters-append tab (drop count line))) in
        ap (λ t. t ++ (characters tab ++ with_replaced (drop (stop - passed) (laid gap opening line rest)) stop others (characters tab))) start_is
        ∙ ap (λ t. (gap ++ opening) ++ (characters tab ++ with_replaced t stop others (characters tab))) stop_is.1
        ∙ ap (λ t. (gap ++ opening) ++ (characters tab ++ t)) further
        ∙ ap (λ t. (gap ++ opening) ++ t) whole
        ∙ append_assoc gap opening (characters (tab ++ drop count line) ++ following new)

over_text : (document : DocumentState) (outdents : Option CursorUnit) (stretches : List (ℕ × ℕ)) (tab : List ℕ) (now : ℕ)
    → (shifted_over document outdents stretches tab now).text ≡ (all_replaced document stretches (characters tab) now).text
unfolding shifted_over all_replaced
over_text document outdents [] tab now = refl
over_text document outdents (stretch ∷ rest) tab now = refl

length_with_starts : (document : DocumentState) (outdents : Option CursorUnit) (tab : List ℕ) (row : ℕ) (rows : List (List ℕ)) → length (with_starts document outdents tab row rows) ≡ length rows
length_with_starts document outdents tab row [] = refl
length_with_starts document outdents tab row (line ∷ rest) = ap (λ n. suc n) (length_with_starts document outdents tab (row + 1) rest)

pub shifted_text : (document : DocumentState) (outdents : Option CursorUnit) (tab : List ℕ) (now : ℕ) → IsSound document
    → (lines_shifted document outdents tab now).text ≡ joined (with_starts document outdents tab 0 (lines document.text))
shifted_text document outdents tab now h =
    let rows = lines document.text in
    let stretches = line_stretches document outdents in
    over_text document outdents stretches tab now
    ∙ replaced_text document stretches (characters tab) now h (lines_replaceable document outdents)
    ∙ ap (λ t. with_replaced t 0 stretches (characters tab)) (sym (joined-lines document.text) ∙ joined_is rows)
    ∙ starts_replaced document outdents tab 0 0 0 [] [] rows refl
    ∙ sym (joined_is (with_starts document outdents tab 0 rows))

pub shifted_lines : (document : DocumentState) (outdents : Option CursorUnit) (tab : List ℕ) (now : ℕ) → IsSound document
    → lines (lines_shifted document outdents tab now).text ≡ with_starts document outdents tab 0 (lines document.text)
shifted_lines document outdents tab now h =
    let rows = lines document.text in
    ap lines (shifted_text document outdents tab now h)
    ∙ lines-joined (with_starts document outdents tab 0 rows) (omega (arith, length_with_starts document outdents tab 0 rows, h.cursor.0))
