-- Changes lead from the text before them to the text after.
use Rattle.std.proofs.Common.{◌≡◌, ◌∙◌, ℕ, zero, suc, ◌+◌, ◌-◌, ◌<◌, ◌≤◌, nat_lt, Bool, true, false, if◌then◌else◌, List, [], ◌∷◌, ◌++◌, length, take, drop, Option, None, Some, IfNone, IfSome, sym, ap, refl, subst, arith, take_all}
use Rattle.std.proofs.lemmas.Bool.Decides.{nat_tests}
use Rattle.std.proofs.lemmas.Grind.{common_steps}
use Rattle.std.proofs.lemmas.List.{append-nil, append_assoc, length-drop, nil_from_length}
use Rattle.std.proofs.lemmas.Str.{len_utf8_bounds}
use Rattle.textarea_text.specs.Place.{changed}
use Rattle.textarea_document.specs.Changes.{changed_by, column_from, width_in}
use Rattle.textarea_document.specs.Prelude.{Symbol, joined, lines, Place, IsPlace, end, index_of, line_of, Fits, Splice, applied, inverse, times, Log, undone_log, redone_log, newest, next}
use Rattle.textarea_document.specs.Prelude.{ChangeUnit, Characters, Bytes, Utf16, ChangeView, LoggedChanges, ChangesLead, change_of, changed_by_all, line_changes, place_from_unit, place_in_unit}
use Rattle.textarea_document.specs.Prelude.{splice_changes, unit_count, whole_change, with_more}
use Rattle.textarea_document.specs.Prelude.{AtomicRange, PastRanges, DocumentState, after_change, after_redo_by, after_undo_by, changes_taken, edit_redone, edit_undone, lines_replaced, with_changes_after, IsSound, IsSoundInside}
use Rattle.textarea_document.specs.Prelude.{after_redo, after_undo, layout_at_once, lines_numbered, made_at_once, newest_group, next_group, text_and_layout, times_at_once, wrapped_at_once}
use Rattle.textarea_text.proofs.TextPlaces.{IsPlace-end, index_of-end, joined-lines}
use Rattle.textarea_text.proofs.StringRows.{changed_by_none, occurs_until}
use Rattle.textarea_document.proofs.Layouts.{IsRelaid, redo_relaid, undo_relaid}
use Rattle.textarea_document.proofs.Sounds.{inside_redone, inside_undone, inside_times, newest_fits, next_fits, sound_inside, start_is_place}

-- ---- columns in units

width_some : (unit : ChangeUnit) (c : ℕ) → 0 < width_in unit c
width_some Characters c = omega arith
width_some Bytes c = omega (arith, (len_utf8_bounds c).0)
width_some Utf16 c = by (nat_lt c 0x1_0000)
  where
    by : (b : Bool) → 0 < (if b then 1 else 2)
    by true = omega arith
    by false = omega arith

-- a column in units leads back to the column in characters
column_from-units : (unit : ChangeUnit) (line : List ℕ) (column : ℕ) → column ≤ length line → column_from unit line (unit_count unit (take column line)) ≡ column
column_from-units unit [] column h = omega (arith, h)
column_from-units unit (c ∷ cs) zero h =
    let some = width_some unit c in
    let first : nat_lt 0 (width_in unit c) ≡ true = grind (arith, common_steps, nat_tests) in
    ap (λ (b : Bool). if b then 0 else suc (column_from unit cs (0 - width_in unit c))) first
column_from-units unit (c ∷ cs) (suc column) h =
    let width = width_in unit c in
    let front = unit_count unit (take column cs) in
    let past : nat_lt (width + front) width ≡ false = grind (arith, common_steps, nat_tests) in
    let left : (width + front) - width ≡ front = omega arith in
    ap (λ (b : Bool). if b then 0 else suc (column_from unit cs ((width + front) - width))) past
    ∙ ap (λ n. suc (column_from unit cs n)) left
    ∙ ap (λ n. suc n) (column_from-units unit cs column (omega (arith, h)))

-- so does a position
place_from_unit-place_in_unit : (unit : ChangeUnit) (text : List Symbol) (place : Place) → IsPlace text place → place_from_unit unit (lines text) (place_in_unit unit (lines text) place) ≡ place
place_from_unit-place_in_unit Characters text place h = refl
place_from_unit-place_in_unit Bytes text place h = ap (λ n. (place.0, n)) (column_from-units Bytes (line_of (lines text) place.0) place.1 h.1)
place_from_unit-place_in_unit Utf16 text place h = ap (λ n. (place.0, n)) (column_from-units Utf16 (line_of (lines text) place.0) place.1 h.1)

place_in_unit-start : (unit : ChangeUnit) (rows : List (List ℕ)) → place_in_unit unit rows (0, 0) ≡ (0, 0)
place_in_unit-start Characters rows = refl
place_in_unit-start Bytes rows = refl
place_in_unit-start Utf16 rows = refl

-- ---- one change

change_from : (unit : ChangeUnit) (text : List Symbol) (start to : Place) (rows : List (List ℕ)) → IsPlace text start → IsPlace text to →
    changed_by unit text (record { start = place_in_unit unit (lines text) start; end = place_in_unit unit (lines text) to; lines = rows }) ≡ changed text start to (joined rows)
unfolding changed_by
change_from unit text start to rows h k =
    ap (λ (p : Place). changed text p (place_from_unit unit (lines text) (place_in_unit unit (lines text) to)) (joined rows)) (place_from_unit-place_in_unit unit text start h)
    ∙ ap (λ (p : Place). changed text start p (joined rows)) (place_from_unit-place_in_unit unit text to k)

change_applies : (unit : ChangeUnit) (text : List Symbol) (place : Place) (symbols : List Symbol) (inserts : Bool) → Fits text (record { place = place; symbols = symbols; inserts = inserts }) →
    changed_by unit text (change_of unit text (record { place = place; symbols = symbols; inserts = inserts })) ≡ applied text (record { place = place; symbols = symbols; inserts = inserts })
change_applies unit text place symbols true fits =
    change_from unit text place place (lines symbols) fits.is_place fits.is_place ∙ ap (changed text place place) (joined-lines symbols)
change_applies unit text place symbols false fits =
    change_from unit text place (end place symbols) (lines []) fits.is_place (occurs_until text place symbols fits.is_place fits.allowed).0
    ∙ changed_by_none text place (end place symbols) symbols (joined (lines [])) fits.is_place fits.allowed refl refl

-- a position of the text's end
end_is_place : (text : List Symbol) → IsPlace text (end (0, 0) text)
end_is_place text = subst (λ t. IsPlace t (end (0, 0) text)) (append-nil text) (IsPlace-end text [])

whole_applies : (unit : ChangeUnit) (text : List Symbol) (rows : List (List ℕ)) → changed_by unit text (whole_change unit text rows) ≡ joined rows
whole_applies unit text rows =
    let last = end (0, 0) text in
    let whole : take (length text) text ≡ text = take_all (length text) text (omega arith) in
    let none : drop (length text) text ≡ [] = nil_from_length (drop (length text) text) (omega (arith, length-drop (length text) text)) in
    let index : index_of text last ≡ length text = ap (λ t. index_of t last) (sym (append-nil text)) ∙ index_of-end text [] in
    let from : changed_by unit text (whole_change unit text rows) ≡ changed text (0, 0) last (joined rows) =
    ap (λ (p : Place). changed_by unit text (record { start = p; end = place_in_unit unit (lines text) (end (0, 0) (take (length text) text)); lines = rows })) (sym (place_in_unit-start unit (lines text)))
    ∙ ap (λ (t : List Symbol). changed_by unit text (record { start = place_in_unit unit (lines text) (0, 0); end = place_in_unit unit (lines text) (end (0, 0) t); lines = rows })) whole
    ∙ change_from unit text (0, 0) last rows (start_is_place text) (end_is_place text) in
    from ∙ ap (λ n. joined rows ++ drop n text) index ∙ ap (λ (t : List Symbol). joined rows ++ t) none ∙ append-nil (joined rows)

-- ---- changes one after another

changed_by_all-append : (unit : ChangeUnit) (text : List Symbol) (first second : List ChangeView) → changed_by_all unit text (first ++ second) ≡ changed_by_all unit (changed_by_all unit text first) second
changed_by_all-append unit text [] second = refl
changed_by_all-append unit text (change ∷ first) second = changed_by_all-append unit (changed_by unit text change) first second

leads_once : (unit : Option ChangeUnit) (text : List Symbol) (splice : Splice) → Fits text splice → IfSome unit (λ u. changed_by_all u text (splice_changes unit text splice) ≡ applied text splice)
leads_once None text splice fits = tt
leads_once (Some unit) text splice fits = change_applies unit text splice.place splice.symbols splice.inserts fits

none_once : (unit : Option ChangeUnit) (text : List Symbol) (splice : Splice) → IfNone unit (splice_changes unit text splice ≡ [])
none_once None text splice = refl
none_once (Some unit) text splice = tt

pub change_leads : (document : DocumentState) (splice : Splice) (log : Log) (ranges : List AtomicRange) (past : PastRanges) → Fits document.text splice →
    ChangesLead document (record (after_change document splice log) { ranges = ranges; past_ranges = past })
change_leads document splice log ranges past fits = record {
  more = splice_changes document.changes.unit document.text splice;
  changes = refl;
  leads = leads_once document.changes.unit document.text splice fits;
  none = none_once document.changes.unit document.text splice;
}

lines_once : (unit : Option ChangeUnit) (text : List Symbol) (rows : List (List ℕ)) → IfSome unit (λ u. changed_by_all u text (line_changes unit text rows) ≡ joined rows)
lines_once None text rows = tt
lines_once (Some unit) text rows = whole_applies unit text rows

no_lines : (unit : Option ChangeUnit) (text : List Symbol) (rows : List (List ℕ)) → IfNone unit (line_changes unit text rows ≡ [])
no_lines None text rows = refl
no_lines (Some unit) text rows = tt

pub lines_lead : (document : DocumentState) (rows : List (List ℕ)) (cursor : Place) → ChangesLead document (lines_replaced document rows cursor)
lines_lead document rows cursor = record {
  more = line_changes document.changes.unit document.text rows;
  changes = refl;
  leads = lines_once document.changes.unit document.text rows;
  none = no_lines document.changes.unit document.text rows;
}

-- nothing changes
kept_text : (unit : Option ChangeUnit) (old new : List Symbol) → new ≡ old → IfSome unit (λ u. old ≡ new)
kept_text None old new is = tt
kept_text (Some unit) old new is = sym is

none_more : (unit : Option ChangeUnit) (nothing : List ChangeView) → nothing ≡ [] → IfNone unit (nothing ≡ [])
none_more None nothing is = is
none_more (Some unit) nothing is = tt

pub no_change_leads : (old new : DocumentState) → new.text ≡ old.text → new.changes ≡ old.changes → ChangesLead old new
no_change_leads old new text changes = record {
  more = [];
  changes = changes ∙ ap (λ (made : List ChangeView). record old.changes { made = made }) (sym (append-nil old.changes.made));
  leads = kept_text old.changes.unit old.text new.text text;
  none = none_more old.changes.unit [] refl;
}

pub changes_join : (unit : Option ChangeUnit) (first second : List ChangeView) (old between new : List Symbol) → IfSome unit (λ u. changed_by_all u old first ≡ between) → IfSome unit (λ u. changed_by_all u between second ≡ new) →
    IfSome unit (λ u. changed_by_all u old (first ++ second) ≡ new)
changes_join None first second old between new h k = tt
changes_join (Some unit) first second old between new h k = changed_by_all-append unit old first second ∙ ap (λ t. changed_by_all unit t second) h ∙ k

pub none_joined : (unit : Option ChangeUnit) (first second : List ChangeView) → IfNone unit (first ≡ []) → IfNone unit (second ≡ []) → IfNone unit (first ++ second ≡ [])
none_joined None first second h k = ap (λ (f : List ChangeView). f ++ second) h ∙ k
none_joined (Some unit) first second h k = tt

pub leads_on : (old between new : DocumentState) → ChangesLead old between → ChangesLead between new → ChangesLead old new
leads_on old between new h k =
    let unit : between.changes.unit ≡ old.changes.unit = ap (λ (c : LoggedChanges). c.unit) h.changes in
    record {
      more = h.more ++ k.more;
      changes = k.changes ∙ ap (λ (c : LoggedChanges). with_more c k.more) h.changes ∙ ap (λ (made : List ChangeView). record old.changes { made = made }) (append_assoc old.changes.made h.more k.more);
      leads = changes_join old.changes.unit h.more k.more old.text between.text new.text h.leads
          (subst (λ (u : Option ChangeUnit). IfSome u (λ x. changed_by_all x between.text k.more ≡ new.text)) unit k.leads);
      none = none_joined old.changes.unit h.more k.more h.none (subst (λ (u : Option ChangeUnit). IfNone u (k.more ≡ [])) unit k.none);
    }

-- ---- undo and redo

undone_leads : (document : DocumentState) → IsSoundInside document → ChangesLead document (edit_undone document)
undone_leads document h = by (newest document.log) refl
  where
    by : (found : Option Splice) → newest document.log ≡ found → ChangesLead document (after_undo_by found document)
    by None e = no_change_leads document document refl refl
    by (Some splice) e = change_leads document (inverse splice) (undone_log document.log splice) (after_undo_by (Some splice) document).ranges document.past_ranges (newest_fits document splice h.log e)

redone_leads : (document : DocumentState) → IsSoundInside document → ChangesLead document (edit_redone document)
redone_leads document h = by (next document.log) refl
  where
    by : (found : Option Splice) → next document.log ≡ found → ChangesLead document (after_redo_by found document)
    by None e = no_change_leads document document refl refl
    by (Some splice) e = change_leads document splice (redone_log document.log splice) (after_redo_by (Some splice) document).ranges document.past_ranges (next_fits document splice h.log e)

undos_lead : (count : ℕ) (document : DocumentState) → IsSoundInside document → ChangesLead document (times count edit_undone document)
undos_lead zero document h = no_change_leads document document refl refl
undos_lead (suc count) document h =
    leads_on document (times count edit_undone document) (times (suc count) edit_undone document) (undos_lead count document h)
    (undone_leads (times count edit_undone document) (inside_times edit_undone inside_undone count document h))

redos_lead : (count : ℕ) (document : DocumentState) → IsSoundInside document → ChangesLead document (times count edit_redone document)
redos_lead zero document h = no_change_leads document document refl refl
redos_lead (suc count) document h =
    leads_on document (times count edit_redone document) (times (suc count) edit_redone document) (redos_lead count document h)
    (redone_leads (times count edit_redone document) (inside_times edit_redone inside_redone count document h))

-- whatever the layout
leads_as : (old new other : DocumentState) → IsRelaid other new → ChangesLead old new → ChangesLead old other
leads_as old new other same h = subst (ChangesLead old) (sym same) (record { more = h.more; changes = h.changes; leads = h.leads; none = h.none })

pub undo_leads : (document : DocumentState) → IsSound document → ChangesLead document (after_undo document)
undo_leads document h =
    leads_as document (times (newest_group document.log) edit_undone document) (after_undo document) (undo_relaid document) (undos_lead (newest_group document.log) document (sound_inside document h))

pub redo_leads : (document : DocumentState) → IsSound document → ChangesLead document (after_redo document)
redo_leads document h =
    leads_as document (times (next_group document.log) edit_redone document) (after_redo document) (redo_relaid document) (redos_lead (next_group document.log) document (sound_inside document h))

-- ---- steps in a draft, whose log begins empty

-- a step of a document with more changes before its own
abbrev StepsAfter : (DocumentState → DocumentState) → LoggedChanges → DocumentState → Type 0
StepsAfter step before document =
    (step (with_changes_after before document) ≡ with_changes_after before (step document)) × ((step document).changes.unit ≡ before.unit)

changed_after : (before : LoggedChanges) (document : DocumentState) (splice : Splice) (log : Log) (ranges : List AtomicRange) → document.changes.unit ≡ before.unit →
    record (after_change (with_changes_after before document) splice log) { ranges = ranges } ≡ with_changes_after before (record (after_change document splice log) { ranges = ranges })
changed_after before document splice log ranges same =
    ap (λ (made : List ChangeView). record (after_change document splice log) { ranges = ranges; changes = record before { made = made } })
    (append_assoc before.made document.changes.made (splice_changes before.unit document.text splice)
    ∙ ap (λ (unit : Option ChangeUnit). before.made ++ (document.changes.made ++ splice_changes unit document.text splice)) (sym same))

undone_after : (before : LoggedChanges) (document : DocumentState) → document.changes.unit ≡ before.unit → StepsAfter edit_undone before document
undone_after before document same = by (newest document.log)
  where
    by : (found : Option Splice) → StepsAfter (after_undo_by found) before document
    by None = (refl, same)
    by (Some splice) = (changed_after before document (inverse splice) (undone_log document.log splice) (after_undo_by (Some splice) document).ranges same, same)

redone_after : (before : LoggedChanges) (document : DocumentState) → document.changes.unit ≡ before.unit → StepsAfter edit_redone before document
redone_after before document same = by (next document.log)
  where
    by : (found : Option Splice) → StepsAfter (after_redo_by found) before document
    by None = (refl, same)
    by (Some splice) = (changed_after before document splice (redone_log document.log splice) (after_redo_by (Some splice) document).ranges same, same)

times_after : (step : DocumentState → DocumentState) → ((before : LoggedChanges) (document : DocumentState) → document.changes.unit ≡ before.unit → StepsAfter step before document) →
    (count : ℕ) (before : LoggedChanges) (document : DocumentState) → document.changes.unit ≡ before.unit → StepsAfter (times count step) before document
times_after step one zero before document same = (refl, same)
times_after step one (suc count) before document same =
    let rest = times_after step one count before document same in
    let last = one before (times count step document) rest.1 in
    (ap step rest.0 ∙ last.0, last.1)

taken_before : (document : DocumentState) → with_changes_after document.changes (changes_taken document) ≡ document
taken_before document = ap (λ (made : List ChangeView). record document { changes = record document.changes { made = made } }) (append-nil document.changes.made)

-- several steps in a draft with numbered lines, put into the document
module _ (step : DocumentState → DocumentState) (one : (before : LoggedChanges) (document : DocumentState) → document.changes.unit ≡ before.unit → StepsAfter step before document) where
  in_draft : (count : ℕ) (document : DocumentState) → with_changes_after document.changes (times count step (changes_taken document)) ≡ times count step document
  in_draft count document = sym (times_after step one count document.changes (changes_taken document) refl).0 ∙ ap (times count step) (taken_before document)

  -- its text and layout are those of the steps
  laid_in_draft : (count : ℕ) (document : DocumentState) → text_and_layout (times count step (changes_taken (lines_numbered document))) ≡ text_and_layout (times count step (lines_numbered document))
  laid_in_draft count document = ap text_and_layout (in_draft count (lines_numbered document))

  put_from_draft : (count : ℕ) (document : DocumentState) → nat_lt 1 count ≡ true →
      with_changes_after document.changes (wrapped_at_once document (times count step (changes_taken (lines_numbered document)))) ≡ times_at_once count step document
  unfolding layout_at_once
  put_from_draft count document several =
      ap (wrapped_at_once document) (in_draft count (lines_numbered document))
      ∙ ap (λ (b : Bool). if b then made_at_once (times count step) document else times count step document) (sym several)

-- a group is undone
pub put_undone : (document draft : DocumentState) (count : ℕ) → draft ≡ times count edit_undone (changes_taken (lines_numbered document)) → count ≡ newest_group document.log → 1 < count →
    with_changes_after document.changes (wrapped_at_once document draft) ≡ after_undo document
put_undone document draft count is all several =
    ap (λ (d : DocumentState). with_changes_after document.changes (wrapped_at_once document d)) is
    ∙ put_from_draft edit_undone undone_after count document (grind (arith, nat_tests))
    ∙ ap (λ n. times_at_once n edit_undone document) all

pub laid_undone : (document draft : DocumentState) (count : ℕ) → draft ≡ times count edit_undone (changes_taken (lines_numbered document)) →
    text_and_layout draft ≡ text_and_layout (times count edit_undone (lines_numbered document))
laid_undone document draft count is = ap text_and_layout is ∙ laid_in_draft edit_undone undone_after count document

-- a group is redone
pub put_redone : (document draft : DocumentState) (count : ℕ) → draft ≡ times count edit_redone (changes_taken (lines_numbered document)) → count ≡ next_group document.log → 1 < count →
    with_changes_after document.changes (wrapped_at_once document draft) ≡ after_redo document
put_redone document draft count is all several =
    ap (λ (d : DocumentState). with_changes_after document.changes (wrapped_at_once document d)) is
    ∙ put_from_draft edit_redone redone_after count document (grind (arith, nat_tests))
    ∙ ap (λ n. times_at_once n edit_redone document) all

pub laid_redone : (document draft : DocumentState) (count : ℕ) → draft ≡ times count edit_redone (changes_taken (lines_numbered document)) →
    text_and_layout draft ≡ text_and_layout (times count edit_redone (lines_numbered document))
laid_redone document draft count is = ap text_and_layout is ∙ laid_in_draft edit_redone redone_after count document
