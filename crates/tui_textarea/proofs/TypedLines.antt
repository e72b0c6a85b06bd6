-- A text of one line with the cursor after it, over the calls that type a character, remove the last
-- one, and clear the text.
use Rattle.std.proofs.Common.{◌≡◌, ◌∙◌, ℕ, zero, suc, ◌+◌, ◌-◌, ◌≤◌, ◌&&◌, ◌||◌, Bool, true, false, not, cond, List, [], ◌∷◌, ◌++◌, length, take, drop, Option, None, Some, inl, inr, refl, subst, sym, ap, arith, take_all, ⊎_elim}
use Rattle.std.proofs.Math.Bool.{or-false}
use Rattle.std.proofs.lemmas.Bool.{cond-false}
use Rattle.std.proofs.lemmas.Bool.Decides.{nat_tests}
use Rattle.std.proofs.lemmas.List.{append-nil, drop_all, length-drop, length-take-le, length_push}
use Rattle.textarea_data.specs.declared.range.AtomicRange.{AtomicRange}
use Rattle.textarea_ranges.specs.Moved.{moved_ranges}
use Rattle.textarea_text.specs.Fragment.{fragment_text}
use Rattle.textarea_text.specs.Place.{Place, end, index_of, is_before, place_of, removed}
use Rattle.textarea_text.specs.Text.{Symbol, Character, characters}
use Rattle.textarea_text.proofs.Splices.{characters-append, end-characters, length-characters}
use Rattle.textarea_document.specs.DocumentState.{DocumentState}
use Rattle.textarea_document.specs.Edits.{RemoveBefore, between_removed, has_symbols, is_at_start, removed_before, stepped}
use Rattle.textarea_document.specs.Outcomes.{unanchored}
use Rattle.textarea_document.specs.Selection.{is_selected}
use Rattle.tui_textarea.specs.Edits.{breaks_line, char_inserted, char_or_break_inserted, line_broken, typed_character_inserted}
use Rattle.tui_textarea.specs.Fitting.{fits_for, has_no_room, is_allowed}
use Rattle.tui_textarea.specs.Grouping.{call_begun, call_ended}
use Rattle.tui_textarea.specs.Guards.{bars_character, unless_read_only}
use Rattle.tui_textarea.specs.Removals.{removed_from, symbol_before_removed, text_cleared, unselected_or, yanked}
use Rattle.textarea_data.specs.declared.cursor.CursorUnit.{CursorUnit}
use Rattle.textarea_data.specs.declared.cursor.CursorUnit.TheVariants as unit
use Rattle.textarea_data.specs.declared.range.AtomicCursorBias.TheVariants.{Forward}
use Rattle.tui_textarea.specs.Units.{earlier_start, earlier_start_by, settled}
use Rattle.tui_textarea.proofs.Settling.{settled_by_characters}
use Rattle.tui_textarea.specs.Selection.{IsInsertOutOfMemory, unselected}
use Rattle.tui_textarea.specs.State.{State, with_document}
use Rattle.tui_textarea.specs.TypedLine.{IsTypedLine, with_character}
use Rattle.tui_textarea.specs.declared.textarea.settings.Settings.{Settings}

-- ---- characters

pub written_characters : (typed : List ℕ) → fragment_text (characters typed) ≡ typed
written_characters [] = refl
written_characters (c ∷ cs) = ap (λ (rest : List ℕ). c ∷ rest) (written_characters cs)

take-characters : (n : ℕ) (typed : List ℕ) → take n (characters typed) ≡ characters (take n typed)
take-characters zero typed = refl
take-characters (suc n) [] = refl
take-characters (suc n) (c ∷ cs) = ap (λ (rest : List Symbol). Character c ∷ rest) (take-characters n cs)

-- ---- the document

-- the text has these characters, and the cursor is after them, whether it can be edited or not
record HasLine (state : State) (typed : List ℕ) : Type 0 where
  text : state.document.text ≡ characters typed
  cursor : state.document.cursor ≡ (0, length typed)
  anchor : state.document.anchor ≡ None
  ranges : state.document.ranges ≡ []

-- the document with these characters, the cursor after them, and nothing else
abbrev ending : DocumentState → List ℕ → DocumentState
ending document typed = record document { text = characters typed; cursor = (0, length typed); anchor = None; ranges = [] }

abbrev HasParts : DocumentState → List Symbol → Place → Option Place → List AtomicRange → Type 0
HasParts document text cursor anchor ranges = document ≡ record document { text = text; cursor = cursor; anchor = anchor; ranges = ranges }

is_ending : (state : State) (typed : List ℕ) → HasLine state typed → state.document ≡ ending state.document typed
is_ending state typed h =
    let document = state.document in
    subst (λ (t : List Symbol). HasParts document t (0, length typed) None []) h.text
    (subst (λ (p : Place). HasParts document document.text p None []) h.cursor
    (subst (λ (a : Option Place). HasParts document document.text document.cursor a []) h.anchor
    (subst (λ (r : List AtomicRange). HasParts document document.text document.cursor document.anchor r) h.ranges refl)))

abbrev ending_state : State → List ℕ → State
ending_state state typed = with_document state (ending state.document typed)

is_ending_state : (state : State) (typed : List ℕ) → HasLine state typed → state ≡ ending_state state typed
is_ending_state state typed h = ap (with_document state) (is_ending state typed h)

not_before : (place : Place) → is_before place place ≡ false
not_before place = grind (arith, nat_tests)

same_ends : (b : Bool) (place : Place) → is_before (cond b place place) (cond b place place) ≡ false
same_ends true place = not_before place
same_ends false place = not_before place

none_selected : (document : DocumentState) (typed : List ℕ) → is_selected (ending document typed) ≡ false
none_selected document typed = same_ends (is_before (0, length typed) (0, length typed)) (0, length typed)

stays_unselected : (state : State) (typed : List ℕ) → unselected (ending_state state typed) ≡ ending_state state typed
stays_unselected state typed =
    ap (with_document state)
    (cond-false (is_selected (ending state.document typed)) _ (ending state.document typed) (none_selected state.document typed))

-- ---- a character

grown : (text : List Symbol) (symbol : Symbol) (index : ℕ) → index ≡ length text → take index text ++ (symbol ∷ drop index text) ≡ text ++ symbol ∷ []
grown text symbol index is =
    ap (λ (front : List Symbol). front ++ (symbol ∷ drop index text)) (take_all index text (omega (arith, is)))
    ∙ ap (λ (back : List Symbol). text ++ symbol ∷ back) (drop_all index text (omega (arith, is)))

character_holds : (state : State) (typed : List ℕ) (c : ℕ) → HasLine (typed_character_inserted (ending_state state typed) c) (typed ++ c ∷ [])
unfolding moved_ranges
character_holds state typed c = record {
  text = grown (characters typed) (Character c) (index_of (characters typed) (0, length typed)) (omega (arith, length-characters typed)) ∙ sym (characters-append typed (c ∷ []));
  cursor = ap (λ (column : ℕ). (0, column)) (sym (length_push typed c));
  anchor = refl;
  ranges = refl;
}

-- the character replaces the selected text, of which there is none
replaced : (state : State) (typed : List ℕ) (c : ℕ) → HasLine state typed → breaks_line c ≡ false → HasLine (char_or_break_inserted (unselected state) c) (typed ++ c ∷ [])
replaced state typed c h breaks =
    let at_end = ending_state state typed in
    let one : char_or_break_inserted (unselected state) c ≡ char_or_break_inserted (unselected at_end) c = ap (λ (s : State). char_or_break_inserted (unselected s) c) (is_ending_state state typed h) in
    let two : char_or_break_inserted (unselected at_end) c ≡ char_or_break_inserted at_end c = ap (λ (s : State). char_or_break_inserted s c) (stays_unselected state typed) in
    let three : char_or_break_inserted at_end c ≡ typed_character_inserted at_end c = cond-false (breaks_line c) (line_broken at_end) (typed_character_inserted at_end c) breaks in
    subst (λ (s : State). HasLine s (typed ++ c ∷ [])) (sym (one ∙ two ∙ three)) (character_holds state typed c)

-- a group of edits that begins or ends changes nothing of it
begun : (state : State) (typed : List ℕ) → HasLine state typed → HasLine (call_begun state) typed
begun state typed h = record { text = h.text; cursor = h.cursor; anchor = h.anchor; ranges = h.ranges }

ended : (old new : State) (typed : List ℕ) → HasLine new typed → HasLine (call_ended old new) typed
ended old new typed h = record { text = h.text; cursor = h.cursor; anchor = h.anchor; ranges = h.ranges }

line_typed : (state new : State) (typed : List ℕ) (c : ℕ) → HasLine state typed → breaks_line c ≡ false → new ≡ char_inserted state c → HasLine new (typed ++ c ∷ [])
line_typed state new typed c h breaks is =
    subst (λ (s : State). HasLine s (typed ++ c ∷ [])) (sym is)
    (ended state (char_or_break_inserted (unselected (call_begun state)) c) (typed ++ c ∷ []) (replaced (call_begun state) typed c (begun state typed h) breaks))

-- ---- Enter

emptied : (text : List Symbol) (count : ℕ) → length text ≤ count → drop (0 + length (take count text)) text ≡ []
emptied text count within = ap (λ (t : List Symbol). drop (0 + length t) text) (take_all count text within) ∙ drop_all (0 + length text) text (omega arith)

whole_index : (typed : List ℕ) → index_of (characters typed) (place_of (characters typed) (length (characters typed))) ≡ length (characters typed)
whole_index typed =
    let to : place_of (characters typed) (length (characters typed)) ≡ (0, 0 + length typed) =
    ap (end (0, 0)) (take_all (length (characters typed)) (characters typed) (omega arith)) ∙ end-characters 0 0 typed in
    ap (index_of (characters typed)) to ∙ omega (arith, length-characters typed)

yanked_holds : (state : State) (typed : List ℕ) → HasLine (yanked (ending_state state typed) (0, 0) (place_of (characters typed) (length (characters typed)))) []
unfolding moved_ranges yanked between_removed
yanked_holds state typed = record {
  text = emptied (characters typed) (index_of (characters typed) (place_of (characters typed) (length (characters typed))) - 0) (omega (arith, whole_index typed));
  cursor = refl;
  anchor = refl;
  ranges = refl;
}

cleared_holds : (state : State) (typed : List ℕ) → HasLine (text_cleared (ending_state state typed)) []
cleared_holds state [] = record { text = refl; cursor = refl; anchor = refl; ranges = refl }
cleared_holds state (c ∷ cs) = yanked_holds state (c ∷ cs)

line_cleared : (state new : State) (typed : List ℕ) → HasLine state typed → new ≡ text_cleared state → HasLine new []
line_cleared state new typed h is =
    subst (λ (s : State). HasLine s []) (sym (is ∙ ap text_cleared (is_ending_state state typed h))) (cleared_holds state typed)

-- ---- Backspace

last_place : (typed : List ℕ) (index : ℕ) → index ≤ length typed → place_of (characters typed) index ≡ (0, index)
last_place typed index within =
    ap (end (0, 0)) (take-characters index typed) ∙ end-characters 0 0 (take index typed) ∙ ap (λ (column : ℕ). (0, column)) (omega (arith, length-take-le index typed within))

without_last : (typed : List ℕ) (index : ℕ) → index + 1 ≡ length typed
    → removed (characters typed) (place_of (characters typed) index) (take 1 (drop index (characters typed))) ≡ characters (take index typed)
without_last typed index last =
    let text = characters typed in
    let symbols = take 1 (drop index text) in
    let one : length symbols ≡ 1 = length-take-le 1 (drop index text) (omega (arith, length-drop index text, length-characters typed, last)) in
    ap (λ (p : Place). removed text p symbols) (last_place typed index (omega (arith, last)))
    ∙ ap (λ (back : List Symbol). take (index_of text (0, index)) text ++ back) (drop_all (index_of text (0, index) + length symbols) text (omega (arith, one, last, length-characters typed)))
    ∙ append-nil (take (index_of text (0, index)) text) ∙ ap (λ (n : ℕ). take n text) (omega arith) ∙ take-characters index typed

before_holds : (state : State) (c : ℕ) (cs : List ℕ) → HasLine (with_document state (stepped (ending state.document (c ∷ cs)) RemoveBefore state.settings.undo_coalescing state.time)) (take (length (c ∷ cs) - 1) (c ∷ cs))
unfolding moved_ranges
before_holds state c cs =
    let typed = c ∷ cs in
    let index = index_of (characters typed) (0, length typed) - 1 in
    let last : index + 1 ≡ length typed = omega arith in
    let same : index ≡ length typed - 1 = omega arith in
    record {
      text = without_last typed index last ∙ ap (λ (n : ℕ). characters (take n typed)) same;
      cursor = last_place typed index (omega (arith, last)) ∙ ap (λ (column : ℕ). (0, column)) (same ∙ sym (length-take-le (length typed - 1) typed (omega arith)));
      anchor = refl;
      ranges = refl;
    }

removed_holds : (state : State) (typed : List ℕ) → HasLine (removed_from None (ending_state state typed)) (take (length typed - 1) typed)
unfolding removed_before
removed_holds state [] = record { text = refl; cursor = refl; anchor = refl; ranges = refl }
removed_holds state (c ∷ cs) =
    let document = ending state.document (c ∷ cs) in
    subst (λ (d : DocumentState). HasLine (with_document state d) (take (length (c ∷ cs) - 1) (c ∷ cs)))
    (sym (cond-false (is_at_start document) (unanchored document) (stepped document RemoveBefore state.settings.undo_coalescing state.time) (grind (arith, nat_tests))))
    (before_holds state c cs)

line_shortened : (state new : State) (typed : List ℕ) → HasLine state typed → state.settings.cursor_unit ≡ unit.Character → new ≡ unselected_or state (symbol_before_removed state) → HasLine new (take (length typed - 1) typed)
line_shortened state new typed h by_characters is =
    let at_end = ending_state state typed in
    let one = ap (λ (s : State). unselected_or s (symbol_before_removed s)) (is_ending_state state typed h) in
    let two : unselected_or at_end (symbol_before_removed at_end) ≡ symbol_before_removed at_end =
    cond-false (is_selected at_end.document) (unselected at_end) (symbol_before_removed at_end) (none_selected state.document typed) in
    let three : symbol_before_removed at_end ≡ removed_from None at_end = ap (λ (found : CursorUnit). removed_from (earlier_start_by found at_end.document) at_end) by_characters in
    subst (λ (s : State). HasLine s (take (length typed - 1) typed)) (sym (is ∙ one ∙ two ∙ three)) (removed_holds state typed)

-- ---- out of memory

line_left : (state new : State) (typed : List ℕ) → HasLine state typed → state.settings.cursor_unit ≡ unit.Character → IsInsertOutOfMemory state new → HasLine new typed
line_left state new typed h by_characters (inl same) = subst (λ (s : State). HasLine s typed) (sym same) h
line_left state new typed h by_characters (inr gone) =
    subst (λ (s : State). HasLine s typed) (sym (gone ∙ settled_by_characters Forward (unselected state) by_characters ∙ ap unselected (is_ending_state state typed h) ∙ stays_unselected state typed))
    (record { text = refl; cursor = refl; anchor = refl; ranges = refl })

-- ---- in a text area that can be edited

line_of : (state : State) (maximum : Option ℕ) (typed : List ℕ) → IsTypedLine state maximum typed → HasLine state typed
line_of state maximum typed h = record { text = h.text; cursor = h.cursor; anchor = h.anchor; ranges = h.ranges }

-- the state has the line, and its settings are those of a text area that can be edited
made_holds : (old new made : State) (maximum : Option ℕ) (typed more : List ℕ) → IsTypedLine old maximum typed → new ≡ made → made.settings ≡ old.settings
    → HasLine new more → IsTypedLine new maximum more
made_holds old new made maximum typed more h is same line =
    let settings : new.settings ≡ old.settings = ap (λ (s : State). s.settings) is ∙ same in
    record {
      text = line.text;
      cursor = line.cursor;
      anchor = line.anchor;
      ranges = line.ranges;
      editable = ap (λ (s : Settings). s.read_only) settings ∙ h.editable;
      by_characters = ap (λ (s : Settings). s.cursor_unit) settings ∙ h.by_characters;
      most = ap (λ (s : Settings). s.max_chars) settings ∙ h.most;
    }

-- the state that a call leaves is the one that it makes, since the cursor goes by characters
plain : (old made : State) (maximum : Option ℕ) (typed : List ℕ) → IsTypedLine old maximum typed → made.settings ≡ old.settings → settled Forward made ≡ made
plain old made maximum typed h same = settled_by_characters Forward made (ap (λ (s : Settings). s.cursor_unit) same ∙ h.by_characters)

holds : (old new made : State) (maximum : Option ℕ) (typed more : List ℕ) → IsTypedLine old maximum typed → new ≡ unless_read_only old (settled Forward made) → made.settings ≡ old.settings
    → (new ≡ made → HasLine new more) → IsTypedLine new maximum more
holds old new made maximum typed more h is same k =
    let made_is : new ≡ made = is ∙ cond-false old.settings.read_only old (settled Forward made) h.editable ∙ plain old made maximum typed h same in
    made_holds old new made maximum typed more h made_is same (k made_is)

-- whatever a test chooses has the settings
either : (state : State) (b : Bool) (x y : State) → x.settings ≡ state.settings → y.settings ≡ state.settings → (cond b x y).settings ≡ state.settings
either state true x y h k = h
either state false x y h k = k

-- a character has no room exactly if the line has as many as it may
barred_is : (state : State) (maximum : Option ℕ) (typed : List ℕ) (c : ℕ) → IsTypedLine state maximum typed → breaks_line c ≡ false
    → bars_character state c ≡ not (is_allowed maximum (length typed + 1))
barred_is state maximum typed c h breaks =
    let line = line_of state maximum typed h in
    let none : is_selected state.document ≡ false = ap is_selected (is_ending state typed line) ∙ none_selected state.document typed in
    let count : length state.document.text - 0 + 1 ≡ length typed + 1 = omega (arith, ap length h.text, length-characters typed) in
    let room : has_no_room state ≡ not (is_allowed maximum (length typed + 1)) =
    ap (λ (b : Bool). not b && not (fits_for state 0 1)) none
    ∙ ap (λ (m : Option ℕ). not (is_allowed m (length state.document.text - 0 + 1))) h.most
    ∙ ap (λ (n : ℕ). not (is_allowed maximum n)) count in
    ap (λ (b : Bool). ((b && state.settings.single_line) || has_no_room state) || state.settings.read_only) breaks
    ∙ ap (λ (b : Bool). has_no_room state || b) h.editable ∙ or-false (has_no_room state) ∙ room

pub character_typed : (state new : State) (maximum : Option ℕ) (typed : List ℕ) (c : ℕ) → IsTypedLine state maximum typed → breaks_line c ≡ false
    → new ≡ cond (bars_character state c) state (settled Forward (char_inserted state c)) → IsTypedLine new maximum (with_character maximum typed c)
character_typed state new maximum typed c h breaks is =
    by (is_allowed maximum (length typed + 1))
    (is ∙ ap (λ (s : State). cond (bars_character state c) state s) (plain state (char_inserted state c) maximum typed h same)
    ∙ ap (λ (b : Bool). cond b state (char_inserted state c)) (barred_is state maximum typed c h breaks))
  where
    left : State
    left = unselected (call_begun state)

    same : (char_inserted state c).settings ≡ state.settings
    same = either state (breaks_line c) (line_broken left) (typed_character_inserted left c) refl refl

    by : (fits : Bool) → new ≡ cond (not fits) state (char_inserted state c) → IsTypedLine new maximum (cond fits (typed ++ c ∷ []) typed)
    by true made =
        made_holds state new (char_inserted state c) maximum typed (typed ++ c ∷ []) h made same
        (line_typed state new typed c (line_of state maximum typed h) breaks made)
    by false made = subst (λ (s : State). IsTypedLine s maximum typed) (sym made) h

pub text_sent : (state new : State) (maximum : Option ℕ) (typed : List ℕ) → IsTypedLine state maximum typed → new ≡ unless_read_only state (settled Forward (text_cleared state)) → IsTypedLine new maximum []
unfolding yanked
text_sent state new maximum typed h is =
    let text = state.document.text in
    holds state new (text_cleared state) maximum typed [] h is (either state (has_symbols text) (yanked state (0, 0) (place_of text (length text))) state refl refl)
    (λ made. line_cleared state new typed (line_of state maximum typed h) made)

removed_settings : (found : Option Place) (state : State) → (removed_from found state).settings ≡ state.settings
removed_settings None state = refl
removed_settings (Some start) state = refl

pub character_removed : (state new : State) (maximum : Option ℕ) (typed : List ℕ) → IsTypedLine state maximum typed
    → new ≡ unless_read_only state (settled Forward (unselected_or state (symbol_before_removed state))) → IsTypedLine new maximum (take (length typed - 1) typed)
character_removed state new maximum typed h is =
    holds state new (unselected_or state (symbol_before_removed state)) maximum typed (take (length typed - 1) typed) h is
    (either state (is_selected state.document) (unselected state) (symbol_before_removed state) refl (removed_settings (earlier_start state) state))
    (λ made. line_shortened state new typed (line_of state maximum typed h) h.by_characters made)

pub typing_failed : (state new : State) (maximum : Option ℕ) (typed : List ℕ) → IsTypedLine state maximum typed → IsInsertOutOfMemory state new → IsTypedLine new maximum typed
typing_failed state new maximum typed h left =
    let line = line_left state new typed (line_of state maximum typed h) h.by_characters left in
    ⊎_elim (λ same. made_holds state new state maximum typed typed h same refl line)
    (λ gone. made_holds state new (unselected state) maximum typed typed h (gone ∙ plain state (unselected state) maximum typed h refl) refl line) left
