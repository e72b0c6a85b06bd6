-- How the atomic ranges move with the text, over each edit.
use Rattle.std.proofs.Common.{◌≡◌, ℕ, Bool, List, [], ◌∷◌, ap, refl, sym, subst, ◌∙◌}
use Rattle.textarea_screen.specs.declared.screen.rect.Rect.{Rect}
use Rattle.textarea_text.specs.Splice.{Fits, Splice, IsTextBefore}
use Rattle.textarea_document.specs.RangesOverSplices.{RangesFollowPast, RangesFollowSplices, RangesStayWhole}
use Rattle.textarea_document.specs.Ranges.{SplitsNoRange}
use Rattle.textarea_document.specs.Outcomes.{after_edit, after_redo, after_undo}
use Rattle.textarea_document.specs.Sound.{IsSound}
use Rattle.textarea_document.specs.Splices.{redo_splices, undo_splices}
use Rattle.textarea_document.specs.DocumentState.{DocumentState}
use Rattle.textarea_document.proofs.RangesOverSplices.{ranges_stay_on, stays}
use Rattle.tui_textarea.specs.Drawing.{IsRendered}
use Rattle.tui_textarea.specs.State.{State}
use Rattle.tui_textarea.proofs.Frames.{drawn_document}
use Rattle.tui_textarea.proofs.Acting.{Past}
use Rattle.tui_textarea.proofs.Replacing.{AtOnce, at_once_by}
use Rattle.tui_textarea.proofs.Settling.{LayoutAndRanges, Visible, layout_and_ranges}
use Rattle.tui_textarea.proofs.Stepping.{Reckoning}

-- the law of documents for an edit, an undo and a redo
abbrev pub EditsGo : Type 0
EditsGo = (document : DocumentState) (splice : Splice) (typed : Bool) (now : ℕ) → Fits document.text splice → SplitsNoRange document.ranges splice
    → RangesStayWhole document (splice ∷ []) (after_edit document splice typed now)

abbrev pub UndosGo : Type 0
UndosGo = (document : DocumentState) → IsSound document → RangesFollowPast document (undo_splices document) (after_undo document)

abbrev pub RedosGo : Type 0
RedosGo = (document : DocumentState) → IsSound document → RangesFollowPast document (redo_splices document) (after_redo document)

still : (old new : DocumentState) → layout_and_ranges new ≡ layout_and_ranges old → RangesStayWhole old [] new
still old new same = stays old new (ap (λ (s : LayoutAndRanges). s.0.text) same) (ap (λ (s : LayoutAndRanges). s.1) same)

-- a document with the text and ranges of another is reached by the same splices
followed_as : (old new other : DocumentState) (splices : List Splice) → layout_and_ranges other ≡ layout_and_ranges new → RangesFollowSplices old splices new → RangesFollowSplices old splices other
followed_as old new other splices same h = record {
  text = subst (λ t. IsTextBefore old.text t splices) (sym (ap (λ (s : LayoutAndRanges). s.0.text) same)) h.text;
  ranges = ap (λ (s : LayoutAndRanges). s.1) same ∙ h.ranges;
}

follows_as : (old new other : DocumentState) (splices : List Splice) → layout_and_ranges other ≡ layout_and_ranges new → RangesStayWhole old splices new → RangesStayWhole old splices other
follows_as old new other splices same h = (followed_as old new other splices same h.0, h.1)

pub reckoning_of : EditsGo → Reckoning RangesStayWhole
reckoning_of edits = record {
  none = still;
  same = follows_as;
  two = ranges_stay_on;
  one = λ document splice typed now sound fits whole. edits document splice typed now fits whole;
  forgotten = λ old new same none. stays old new (ap (λ (s : Visible). s.0.text) same) (ap (λ (s : Visible). s.1) same);
}

-- the layout has no influence
pub at_once_of : EditsGo → AtOnce RangesStayWhole
at_once_of edits = at_once_by RangesStayWhole (reckoning_of edits) (λ old new splices layout h. (record { text = h.0.text; ranges = h.0.ranges }, h.1))

-- ---- what leaves text and ranges unchanged

pub ranges_stay_in_drawing : (old new : State) (area : Rect) → IsRendered old area new → RangesStayWhole old.document [] new.document
ranges_stay_in_drawing old new area h =
    let is = drawn_document old new area h in
    stays old.document new.document (ap (λ (d : DocumentState). d.text) is) (ap (λ (d : DocumentState). d.ranges) is)

-- ---- calls

-- what follows over other splices does over those of an undo or a redo
follows_past : (old new : DocumentState) (splices : List Splice) → RangesFollowSplices old splices new → RangesFollowPast old splices new
follows_past old new splices h = record { text = h.text; ranges = λ none. h.ranges }

past_as : (old new other : DocumentState) (splices : List Splice) → layout_and_ranges other ≡ layout_and_ranges new → RangesFollowPast old splices new → RangesFollowPast old splices other
past_as old new other splices same h = record {
  text = subst (λ t. IsTextBefore old.text t splices) (sym (ap (λ (s : LayoutAndRanges). s.0.text) same)) h.text;
  ranges = λ none. ap (λ (s : LayoutAndRanges). s.1) same ∙ h.ranges none;
}

pub past_follows : UndosGo → RedosGo → Past RangesFollowPast
past_follows undos redos = record { undos = undos; redos = redos; stays = λ document sound. follows_past document document [] (stays document document refl refl).0; same = past_as }
