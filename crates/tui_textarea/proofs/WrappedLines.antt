-- The lines that an edit wraps are those that its splices wrap.
use Rattle.std.proofs.Common.{◌≡◌, ℕ, Bool, List, [], ◌∷◌, ◌++◌, ap, refl, sym, subst}
use Rattle.textarea_lines.specs.AtOnce.{WrapsAtOnce}
use Rattle.textarea_lines.specs.LineWraps.{WrapsForSplices}
use Rattle.textarea_lines.specs.TextLayout.{TextAndLayout}
use Rattle.textarea_text.specs.Splice.{Fits, Splice}
use Rattle.textarea_text.specs.Text.{Symbol}
use Rattle.textarea_document.specs.DocumentWraps.{SplicedAtOnce, SplicedBy, SplicesBy}
use Rattle.textarea_document.specs.Outcomes.{after_edit, after_redo, after_undo}
use Rattle.textarea_document.specs.DocumentRows.{text_and_layout}
use Rattle.textarea_document.specs.Replacing.{all_replaced, all_splices}
use Rattle.textarea_document.specs.Sound.{IsSound}
use Rattle.textarea_document.specs.Splices.{redo_splices, undo_splices}
use Rattle.textarea_document.specs.DocumentState.{DocumentState}
use Rattle.tui_textarea.proofs.Acting.{Past}
use Rattle.tui_textarea.proofs.Replacing.{AtOnce}
use Rattle.tui_textarea.proofs.Settling.{LayoutAndRanges, Visible, layout_and_ranges}
use Rattle.tui_textarea.proofs.Stepping.{Reckoning}

-- the law of documents for an edit, an undo and a redo
abbrev pub EditsWrap : Type 0
EditsWrap = (document : DocumentState) (splice : Splice) (typed : Bool) (now : ℕ) → Fits document.text splice
    → SplicesBy document splice (after_edit document splice typed now)

abbrev pub UndosWrap : Type 0
UndosWrap = (document : DocumentState) → IsSound document → SplicedAtOnce document (undo_splices document) (after_undo document)

abbrev pub RedosWrap : Type 0
RedosWrap = (document : DocumentState) → IsSound document → SplicedAtOnce document (redo_splices document) (after_redo document)

-- and for stretches that are replaced at once
abbrev pub ReplacementsWrap : Type 0
ReplacementsWrap = (document : DocumentState) (stretches : List (ℕ × ℕ)) (symbols : List Symbol) (now : ℕ) → IsSound document
    → SplicedAtOnce document (all_splices document stretches symbols now) (all_replaced document stretches symbols now)

-- ---- splices, one after another

spliced_on : (old between new : TextAndLayout) (first second : List Splice) → WrapsForSplices old first between → WrapsForSplices between second new → WrapsForSplices old (first ++ second) new
spliced_on old between new [] second h k = subst (λ (l : TextAndLayout). WrapsForSplices l second new) h k
spliced_on old between new (splice ∷ first) second h k = (h.0, h.1, spliced_on h.0 between new first second h.2 k)

spliced_as : (old new other : DocumentState) (splices : List Splice) → layout_and_ranges other ≡ layout_and_ranges new → SplicedBy old splices new → SplicedBy old splices other
spliced_as old new other splices is h = subst (WrapsForSplices (text_and_layout old) splices) (sym (ap (λ (s : LayoutAndRanges). s.0) is)) h

-- the lines that are wrapped by an edit's splice, by none, and by several
pub reckoned : EditsWrap → Reckoning SplicedBy
reckoned cut = record {
  none = λ old new same. ap (λ (s : LayoutAndRanges). s.0) same;
  same = spliced_as;
  two = λ old between new first second h k. spliced_on (text_and_layout old) (text_and_layout between) (text_and_layout new) first second h k;
  one = λ document splice typed now sound fits whole. (text_and_layout (after_edit document splice typed now), cut document splice typed now fits, refl);
  forgotten = λ old new same none. ap (λ (s : Visible). s.0) same;
}

-- ---- calls

at_once_as : (old new other : DocumentState) (splices : List Splice) → layout_and_ranges other ≡ layout_and_ranges new → SplicedAtOnce old splices new → SplicedAtOnce old splices other
at_once_as old new other splices is h = subst (WrapsAtOnce (text_and_layout old) splices) (sym (ap (λ (s : LayoutAndRanges). s.0) is)) h

-- no splice wraps no line
none_wrap : ReplacementsWrap → (document : DocumentState) → IsSound document → SplicedAtOnce document [] document
unfolding all_replaced
none_wrap replaced document sound = replaced document [] [] 0 sound

pub once_wraps : ReplacementsWrap → AtOnce SplicedAtOnce
once_wraps replaced = record { all = replaced; stays = none_wrap replaced; same = at_once_as }

pub past_wraps : UndosWrap → RedosWrap → ReplacementsWrap → Past SplicedAtOnce
past_wraps undos redos replaced = record { undos = undos; redos = redos; stays = none_wrap replaced; same = at_once_as }
