-- The lines that each call wraps, by the laws of the text area; the wrap counter never decreases.
use Rattle.std.proofs.Common.{◌≡◌, ◌≤◌, ℕ, Bool, List, [], ◌∷◌, cond, true, false, ap, refl, subst, sym, ◌∙◌, ⊎_elim}
use Rattle.textarea_calls.specs.declared.action.Action.{Action}
use Rattle.textarea_calls.specs.declared.action.Action.TheVariants as action
use Rattle.textarea_lines.specs.AtOnce.{WrapsAtOnce}
use Rattle.textarea_lines.specs.LineWraps.{WrapsForSplices, WrapsAllLines, WrapsForSettings, WrapsForWidth}
use Rattle.textarea_lines.specs.TextLayout.{TextAndLayout}
use Rattle.textarea_lines.specs.declared.settings.LayoutSettings.{LayoutSettings}
use Rattle.textarea_text.specs.Between.{clip}
use Rattle.textarea_data.specs.declared.range.AtomicRange.{AtomicRange}
use Rattle.textarea_data.specs.declared.range.RejectedAtomicRange.{RejectedAtomicRange}
use Rattle.textarea_text.specs.Place.{Place}
use Rattle.textarea_text.specs.Splice.{Splice}
use Rattle.textarea_text.specs.Text.{Symbol, lines_of, text_of}
use Rattle.textarea_document.specs.DocumentWraps.{SplicedAtOnce, SplicedBy, WrapsAll, WrapsBySettings, WrapsByWidth}
use Rattle.textarea_document.specs.DocumentRows.{text_and_layout}
use Rattle.textarea_document.specs.Sound.{IsSound}
use Rattle.textarea_document.specs.Splices.{selected_splices}
use Rattle.textarea_document.specs.DocumentState.{DocumentState, fresh_document}
use Rattle.tui_textarea.specs.Input.{asked_by, asked_without_shortcuts}
use Rattle.tui_textarea.specs.LayoutCalls.{alignment_set, mode_set, line_numbers_set, tab_length_set, with_layout}
use Rattle.tui_textarea.specs.State.{State}
use Rattle.tui_textarea.specs.Calls.{rejected_ranges, with_lines, with_ranges_if}
use Rattle.tui_textarea.specs.Guards.{bars_lines}
use Rattle.tui_textarea.specs.CallWraps.{WrapsAllUnless, WrapsByAct, WrapsByCall}
use Rattle.tui_textarea.specs.Outcomes.{IsAfterCall, IsAfterOutOfMemory}
use Rattle.tui_textarea.specs.CallResults.{CallResult}
use Rattle.tui_textarea.specs.CallSplices.{OfSplicesOutOfMemory, splices_of}
use Rattle.textarea_calls.specs.declared.call.Call.{Call}
use Rattle.textarea_calls.specs.declared.call.Call.TheVariants as call
use Rattle.textarea_document.specs.DocumentRows.{with_inner_width, with_layout_settings}
use Rattle.textarea_view.specs.Measure.{width_inside}
use Rattle.tui_textarea.proofs.Acting.{ByAct, ByCall, calls_by, calls_left}
use Rattle.tui_textarea.proofs.WrappedLines.{EditsWrap, RedosWrap, ReplacementsWrap, UndosWrap, once_wraps, past_wraps, reckoned}
use Rattle.tui_textarea.proofs.Frames.{drawn_document}
use Rattle.textarea_data.specs.declared.range.AtomicCursorBias.TheVariants.{Forward}
use Rattle.tui_textarea.specs.Ranges.{ranges_accepted}
use Rattle.tui_textarea.specs.Units.{settled}
use Rattle.tui_textarea.proofs.Settling.{LayoutAndRanges, layout_and_ranges, settled_layout}

-- ---- the laws of the text area

pub record TheLaws : Type 0 where
  pub edited : EditsWrap
  pub undone : UndosWrap
  pub redone : RedosWrap
  pub replaced : ReplacementsWrap
  pub width : (document : DocumentState) (inner_width : ℕ) → WrapsByWidth document (with_inner_width document inner_width)
  pub settings : (document : DocumentState) (settings : LayoutSettings) → WrapsBySettings document settings (with_layout_settings document settings)
  pub lines : (document : DocumentState) (text : List Symbol) (cursor : Place) (maximum : ℕ) → WrapsAll document (fresh_document text document.layout.settings document.layout.count cursor maximum)

-- ---- each call

-- the state after a call that runs out of memory, by the splices that it has made
abbrev LeftBy : State → State → Type 0
LeftBy old new = OfSplicesOutOfMemory old (λ splices. SplicedBy old.document splices new.document)

ranges_unchanged : (rejected : List RejectedAtomicRange) (state : State) (ranges : List AtomicRange) → text_and_layout (with_ranges_if rejected state ranges).document ≡ text_and_layout state.document
ranges_unchanged [] state ranges = ap (λ (s : LayoutAndRanges). s.0) (settled_layout Forward (ranges_accepted state ranges))
ranges_unchanged (range ∷ rejected) state ranges = refl

-- all lines are wrapped, whatever the cursor and the anchor are
all_wrapped_as : (old new other : DocumentState) → layout_and_ranges other ≡ layout_and_ranges new → WrapsAll old new → WrapsAll old other
all_wrapped_as old new other same wraps = subst (WrapsAllLines (text_and_layout old)) (sym (ap (λ (s : LayoutAndRanges). s.0) same)) wraps

-- lines that are set, or left out
lines_wrap : (old new set : State) (barred : Bool) → new ≡ cond barred old set → WrapsAll old.document set.document → WrapsAllUnless barred old new
lines_wrap old new set true k wraps = ap (λ (s : State). text_and_layout s.document) k
lines_wrap old new set false k wraps = subst (λ (s : State). WrapsAll old.document s.document) (sym k) wraps

by_act : (asked : Action) (old new : DocumentState) (splices : List Splice) → ByAct SplicedBy SplicedAtOnce asked old splices new → WrapsByAct asked old splices new
by_act action.Undo old new splices h = h
by_act action.Redo old new splices h = h
by_act asked old new splices h = h

module _ (laws : TheLaws) where
  calls_wrap : (old new : State) (made : Call) (returned : CallResult) → IsSound old.document → IsAfterCall old made returned new
      → ByCall SplicedBy SplicedAtOnce SplicedAtOnce made old.document (splices_of old made) new.document
  calls_wrap old new made returned h k =
      calls_by SplicedBy SplicedAtOnce SplicedAtOnce (reckoned laws.edited) (once_wraps laws.replaced) (past_wraps laws.undone laws.redone laws.replaced) old new made returned h k

  set : (old new outcome : State) (settings : LayoutSettings) → new.document ≡ outcome.document → outcome ≡ with_layout old settings → WrapsBySettings old.document settings new.document
  set old new outcome settings same is =
      subst (WrapsBySettings old.document settings) (sym (same ∙ ap (λ (s : State). s.document) is)) (laws.settings old.document settings)

  pub call_wraps : (old new : State) (made : Call) (returned : CallResult) → IsSound old.document → IsAfterCall old made returned new → WrapsByCall old made new
  call_wraps old new (call.SetLines lines cursor) returned h k =
      let set = with_lines old lines.now cursor in
      lines_wrap old new (settled Forward set) (bars_lines old (lines_of lines.now)) k
      (all_wrapped_as old.document set.document (settled Forward set).document (settled_layout Forward set)
      (laws.lines old.document (text_of lines.now) (clip (lines_of lines.now) cursor) old.document.log.maximum))
  call_wraps old new (call.SetTabLength columns) returned h k = set old new (with_layout old (tab_length_set old columns)) (tab_length_set old columns) (ap (λ (s : State). s.document) k) refl
  call_wraps old new (call.SetWrapMode mode) returned h k = set old new (with_layout old (mode_set old mode)) (mode_set old mode) (ap (λ (s : State). s.document) k) refl
  call_wraps old new (call.SetLineNumberStyle style) returned h k = set old new (with_layout old (line_numbers_set old true)) (line_numbers_set old true) (ap (λ (s : State). s.document) k) refl
  call_wraps old new call.RemoveLineNumber returned h k = set old new (with_layout old (line_numbers_set old false)) (line_numbers_set old false) (ap (λ (s : State). s.document) k) refl
  call_wraps old new (call.SetAlignment alignment) returned h k = set old new (with_layout old (alignment_set old alignment)) (alignment_set old alignment) (ap (λ (s : State). s.document) k) refl
  call_wraps old new (call.Render area) returned h k =
      subst (WrapsByWidth old.document) (sym (drawn_document old new area k)) (laws.width old.document (width_inside old.surround.block area.width))
  call_wraps old new (call.TrySetAtomicRanges ranges) returned h k =
      ap (λ (s : State). text_and_layout s.document) k ∙ ranges_unchanged (rejected_ranges old ranges.now) old ranges.now
  call_wraps old new call.ClearAtomicRanges returned h k = ap (λ (s : State). text_and_layout s.document) k
  call_wraps old new (call.SetChangeLog unit) returned h k = ap (λ (s : State). text_and_layout s.document) k
  call_wraps old new call.TakeChanges returned h k = ap (λ (s : State). text_and_layout s.document) k
  call_wraps old new (call.Input input) returned h k =
      by_act (asked_by input.now) old.document new.document _ (calls_wrap old new (call.Input input) returned h k)
  call_wraps old new (call.InputWithoutShortcuts input) returned h k =
      by_act (asked_without_shortcuts input.now) old.document new.document _ (calls_wrap old new (call.InputWithoutShortcuts input) returned h k)
  call_wraps old new made returned h k = calls_wrap old new made returned h k

  pub out_of_memory_wraps : (old new : State) (made : Call) → IsSound old.document → IsAfterOutOfMemory old made new → LeftBy old new
  out_of_memory_wraps old new made h k = calls_left SplicedBy (reckoned laws.edited) old new made h k

-- ---- the wrap counter

pub record Never : Type 0 where
  pub at_once : (old new : TextAndLayout) (splices : List Splice) → WrapsAtOnce old splices new → old.layout.count ≤ new.layout.count
  pub splices : (old new : TextAndLayout) (splices : List Splice) → WrapsForSplices old splices new → old.layout.count ≤ new.layout.count
  pub width : (old new : TextAndLayout) → WrapsForWidth old new → old.layout.count ≤ new.layout.count
  pub settings : (old new : TextAndLayout) (settings : LayoutSettings) → WrapsForSettings old settings new → old.layout.count ≤ new.layout.count
  pub lines : (old new : TextAndLayout) → WrapsAllLines old new → old.layout.count ≤ new.layout.count

module _ (never : Never) where
  splices_grow : (old new : DocumentState) (splices : List Splice) → SplicedBy old splices new → old.layout.count ≤ new.layout.count
  splices_grow old new splices h = never.splices (text_and_layout old) (text_and_layout new) splices h

  at_once_grows : (old new : DocumentState) (splices : List Splice) → SplicedAtOnce old splices new → old.layout.count ≤ new.layout.count
  at_once_grows old new splices h = never.at_once (text_and_layout old) (text_and_layout new) splices h

  act_grows : (asked : Action) (old new : DocumentState) (splices : List Splice) → WrapsByAct asked old splices new → old.layout.count ≤ new.layout.count
  act_grows action.Undo old new splices h = at_once_grows old new splices h
  act_grows action.Redo old new splices h = at_once_grows old new splices h
  act_grows asked old new splices h = splices_grow old new splices h

  pub left_grows : (old new : State) → LeftBy old new → old.document.layout.count ≤ new.document.layout.count
  left_grows old new h =
      ⊎_elim
      (λ none. splices_grow old.document new.document [] none)
      (λ gone. splices_grow old.document new.document (selected_splices old.document) gone)
      h

  settings_grow : (old new : DocumentState) (settings : LayoutSettings) → WrapsBySettings old settings new → old.layout.count ≤ new.layout.count
  settings_grow old new settings h = never.settings (text_and_layout old) (text_and_layout new) settings h

  lines_grow : (old new : State) (barred : Bool) → WrapsAllUnless barred old new → old.document.layout.count ≤ new.document.layout.count
  lines_grow old new true h = splices_grow old.document new.document [] h
  lines_grow old new false h = never.lines (text_and_layout old.document) (text_and_layout new.document) h

  pub call_grows : (old new : State) (made : Call) → WrapsByCall old made new → old.document.layout.count ≤ new.document.layout.count
  call_grows old new (call.SetLines lines cursor) h = lines_grow old new (bars_lines old (lines_of lines.now)) h
  call_grows old new (call.SetTabLength columns) h = settings_grow old.document new.document (tab_length_set old columns) h
  call_grows old new (call.SetWrapMode mode) h = settings_grow old.document new.document (mode_set old mode) h
  call_grows old new (call.SetLineNumberStyle style) h = settings_grow old.document new.document (line_numbers_set old true) h
  call_grows old new call.RemoveLineNumber h = settings_grow old.document new.document (line_numbers_set old false) h
  call_grows old new (call.SetAlignment alignment) h = settings_grow old.document new.document (alignment_set old alignment) h
  call_grows old new (call.Render area) h = never.width (text_and_layout old.document) (text_and_layout new.document) h
  call_grows old new call.Undo h = at_once_grows old.document new.document (splices_of old call.Undo) h
  call_grows old new call.Redo h = at_once_grows old.document new.document (splices_of old call.Redo) h
  call_grows old new (call.ReplaceAll text) h = at_once_grows old.document new.document (splices_of old (call.ReplaceAll text)) h
  call_grows old new call.IndentLines h = at_once_grows old.document new.document (splices_of old call.IndentLines) h
  call_grows old new call.OutdentLines h = at_once_grows old.document new.document (splices_of old call.OutdentLines) h
  call_grows old new (call.Input input) h = act_grows (asked_by input.now) old.document new.document (splices_of old (call.Input input)) h
  call_grows old new (call.InputWithoutShortcuts input) h =
      act_grows (asked_without_shortcuts input.now) old.document new.document (splices_of old (call.InputWithoutShortcuts input)) h
  call_grows old new made h = splices_grow old.document new.document (splices_of old made) h
