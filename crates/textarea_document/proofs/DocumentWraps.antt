-- The lines that the edits of a document wrap, given those that each splice of a text wraps.
use Rattle.std.proofs.Common.{ℕ, Bool, refl, subst}
use Rattle.textarea_document.specs.Prelude.{Splice, Fits, WrapsForSplice, WrapsForSettings, WrapsForWidth, TextAndLayout, applied_to, at_width, with_settings, LayoutSettings}
use Rattle.textarea_document.specs.Prelude.{WrapsBySettings, WrapsByWidth, SplicedBy, SplicesBy, HasEffect}
use Rattle.textarea_document.specs.Prelude.{EditStep, splice_of_step, stepped, after_change, after_edit, text_and_layout, with_inner_width}
use Rattle.textarea_document.specs.Prelude.{with_layout_settings, IsSound, DocumentState}
use Rattle.textarea_document.proofs.Sounds.{layout_with_settings}
use Rattle.textarea_document.proofs.UndoGroups.{GoesOn}
use Rattle.textarea_document.proofs.StepLaw.{step_keeps}

abbrev pub SplicesWrap : Type 0
SplicesWrap = (text_layout : TextAndLayout) (splice : Splice) → Fits text_layout.text splice → WrapsForSplice text_layout splice (applied_to text_layout splice)

pub edit_wraps : SplicesWrap → (document : DocumentState) (splice : Splice) (typed : Bool) (now : ℕ) → Fits document.text splice → SplicesBy document splice (after_edit document splice typed now)
edit_wraps cut document splice typed now fits = cut (text_and_layout document) splice fits

pub step_wraps : SplicesWrap → (document : DocumentState) (step : EditStep) (typed : Bool) (now : ℕ) → IsSound document → HasEffect document step →
    SplicesBy document (splice_of_step document step) (stepped document step typed now)
step_wraps cut document step typed now sound made = cut (text_and_layout document) (splice_of_step document step) (step_keeps document step sound made).0

-- the edits are undone or redone one after another
pub wraps_on : SplicesWrap → GoesOn SplicedBy
wraps_on cut document splice log ranges rest new fits moved later = (text_and_layout (after_change document splice log), cut (text_and_layout document) splice fits, later)

pub width_wraps : ((text_layout : TextAndLayout) (inner_width : ℕ) → WrapsForWidth text_layout (with_settings text_layout (at_width text_layout inner_width))) →
    (document : DocumentState) (inner_width : ℕ) → WrapsByWidth document (with_inner_width document inner_width)
width_wraps cut document inner_width =
    let text_layout = text_and_layout document in
    subst (WrapsForWidth text_layout) (layout_with_settings document (at_width text_layout inner_width)) (cut text_layout inner_width)

pub settings_wraps : ((text_layout : TextAndLayout) (settings : LayoutSettings) → WrapsForSettings text_layout settings (with_settings text_layout settings)) →
    (document : DocumentState) (settings : LayoutSettings) → WrapsBySettings document settings (with_layout_settings document settings)
settings_wraps cut document settings =
    let text_layout = text_and_layout document in
    subst (WrapsForSettings text_layout settings) (layout_with_settings document settings) (cut text_layout settings)
