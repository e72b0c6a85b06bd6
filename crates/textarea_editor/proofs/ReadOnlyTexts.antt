-- Texts that become read-only.
use Rattle.std.proofs.Common.{◌≡◌, ◌∙◌, ℕ, Bool, List, ap, subst, sym}
use Rattle.textarea_editor.specs.Effects.{IsWritten}
use Rattle.textarea_editor.specs.SetUp.{IsOpened, IsViewed, opened, read_only}
use Rattle.textarea_files.specs.declared.file_text.LineEnds.{LineEnds}
use Rattle.textarea_text.specs.Text.{Symbol, lines}
use Rattle.tui_textarea.specs.State.{State}

-- the text is the same
read_only_written : (area : State) (ends : LineEnds) (bytes : List ℕ) → IsWritten area ends bytes → IsWritten (read_only area) ends bytes
read_only_written area ends bytes is = record { strings = is.strings; of_text = is.of_text; joined = is.joined }

pub written_after : (area new : State) (ends : LineEnds) (bytes : List ℕ) → new ≡ read_only area → IsWritten area ends bytes → IsWritten new ends bytes
written_after area new ends bytes same is = subst (λ (s : State). IsWritten s ends bytes) (sym same) (read_only_written area ends bytes is)

-- and nothing else was done since it was opened
pub viewed_after : (area new : State) (wraps : Bool) → new ≡ read_only area → IsOpened area wraps → IsViewed new wraps
viewed_after area new wraps same is =
    same ∙ ap (λ (s : State). read_only s) is ∙ ap (λ (text : List Symbol). read_only (opened text wraps)) (sym (ap (λ (s : State). s.document.text) same))

-- a copy of its lines stays one
pub copied_before : (area new : State) (rows copy : List (List ℕ)) → new ≡ read_only area → copy ≡ rows → rows ≡ lines area.document.text → copy ≡ lines new.document.text
copied_before area new rows copy same copied is = copied ∙ is ∙ sym (ap (λ (s : State). lines s.document.text) same)
