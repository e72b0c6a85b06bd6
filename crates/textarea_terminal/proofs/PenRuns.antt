-- The controls of a look give it to a terminal's pen, and do nothing else.
use Rattle.std.proofs.Common.{◌≡◌, ◌≢◌, ◌<◌, true, false, cond, [], ◌∷◌, Option, Some, inr, refl, ap, ◌∙◌, ⊎_elim}
use Rattle.std.proofs.lemmas.Bool.{cases_Bool}
use Rattle.textarea_screen.specs.declared.screen.color.Color.TheVariants.{Reset}
use Rattle.textarea_terminal.specs.Control.Control.{SetPen, ChangePen}
use Rattle.textarea_terminal.specs.Paint.{prints_of, moves_of, pens_of, TakesLook}
use Rattle.textarea_terminal.specs.Pen.{renditions_of, before_background, fits_one_control, first_read, rendered_all}
use Rattle.textarea_terminal.specs.Pen.Rendition.{Background}
use Rattle.textarea_terminal.specs.PenControls.{pen_controls}
use Rattle.textarea_terminal.specs.Screen.{Terminal, run}
use Rattle.textarea_terminal.specs.declared.output.look.Pen.{Pen}
use Rattle.textarea_terminal.proofs.PenLemmas.{read-look, read-before, read-background}

run-pen : (look : Pen) → look.modifier.0 < 512 → (terminal : Terminal) → run (pen_controls look) terminal ≡ record terminal { pen = look }
run-pen look below terminal =
    ⊎_elim
    (λ fits. rw fits (ap (λ (pen : Pen). record terminal { pen = pen }) (read-look look below fits)))
    (λ parted. rw parted (ap (λ (pen : Pen). record terminal { pen = pen })
    (ap (λ (pen : Pen). rendered_all pen (first_read 16 (Background look.bg ∷ []))) (read-before look below) ∙ read-background (record look { bg = Reset }) look.bg)))
    (cases_Bool (fits_one_control look))

pub takes-look : (pen : Option Pen) (look : Pen) → look.modifier.0 < 512 → pen ≢ Some look → TakesLook pen look (pen_controls look)
takes-look pen look below other = (
  elim (fits_one_control look) as (λ b. prints_of (cond b (SetPen (renditions_of look) ∷ []) (SetPen (before_background look) ∷ ChangePen (Background look.bg) ∷ [])) ≡ []) [ true ↦ refl | false ↦ refl ],
  λ terminal known. run-pen look below terminal,
  elim (fits_one_control look) as (λ b. moves_of (cond b (SetPen (renditions_of look) ∷ []) (SetPen (before_background look) ∷ ChangePen (Background look.bg) ∷ [])) ≡ 0) [ true ↦ refl | false ↦ refl ],
  inr (other, elim (fits_one_control look) as (λ b. pens_of (cond b (SetPen (renditions_of look) ∷ []) (SetPen (before_background look) ∷ ChangePen (Background look.bg) ∷ [])) ≡ cond b 1 2) [ true ↦ refl | false ↦ refl ]),
)
