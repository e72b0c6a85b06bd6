use Rattle.std.proofs.Common.{◌∙◌, ◌<◌, List, String, Vec, ap, arith, refl, subst, sym, vec_len}
use Rattle.std.specs.declared.alloc.Global.{Global}
use Rattle.std.specs.Duration.{as_nanos}
use Rattle.textarea_text.specs.Text.{Symbol, text_of}
use Rattle.textarea_text.specs.Splice.{Fits, applied}
use Rattle.textarea_history.specs.HistoryLaw.{IsSoundLog}
use Rattle.textarea_history.specs.Log.{Log, Logged, logged_of, recorded}
use Rattle.textarea_history.specs.Edit.{splice_of}
use Rattle.memory_cases.proofs.Edits.{fits_lines}
use Rattle.memory_cases.proofs.Logs.{either_way, sound_made}
use Rattle.memory_cases.proofs.history.recorded.Recorded.make.Goals as goal

pub redo-requires-clause-fits : goal.redo-requires-clause-fits
redo-requires-clause-fits c =
    let splice = c.in_ok-edit.edit.splice in
    let plan = c.args.plan.now in
    let lines = c.in_ok-lines.lines in
    let fits = subst (λ (l : Logged). Fits l.text (splice_of plan.kind plan.before plan.after)) (sym c.self.view_is) c.requires.fits in
    let text = c.in_ok-lines.ensures.text ∙ ap text_of c.as_slice.ensures.value in
    fits_lines lines.items splice (omega (arith, lines.ok, c.in_ok-lines.ensures.some))
    (subst (λ (t : List Symbol). Fits t splice) (sym text) (subst (Fits (text_of c.self.inside.lines.items)) (sym c.in_ok-edit.ensures.splice) fits))

pub invariant_of-self : goal.invariant_of-self
invariant_of-self c =
    let inside = c.self.inside in
    let logged = logged_of inside.lines.items inside.history.log in
    let splice = c.in_ok-edit.edit.splice in
    let plan = c.args.plan.now in
    let fits = subst (λ (l : Logged). Fits l.text (splice_of plan.kind plan.before plan.after)) (sym c.self.view_is) c.requires.fits in
    either_way (λ (lines : Vec (String Global) Global) (log : Log). (0 < vec_len lines) × IsSoundLog (logged_of lines.items log)) c.replace.result inside.lines c.redo.new.lines c.replace.new.lines
    inside.history.log (recorded inside.history.log splice c.args.typed.coalesce (as_nanos c.args.typed.now)) c.replace.new.history.log c.self.invariant (
      c.redo.ensures.nonempty,
      sound_made logged c.redo.new.lines.items _ splice c.args.typed.coalesce (as_nanos c.args.typed.now) c.self.invariant.1
          (subst (Fits logged.text) (sym c.in_ok-edit.ensures.splice) fits)
          (c.in_ok-redo.ensures.ok ∙ ap (λ (t : List Symbol). applied t splice) (c.in_ok-lines.ensures.text ∙ ap text_of c.as_slice.ensures.value))
          refl,
    )
    c.replace.ensures.ok c.replace.ensures.err
