use Rattle.std.proofs.Common.{◌++◌, [], append-nil, arith, refl, sym, ap, ◌∙◌}
use Rattle.std.proofs.lemmas.Result.{on_ok_weaker}
use Rattle.textarea_wrap.specs.Prelude.{marks_of}
use Rattle.textarea_wrap.proofs.MarkLemmas.{front_items, marked_known, no_marks}
use Rattle.textarea_wrap.proofs.wrap.marks.push_marks.Goals as goal

pub push_marks_from-requires : goal.push_marks_from-requires
push_marks_from-requires c =
    marked_known c.args.line.now c.args.rows.now.items [] (0, 0) c.utf8.line c.requires.placed c.requires.ordered (omega arith) (no_marks c.args.line.now c.args.rows.now.items)
    (λ _. refl) (λ some. absurd (omega arith)) c.args.rows.now.items (sym (append-nil c.args.rows.now.items))

pub returns-clause-marks : goal.returns-clause-marks
returns-clause-marks c =
    let items = c.args.rows.now.items in
    let same = front_items items items [] (sym (append-nil items)) in
    on_ok_weaker c.push_marks_from.result (λ is. is ∙ ap (λ r. r ++ marks_of c.args.line.now r) same) c.push_marks_from.ensures.marks
