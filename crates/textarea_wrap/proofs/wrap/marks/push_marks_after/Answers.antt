use Rattle.std.proofs.Common.{◌++◌, ap, ◌∙◌}
use Rattle.std.proofs.lemmas.Result.{on_ok_weaker}
use Rattle.textarea_wrap.specs.Prelude.{marks_of}
use Rattle.textarea_wrap.proofs.MarkLemmas.{front_items, marked_known}
use Rattle.textarea_wrap.proofs.wrap.marks.push_marks_after.Goals as goal

pub push_marks_from-requires : goal.push_marks_from-requires
push_marks_from-requires c =
    marked_known c.args.line.now c.args.rows.now.items c.args.known.now c.last_mark.result c.utf8.line c.requires.placed c.requires.ordered c.requires.few c.requires.known
    c.last_mark.ensures.none c.last_mark.ensures.some c.extend_from_slice.new.self.items c.in_ok-extend_from_slice.ensures.ok

pub returns : goal.returns
returns c =
    let items = c.args.rows.now.items in
    let same = front_items c.extend_from_slice.new.self.items items c.args.known.now c.in_ok-extend_from_slice.ensures.ok in
    on_ok_weaker c.push_marks_from.result (λ is. is ∙ ap (λ r. r ++ marks_of c.args.line.now r) same) c.push_marks_from.ensures.marks
