use Rattle.std.proofs.Common.{refl, subst, sym}
use Rattle.textarea_screen_map.specs.LineMarks.{AreMarksOf, MarkedLine}
use Rattle.textarea_screen_map.proofs.MarkLemmas.{cut_in}
use Rattle.textarea_screen_map.proofs.line_marks.LineMarks.cut.Goals as goal

pub returns-then-self-row : goal.returns-then-self-row
returns-then-self-row c = λ old new same h.
    let inside = c.self.inside in
    let was : MarkedLine = record { row = inside.row; tab_len = inside.tab_len; marks = inside.marks.items } in
    let is : MarkedLine = record { row = inside.row; tab_len = inside.tab_len; marks = c.truncate.new.self.items } in
    cut_in old new c.args.row c.args.column c.count_until-count.result was is same c.if-self-row.true
    (rw c.as_slice.ensures.value at c.count_until-count.ensures.within)
    (rw c.as_slice.ensures.value at c.count_until-count.ensures.column)
    refl refl c.truncate.ensures.items
    (subst (AreMarksOf old) (sym c.self.view_is) h)
