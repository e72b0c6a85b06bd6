use Rattle.std.proofs.Common.{◌≡◌, ◌++◌, List, length, Result, Ok, Err, cond, ap, arith, subst, sym, ◌∙◌}
use Rattle.std.specs.Result.{OnOk, is_ok}
use Rattle.std.proofs.lemmas.Result.{on_ok_weaker}
use Rattle.std.proofs.lemmas.Bool.{false≢true}
use Rattle.textarea_highlight.specs.Borders.{MarkNothing}
use Rattle.textarea_highlight.specs.Highlights.{Highlights}
use Rattle.textarea_highlight.specs.declared.highlight.borders.Border.{Border}
use Rattle.textarea_highlight.proofs.RowLemmas.{matches_added}
use Rattle.textarea_highlight.proofs.highlight.highlighter.LineHighlighter.search.Goals as goal

-- the list, extended if the call succeeds
grown : {T E : Type 0} (r : Result T E) (new old more : List Border) → new ≡ cond (is_ok r) (old ++ more) old → OnOk r (new ≡ old ++ more)
grown (Ok x) new old more e = e
grown (Err x) new old more e = tt

pub returns-clause-ok : goal.returns-clause-ok
returns-clause-ok g c =
    let found = c.in_ok-borders.ensures.borders in
    on_ok_weaker c.extend_from_slice.result
    (λ items. (found.0, found.1, matches_added _ c.args.self.now c.self.view_is found.0 c.args.style _ _ items (c.deref.ensures.value ∙ found.2)))
    (grown c.extend_from_slice.result c.extend_from_slice.new.self.items _ c.deref.result.now c.extend_from_slice.ensures.items)

pub returns-in_err-borders-clause-nothing : goal.returns-in_err-borders-clause-nothing
returns-in_err-borders-clause-nothing g c = λ none.
    let here = subst (λ (h : Highlights). MarkNothing g.I.Iterator.next_gives c.args.matches h.row) (sym c.self.view_is) none in
    absurd (false≢true (c.in_err-borders.ensures.nothing here).0)

pub returns-clause-nothing : goal.returns-clause-nothing
returns-clause-nothing g c = λ none.
    let here = subst (λ (h : Highlights). MarkNothing g.I.Iterator.next_gives c.args.matches h.row) (sym c.self.view_is) none in
    let empty : length c.deref.result.now ≡ 0 = ap length (c.deref.ensures.value ∙ (c.in_ok-borders.ensures.nothing here).1) in
    c.extend_from_slice.ensures.succeeds (omega (arith, empty, c.self.inside.borders.ok))
