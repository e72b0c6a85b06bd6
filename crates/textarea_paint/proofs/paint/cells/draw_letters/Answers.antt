use Rattle.std.proofs.Common.{◌≡◌, [], List, ℕ, map, length, ap, sym, subst, ◌∙◌, ◌+◌, rules}
use Rattle.std.proofs.lemmas.Bool.{eqb-true}
use Rattle.std.proofs.lemmas.List.{nil_from_length}
use Rattle.std.proofs.lemmas.Str.{chars-nil}
use Rattle.std.specs.Prelude.{encode_utf8, length}
use Rattle.textarea_screen.specs.Buffer.{Changes}
use Rattle.textarea_screen.proofs.ChangeLemmas.{KeepsOutside-then}
use Rattle.textarea_screen.specs.declared.screen.style.Style.{Style}
use Rattle.textarea_paint.specs.Clusters.{in_style, letter_clusters}
use Rattle.textarea_paint.specs.Cells.{IsPenAt, place_from, row_change}
use Rattle.textarea_paint.specs.Row.{clusters_width}
use Rattle.textarea_paint.proofs.WalkLemmas.{on_err, walk-all, walk-any, walk-outside, some_left, walk-short, walk-start, walk-then}
use Rattle.textarea_paint.proofs.paint.cells.draw_letters.Goals as goal

no_letters : (style : Style) {rest : List ℕ} → rest ≡ [] → letter_clusters style rest ≡ []
no_letters style none = ap (letter_clusters style) none ∙ ap (λ cs. map (in_style style) (map encode_utf8 cs)) chars-nil

pub letters-init : goal.letters-init
letters-init c = record {
  text = search rules;
  letters = c.requires.letters;
  walk = walk-start c.args.cells c.args.pen (letter_clusters c.args.letters.style c.args.letters.text.now) c.args.buffer.now c.requires.within;
}

pub letters-preserved : goal.letters-preserved
letters-preserved c = record {
  text = search rules;
  letters = c.in_ok-first.ensures.letters;
  walk = walk-then c.letters.invariant.walk c.in_ok-first.ensures.walk;
}

pub letters-smaller : goal.letters-smaller
letters-smaller c = c.in_ok-first.ensures.fewer

pub returns-in_err-first-clause-inline : goal.returns-in_err-first-clause-inline
returns-in_err-first-clause-inline c = λ short. cc (c.in_err-first.ensures.inline (walk-short c.letters.invariant.walk short))

pub returns-in_err-first-clause-err : goal.returns-in_err-first-clause-err
returns-in_err-first-clause-err c = on_err c.from_residual.result (KeepsOutside-then (walk-outside c.letters.invariant.walk c.requires.pen) c.in_err-first.ensures.err)

pub returns-clause-moved : goal.returns-clause-moved
returns-clause-moved c = λ left column at.
    let none : c.letters.rest.now ≡ [] = nil_from_length _ (eqb-true _ _ (sym c.is_empty.ensures ∙ c.letters-test.false)) in
    subst (λ cs. IsPenAt c.args.cells left (column + clusters_width cs) c.letters.pen) (walk-all c.letters.invariant.walk (no_letters c.args.letters.style none))
    (c.letters.invariant.walk.at left column at)

pub returns-clause-drawn : goal.returns-clause-drawn
returns-clause-drawn c = λ left column at.
    let none : c.letters.rest.now ≡ [] = nil_from_length _ (eqb-true _ _ (sym c.is_empty.ensures ∙ c.letters-test.false)) in
    subst (λ cs. Changes c.args.buffer.now c.letters.buffer (row_change c.args.cells left (place_from column cs))) (walk-all c.letters.invariant.walk (no_letters c.args.letters.style none))
    (c.letters.invariant.walk.drawn left column at)

pub draw_first_letters-requires : goal.draw_first_letters-requires
draw_first_letters-requires c = record {
  some = some_left (length c.letters.rest.now) c.letters-test.ensures;
  edge = c.requires.edge;
  within = c.letters.invariant.walk.within;
  letters = c.letters.invariant.letters;
  pen = walk-any c.letters.invariant.walk c.requires.pen;
}
