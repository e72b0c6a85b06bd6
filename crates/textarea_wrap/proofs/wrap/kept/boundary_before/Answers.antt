use Rattle.std.proofs.Common.{◌≡◌, ◌<◌, ◌≤◌, ◌∙◌, sym, subst, ⊎_elim, arith}
use Rattle.std.specs.Str.{IsCharBoundary}
use Rattle.std.proofs.lemmas.Bool.{cases_lt, false≢true}
use Rattle.std.proofs.lemmas.Str.{IsCharBoundary-start}
use Rattle.textarea_wrap.proofs.wrap.kept.boundary_before.Goals as goal
use Rattle.textarea_wrap.proofs.wrap.kept.boundary_before.Goals.{In-back}

-- the start of the text is the start of a character
some : (c : In-back) → 1 ≤ c.back.end
some c =
    ⊎_elim
    (λ (none : c.back.end < 1).
    let zero : c.back.end ≡ 0 = omega arith in
    absurd (false≢true (sym c.back-test.true ∙ c.is_char_boundary.ensures.test.1 (subst (IsCharBoundary c.args.text.now) (sym zero) (IsCharBoundary-start c.args.text.now c.utf8.text)))))
    (λ one. one) (cases_lt c.back.end 1)

pub overflow_sub-end : goal.overflow_sub-end
overflow_sub-end c = some (goal.at.overflow_sub-end c).In-back

pub back-smaller : goal.back-smaller
back-smaller c = let one = some (goal.at.back-smaller c).In-back in omega arith

pub returns-clause-boundary : goal.returns-clause-boundary
returns-clause-boundary c = c.is_char_boundary.ensures.test.0 c.back-test.false
