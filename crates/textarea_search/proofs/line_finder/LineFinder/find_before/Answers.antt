use Rattle.std.proofs.Common.{◌≡◌, ◌+◌, ◌∙◌, arith, ap, length, refl, subst, IsUtf8, take}
use Rattle.memchr.specs.Find.{FindsLastNeedle}
use Rattle.textarea_search.specs.Starts.{last_of}
use Rattle.textarea_search.proofs.OccurrenceLemmas.{boundary_of_last, found_in_part}
use Rattle.textarea_search.proofs.line_finder.LineFinder.find_before.Goals as goal
use Rattle.textarea_search.proofs.line_finder.LineFinder.find_before.Goals.{then-at_byte, else-at_byte}

pub returns-clause-found : goal.returns-clause-found
returns-clause-found c =
    let word = c.args.self.now in
    let line = c.args.line.now in
    let end = c.min-end.result in
    let last = last_of c.args.byte c.args.at_byte in
    let is : c.needle-needle.result.now ≡ word = c.needle-needle.ensures ∙ c.self.view_is in
    let sum : c.args.byte + c.if-at_byte.reach + 1 ≡ last + length word =
    elim c.if-at_byte.branch [
      | then-at_byte w ↦ rw w.if-at_byte.true (omega (arith, w.reach-is, ap length is))
      | else-at_byte w ↦ rw w.if-at_byte.false (omega (arith, w.reach-is, ap length is, c.requires))
    ] in
    found_in_part line (take end line) word end last refl (omega (arith, c.min-end.ensures))
    (λ k fits. omega (arith, c.min-end.ensures, c.saturating_add.ensures, sum, fits))
    (λ k lt fits. omega (arith, c.min-end.ensures, c.saturating_add.ensures, sum, lt, fits, c.as_bytes.type_inv.1, ap length c.as_bytes.ensures.value)) c.rfind.result
    (subst (λ w. FindsLastNeedle (take end line) w c.rfind.result) is (subst (λ bs. FindsLastNeedle (take end bs) c.needle-needle.result.now c.rfind.result) c.as_bytes.ensures.value c.rfind.ensures))

pub returns-clause-boundary : goal.returns-clause-boundary
returns-clause-boundary c =
    boundary_of_last c.args.line.now c.args.self.now (last_of c.args.byte c.args.at_byte) c.rfind.result (subst IsUtf8 c.self.view_is c.self.invariant.1) c.requires (returns-clause-found c)
