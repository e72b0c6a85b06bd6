use Rattle.std.proofs.Common.{◌≡◌, ℕ, ◌<◌, ◌||◌, leb, true, false, List, get_or, length, sym, subst, ◌∙◌, arith}
use Rattle.std.proofs.lemmas.Bool.Decides.{nat_tests}
use Rattle.textarea_paint.specs.Plain.{is_printable}
use Rattle.textarea_paint.proofs.PrintableLemmas.{count_before, count_all}
use Rattle.textarea_paint.proofs.paint.clusters.plain_count.Goals as goal

plain_there : (bytes : List ℕ) (i : ℕ) → (leb (length bytes) i || is_printable (get_or bytes i 0)) ≡ true → i < length bytes → is_printable (get_or bytes i 0) ≡ true
plain_there bytes i plain within = grind (arith, nat_tests)

other_there : (bytes : List ℕ) (i : ℕ) → (leb (length bytes) i || is_printable (get_or bytes i 0)) ≡ false → (i < length bytes) × (is_printable (get_or bytes i 0) ≡ false)
other_there bytes i other = (grind (arith, nat_tests), grind (arith, nat_tests))

pub returns-then-not-is_printable : goal.returns-then-not-is_printable
returns-then-not-is_printable c =
    omega (
      arith,
      c.saturating_sub.ensures,
      c.min-end.ensures,
      count_before c.loop-at.at c.args.most c.args.bytes.now (omega arith) (omega arith) c.loop-at.invariant (sym c.is_printable.ensures ∙ c.if-not-is_printable.true),
    )

pub returns-then-is_plain_at : goal.returns-then-is_plain_at
returns-then-is_plain_at c =
    let bytes = c.args.bytes.now in
    let plain = plain_there bytes c.min-end.result (sym c.is_plain_at.ensures ∙ c.if-is_plain_at.true) in
    omega (
      arith,
      c.min-end.ensures,
      count_all c.args.most bytes (λ k below. c.loop-at.invariant k (omega arith))
          (λ more.
          let same : c.min-end.result ≡ c.args.most = omega arith in
          subst (λ n. is_printable (get_or bytes n 0) ≡ true) same (plain (omega arith))),
    )

pub returns-else-is_plain_at : goal.returns-else-is_plain_at
returns-else-is_plain_at c =
    let other = other_there c.args.bytes.now c.min-end.result (sym c.is_plain_at.ensures ∙ c.if-is_plain_at.false) in
    omega (
      arith,
      c.saturating_sub-else-is_plain_at.ensures,
      c.min-end.ensures,
      count_before c.min-end.result c.args.most c.args.bytes.now (omega arith) other.0 (λ k below. c.loop-at.invariant k (omega arith)) other.1,
    )
