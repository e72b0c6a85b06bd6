use Rattle.std.proofs.Common.{◌∙◌, ◌-◌, ◌<◌, ◌≤◌, ◌≡◌, ap, arith, replicate, take, ℕ}
use Rattle.textarea_text.proofs.Prelude.{take-replicate, length-replicate, All-replicate, IsCharBoundary-from_ascii, IsAscii-from_all}
use Rattle.textarea_text.proofs.util.spaces.Goals as goal

pub range-requires-clause-end_boundary : goal.range-requires-clause-end_boundary
range-requires-clause-end_boundary c =
    IsCharBoundary-from_ascii (replicate 255 32) c.args.size (IsAscii-from_all (replicate 255 32) (All-replicate (λ (b : ℕ). b < 128) 255 32 (omega arith)))
    (omega (arith, length-replicate {A = ℕ} 255 32))

pub returns : goal.returns
returns c =
    let some : c.args.size ≤ 255 = omega arith in
    let whole : c.args.size - 0 ≡ c.args.size = omega arith in
    c.range.ensures.value ∙ ap (λ n. take n (replicate {A = ℕ} 255 32)) whole ∙ take-replicate c.args.size 255 32 some
