use Rattle.std.proofs.Common.{◌≡◌, ◌-◌, ◌++◌, ◌∙◌, IsCharBoundary, ap, arith, subst, sym, take}
use Rattle.std.specs.Prelude.{encode_utf8}
use Rattle.textarea_paint.proofs.LetterLemmas.{first-letter, letter-boundary, letter-taken}
use Rattle.textarea_paint.proofs.paint.letters.split_letter.Goals as goal

pub range-requires-clause-end_boundary : goal.range-requires-clause-end_boundary
range-requires-clause-end_boundary c =
    let is : c.args.text.now ≡ encode_utf8 c.in-Some.letter ++ c.as_str-after.result.now = cc (c.in-Some.ensures.steps.0, c.chars-characters.ensures.rest, c.as_str-after.ensures) in
    subst (λ n. IsCharBoundary c.args.text.now n) (sym c.len_utf8.ensures.value) (letter-boundary c.args.text.now c.as_str-after.result.now c.in-Some.letter c.utf8.text is)

pub returns : goal.returns
returns c =
    let is : c.args.text.now ≡ encode_utf8 c.in-Some.letter ++ c.as_str-after.result.now = cc (c.in-Some.ensures.steps.0, c.chars-characters.ensures.rest, c.as_str-after.ensures) in
    let same : c.len_utf8.result - 0 ≡ c.len_utf8.result = omega arith in
    first-letter c.args.text.now c.range.result.now c.as_str-after.result.now c.in-Some.letter c.utf8.text is
    (c.range.ensures.value ∙ ap (λ n. take n c.args.text.now) (same ∙ c.len_utf8.ensures.value) ∙ letter-taken c.args.text.now c.as_str-after.result.now c.in-Some.letter is)
