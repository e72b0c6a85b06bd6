use Rattle.std.proofs.Common.{◌≡◌, ◌∙◌, ◌+◌, ◌<◌, ◌++◌, ◌∷◌, ap, arith, drop, length, slice_index, subst, sym, take}
use Rattle.std.proofs.lemmas.Grind.{common_steps}
use Rattle.std.proofs.lemmas.List.{drop_more, get_or-take, length-take, take-append-drop}
use Rattle.std.proofs.lemmas.Str.{IsCharBoundary-after_ascii}
use Rattle.textarea_script_syntax.specs.Escapes.{HasNoBackslash}
use Rattle.textarea_script_syntax.proofs.Fronts.{without}
use Rattle.textarea_script_syntax.proofs.arguments.split_at_backslash.Goals as goal

pub range_from-requires : goal.range_from-requires
range_from-requires c =
    let at : slice_index c.args.text.now c.loop-index.index ≡ 92 = ap (λ t. slice_index t c.loop-index.index) (sym c.as_bytes-bytes.ensures.value) ∙ c.if-bytes-index-eq92.true in
    λ _. IsCharBoundary-after_ascii c.args.text.now c.loop-index.index c.utf8.text (omega (arith, c.loop-index-test.true, ap length c.as_bytes-bytes.ensures.value)) (omega (arith, at))

pub returns-then-bytes-index-eq92 : goal.returns-then-bytes-index-eq92
returns-then-bytes-index-eq92 c =
    let text = c.args.text.now in
    let index = c.loop-index.index in
    let within : index < length text = omega (arith, c.loop-index-test.true, ap length c.as_bytes-bytes.ensures.value) in
    let at : slice_index text index ≡ 92 = ap (λ t. slice_index t index) (sym c.as_bytes-bytes.ensures.value) ∙ c.if-bytes-index-eq92.true in
    let front : c.range.result.now ≡ take index text = grind (arith, common_steps) in
    let whole : text ≡ take index text ++ (92 ∷ drop (index + 1) text) = sym (take-append-drop index text) ∙ ap (λ t. take index text ++ t) (drop_more text index 0 within ∙ ap (λ byte. byte ∷ drop (index + 1) text) at) in (
      whole ∙ ap (λ t. t ++ (92 ∷ drop (index + 1) text)) (sym front) ∙ ap (λ t. c.range.result.now ++ (92 ∷ t)) (sym c.range_from.ensures.value),
      subst HasNoBackslash (sym front) (without (take index text) (λ k below same. c.loop-index.invariant k (omega (arith, below, length-take index text))
          (sym (get_or-take index text k 0 (omega (arith, below, length-take index text))) ∙ same))),
    )

pub returns : goal.returns
returns c =
    without c.args.text.now (λ k within. c.loop-index.invariant k (omega (arith, within, ap length c.as_bytes-bytes.ensures.value, c.loop-index-test.false)))
