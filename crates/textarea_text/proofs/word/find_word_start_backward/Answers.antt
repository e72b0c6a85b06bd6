use Rattle.std.proofs.Common.{◌≡◌, ℕ, ◌+◌, ◌-◌, ◌<◌, true, length, arith, sym, ◌∙◌, ap}
use Rattle.std.proofs.lemmas.List.{length-drop}
use Rattle.textarea_text.specs.Prelude.{chars, is_earlier_word_start}
use Rattle.textarea_text.proofs.NearestLemmas.{greatest_below-found, greatest_shifted-after}
use Rattle.textarea_text.proofs.WordLemmas.{is_earlier_word_start-drop}
use Rattle.textarea_text.proofs.word.find_word_start_backward.Goals as goal

pub returns-then-column-gt0 : goal.returns-then-column-gt0
returns-then-column-gt0 c =
    let line = chars c.args.line.now in
    let start = c.args.start_column in
    let near = c.widening.near in
    let from = start - near in
    let at : from + near ≡ start = omega arith in
    let test = is_earlier_word_start line start in
    let inner = is_earlier_word_start (chars c.text_from.result.now) near in
    let same : (k : ℕ) → 0 < k → test (from + k) ≡ inner k =
    λ k some. is_earlier_word_start-drop line from near start k at some ∙ ap (λ cs. is_earlier_word_start cs near k) (sym c.text_from.ensures) in
    let here : test (from + c.in-Some.column) ≡ true = same c.in-Some.column c.if-column-gt0.true ∙ c.in-Some.ensures.greatest.0 in
    let failed = greatest_shifted-after test inner from c.in-Some.column same c.in-Some.ensures.greatest.1 in
    let within : from + c.in-Some.column < length line = omega (arith, c.in-Some.ensures.within.1, length-drop from line, ap length c.text_from.ensures) in
    record {
      greatest = (here, failed);
      value = sym (greatest_below-found test (from + c.in-Some.column) (length line) here failed within);
      within = (omega (arith, c.in-Some.ensures.within.0, at), within);
    }
