use Rattle.std.proofs.Common.{◌≡◌, ◌+◌, ◌≤◌, length, sym, ap, subst, ◌∙◌, arith}
use Rattle.std.specs.Fmt.{decimal}
use Rattle.std.proofs.lemmas.Bool.{false≢true}
use Rattle.std.proofs.lemmas.List.{length-map}
use Rattle.textarea_wrap.specs.Metrics.{line_number_columns}
use Rattle.textarea_view.specs.Prelude.{AreNumbers, SceneState, characters_of, highlights_of, number_digits}
use Rattle.textarea_view.proofs.Numbers.{are_numbers}
use Rattle.textarea_view.proofs.scene.row_context.RowContext.number_columns.Goals as goal

pub returns-then-not-scene : goal.returns-then-not-scene
returns-then-not-scene c = λ row same.
    let scene = c.args.self.now in
    let unnumbered = sym (ap (λ (s : SceneState). s.line_numbers) (c.scene.view_is ∙ c.self.view_is)) ∙ c.if-not-scene.true in
    subst (λ n. AreNumbers (highlights_of scene row).numbers n) (ap (λ b. line_number_columns b (length scene.rows.lines)) unnumbered)
    (are_numbers scene row (λ numbered. absurd (false≢true (sym unnumbered ∙ numbered))))

pub returns : goal.returns
returns c = λ row same.
    let scene = c.args.self.now in
    let view = c.scene.view_is ∙ c.self.view_is in
    let numbered = sym (ap (λ (s : SceneState). s.line_numbers) view) ∙ c.if-not-scene.false in
    let lines : length c.lines.result.now ≡ length scene.rows.lines =
    sym (length-map c.lines.result.now characters_of) ∙ ap length c.lines.ensures.lines ∙ ap (λ (s : SceneState). length s.rows.lines) view in
    let digits : c.num_digits.result ≡ number_digits scene = c.num_digits.ensures.value ∙ ap (λ n. length (decimal n)) lines in
    let within : row.line + 1 ≤ length c.lines.result.now = omega (arith, same, lines, c.requires) in
    let few : length (decimal (row.line + 1)) ≤ number_digits scene = omega (arith, digits, c.num_digits.ensures.most (row.line + 1) within) in
    let width : line_number_columns scene.line_numbers (length scene.rows.lines) ≡ c.from.result + 2 =
    ap (λ b. line_number_columns b (length scene.rows.lines)) numbered ∙ omega (arith, digits, c.from.ensures) in
    subst (λ n. AreNumbers (highlights_of scene row).numbers n) width
    (are_numbers scene row (λ _. (omega (arith, within, c.lines.ensures.limit), few)))
