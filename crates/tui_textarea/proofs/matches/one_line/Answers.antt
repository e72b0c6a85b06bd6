use Rattle.std.proofs.Common.{◌≡◌, ◌∙◌, ℕ, zero, suc, ◌+◌, ◌-◌, ◌<◌, ◌≤◌, List, [], ◌∷◌, String, Global, ap, arith, drop, length, refl, take, take-append-drop}
use Rattle.textarea_text.specs.Place.{line_of}
use Rattle.textarea_text.specs.Size.{size_of}
use Rattle.textarea_text.specs.Text.{lines_of}
use Rattle.textarea_text.proofs.Sizes.{size_of-append}
use Rattle.tui_textarea.proofs.matches.one_line.Goals as goal

first_is : (lines : List (String Global)) (row : ℕ) → row < length lines → lines_of (take 1 (drop row lines)) ≡ line_of (lines_of lines) row ∷ []
first_is [] row h = absurd (omega (arith, h))
first_is (line ∷ lines) zero h = refl
first_is (line ∷ lines) (suc row) h = first_is lines row (omega (arith, h))

line_is : (lines : List (String Global)) (row count : ℕ) → row < length lines → count ≡ 1 → lines_of (take count (drop row lines)) ≡ line_of (lines_of lines) row ∷ []
line_is lines row count within is = ap (λ (n : ℕ). lines_of (take n (drop row lines))) is ∙ first_is lines row within

size_within : (lines : List (String Global)) (row count : ℕ) → size_of (take count (drop row lines)) ≤ size_of lines
size_within lines row count =
    omega (
      arith,
      size_of-append (take count (drop row lines)) (drop count (drop row lines)),
      ap size_of (take-append-drop count (drop row lines)),
      size_of-append (take row lines) (drop row lines),
      ap size_of (take-append-drop row lines),
    )

pub returns-clause-line : goal.returns-clause-line
returns-clause-line c = line_is c.args.lines.now c.args.row (c.args.row + 1 - c.args.row) (omega arith) (omega arith)

pub returns-clause-limit : goal.returns-clause-limit
returns-clause-limit c = size_within c.args.lines.now c.args.row (c.args.row + 1 - c.args.row)
