-- What a terminal is sent for its cursor's shape and its window's title.
use Rattle.std.specs.Prelude.{ℕ, ◌≡◌, ◌≢◌, List, [], ◌∷◌, Option, MatchOption}
use Rattle.textarea_terminal.specs.declared.output.title.CursorShape.{CursorShape}
use Rattle.textarea_terminal.specs.declared.output.title.CursorShape.TheVariants as shape
use Rattle.textarea_c_data.specs.Copied.{IsCopiedOut}
use Rattle.textarea_c_data.specs.Tables.{value_of_number}

-- the numbers by which C names the shapes
abbrev pub cursor_shapes : List (ℕ × CursorShape)
cursor_shapes =
    (0, shape.Default) ∷ (1, shape.BlinkingBlock) ∷ (2, shape.Block) ∷ (3, shape.BlinkingUnderline) ∷ (4, shape.Underline) ∷ (5, shape.BlinkingBar)
    ∷ (6, shape.Bar) ∷ []

abbrev pub cursor_shape_of : ℕ → Option CursorShape
cursor_shape_of = value_of_number cursor_shapes

-- the bytes of an argument, which may be invalid, go out over those of a slice, as many as there is
-- room for, with the number of all, unless memory runs out
abbrev pub WritesBytes : Option (List ℕ) → ℕ → List ℕ → List ℕ → ℕ → Type 0
WritesBytes argument status before after needed =
    MatchOption argument (status ≡ 6)
    (λ bytes. (status ≡ 0 → IsCopiedOut before after needed bytes) × (status ≢ 0 → status ≡ 2))
