use Rattle.std.proofs.lemmas.Grind.{common_steps}
use Rattle.std.proofs.Common.{◌≡◌, ◌∙◌, ◌++◌, ◌∷◌, [], ℕ, List, ap, arith, length, refl, sym}
use Rattle.std.specs.Prelude.{encode_utf8}
use Rattle.std.specs.Str.{chars, IsUtf8}
use Rattle.std.proofs.lemmas.List.{nil_from_length}
use Rattle.std.proofs.lemmas.Str.{chars_past_char, chars-nil}
use Rattle.textarea_paint.specs.Columns.{columns_of}
use Rattle.textarea_paint.proofs.ColumnLemmas.{columns-le}
use Rattle.textarea_paint.proofs.paint.columns.cluster_columns.Goals as goal

pub sum_of_columns-requires : goal.sum_of_columns-requires
sum_of_columns-requires c = grind (arith, common_steps, columns-le c.args.cluster.now c.utf8.cluster)

one_character : (text rest : List ℕ) (c : ℕ) → IsUtf8 text → text ≡ encode_utf8 c ++ rest → length rest ≡ 0 → chars text ≡ c ∷ []
one_character text rest c utf8 steps none = chars_past_char text rest c utf8 steps ∙ ap (λ t. c ∷ chars t) (nil_from_length rest none) ∙ ap (λ t. c ∷ t) chars-nil

pub returns-then-is_control : goal.returns-then-is_control
unfolding columns_of
returns-then-is_control c =
    let steps = sym c.chars-characters.ensures.rest ∙ c.in-Some-None.ensures.steps.0 in
    let one = one_character c.args.cluster.now c.next.new.self.rest.now c.in-Some-None.c c.utf8.cluster steps c.in-Some-None.ensures'.steps.0.0 in
    rw (one, ← c.if-is_control.ensures) refl

pub returns-else-is_control : goal.returns-else-is_control
unfolding columns_of
returns-else-is_control c =
    let steps = sym c.chars-characters.ensures.rest ∙ c.in-Some-None.ensures.steps.0 in
    let one = one_character c.args.cluster.now c.next.new.self.rest.now c.in-Some-None.c c.utf8.cluster steps c.in-Some-None.ensures'.steps.0.0 in
    rw (one, ← c.if-is_control.ensures) (omega (arith, c.columns_of_char.ensures))
