-- Equal cells, and equal buffers.
use Rattle.std.specs.Prelude.{Bool, nat_eq}
use Rattle.std.specs.Cmp.{IsEquivalence}
use Rattle.std.specs.Cmp.Lexicographic.{pointwise}
use Rattle.std.specs.Ordering.{eq_of_both, on}
use Rattle.std.proofs.lemmas.Cmp.{and_equiv, lists_equiv, nat_eq_equiv, nat_list_eq_equiv, on_equiv}
use Rattle.textarea_screen.specs.Cell.{cell_text}
use Rattle.textarea_screen.specs.contracts.screen.color.ColorEq.TheImpl.Laws as color_laws
use Rattle.textarea_screen.specs.contracts.screen.color.ColorPartialEq.TheImpl as color
use Rattle.textarea_screen.specs.contracts.screen.rect.RectEq.TheImpl.Laws as rect_laws
use Rattle.textarea_screen.specs.contracts.screen.rect.RectPartialEq.TheImpl as rect
use Rattle.textarea_screen.specs.declared.screen.buffer.Buffer.{Buffer}
use Rattle.textarea_screen.specs.declared.screen.cell.Cell.{Cell}

-- whether two cells have the same text, the same colours and the same modifiers
abbrev pub cell_eq : Cell → Cell → Bool
cell_eq =
    eq_of_both (on (λ cell. cell_text cell.text) (pointwise nat_eq))
    (eq_of_both (on (λ cell. cell.fg) (color.ghosts).eq)
    (eq_of_both (on (λ cell. cell.bg) (color.ghosts).eq) (on (λ cell. cell.modifier.0) nat_eq)))

-- whether two buffers have the same area and equal cells
abbrev pub buffer_eq : Buffer → Buffer → Bool
buffer_eq =
    eq_of_both (on (λ buffer. buffer.area) (rect.ghosts).eq)
    (on (λ buffer. buffer.cells.items) (pointwise cell_eq))

-- ---- both are equivalences

pub cell_eq_equiv : IsEquivalence cell_eq
cell_eq_equiv =
    and_equiv (on_equiv (λ cell. cell_text cell.text) nat_list_eq_equiv)
    (and_equiv (on_equiv (λ cell. cell.fg) color_laws.laws-law)
    (and_equiv (on_equiv (λ cell. cell.bg) color_laws.laws-law) (on_equiv (λ cell. cell.modifier.0) nat_eq_equiv)))

pub buffer_eq_equiv : IsEquivalence buffer_eq
buffer_eq_equiv =
    and_equiv (on_equiv (λ buffer. buffer.area) rect_laws.laws-law)
    (on_equiv (λ buffer. buffer.cells.items) (lists_equiv cell_eq_equiv))
