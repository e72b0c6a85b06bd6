use Rattle.std.proofs.Common.{◌≡◌, ◌∷◌, ◌∙◌, List, [], Vec, ap, refl, vec_len}
use Rattle.std.specs.List.{each_same}
use Rattle.textarea_blocks.specs.Prelude.{AllZip, RowsView, BlocksView, rows_of_each}
use Rattle.textarea_blocks.proofs.blocks.RowBlocksClone.clone.Goals as goal

blocks_same :
    {A : Type 0} (blocks copies : List (Vec RowsView A)) → AllZip (λ (v : Vec RowsView A) (w : Vec RowsView A). AllZip (λ a b. b ≡ a) v.items w.items × (vec_len w ≡ vec_len v)) blocks copies
    → rows_of_each copies ≡ rows_of_each blocks
blocks_same [] [] h = refl
blocks_same [] (y ∷ copies) h = absurd h
blocks_same (x ∷ blocks) [] h = absurd h
blocks_same (x ∷ blocks) (y ∷ copies) h =
    ap (λ t. t ∷ rows_of_each copies) (each_same x.items y.items h.0.0) ∙ ap (λ t. x.items ∷ t) (blocks_same blocks copies h.1)

pub invariant_of-result : goal.invariant_of-result
invariant_of-result c =
    rw (blocks_same c.self.inside.blocks.items c.in_ok-blocks.blocks.items c.in_ok-blocks.ensures.cases.0, c.in_ok-lines.ensures.cases, c.in_ok-rows.ensures.cases) c.self.invariant

pub returns : goal.returns
returns c =
    record {
      cases = blocks_same c.self.inside.blocks.items c.in_ok-blocks.blocks.items c.in_ok-blocks.ensures.cases.0 ∙ ap (λ (v : BlocksView). v.blocks) c.self.view_is;
    }
