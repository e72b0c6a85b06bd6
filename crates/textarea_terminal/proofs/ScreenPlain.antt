-- A character of printable ASCII is a cluster of one column.
use Rattle.std.proofs.Common.{◌≡◌, ℕ, Bool, true, cond, ◌&&◌, ◌==◌, leb, ltb, List, [], ◌∷◌, length, slice_index, refl, sym, ◌∙◌, arith, lit≤, lit<}
use Rattle.std.proofs.lemmas.Bool.{cond-true, eqb-true}
use Rattle.std.proofs.lemmas.Bool.Decides.{nat_tests}
use Rattle.textarea_paint.specs.Columns.{columns_of}
use Rattle.textarea_paint.specs.Plain.{IsPrintable}
use Rattle.textarea_terminal.specs.PaintCells.{cluster_columns}
use Rattle.ucd_table.proofs.TrieCheck.{all_below, all_below-at}
use Rattle.unicode_segmentation.proofs.Computing.{unicode_segmentation}
use Rattle.unicode_width.specs.Width.{char_width}

-- a test that each character of printable ASCII passes
pub each_plain : (test : List ℕ → Bool) → all_below (λ c. cond (leb 32 c && ltb c 127) (test (c ∷ [])) true) 127 ≡ true →
    (text : List ℕ) → length text ≡ 1 → IsPrintable (slice_index text 0) → test text ≡ true
each_plain test all [] one printable = absurd (omega arith)
each_plain test all (c ∷ []) one printable =
    let in_range : (leb 32 c && ltb c 127) ≡ true = grind (arith, nat_tests, printable.0, printable.1) in
    sym (cond-true (leb 32 c && ltb c 127) (test (c ∷ [])) true in_range) ∙ all_below-at (λ c. cond (leb 32 c && ltb c 127) (test (c ∷ [])) true) 127 c all printable.1
each_plain test all (c ∷ d ∷ text) one printable = absurd (omega arith)

pub cluster_columns-plain : (text : List ℕ) → length text ≡ 1 → IsPrintable (slice_index text 0) → cluster_columns text ≡ 1
unfolding unicode_segmentation cluster_columns columns_of char_width
cluster_columns-plain text one printable = eqb-true (cluster_columns text) 1 (each_plain (λ t. cluster_columns t == 1) refl text one printable)

-- a blank is one
pub cluster_columns-blank : cluster_columns (32 ∷ []) ≡ 1
cluster_columns-blank = cluster_columns-plain (32 ∷ []) refl (lit≤ tt, lit< tt)
