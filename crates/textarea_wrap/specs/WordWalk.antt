-- How far the wrapping of a line at unit ends is.
use Rattle.std.specs.Prelude.{◌≡◌, ℕ, ◌+◌, ◌<◌, ◌≤◌, List, [], ◌++◌, length}
use Rattle.std.specs.List.{concat, flat_map, AllByRecursion}
use Rattle.textarea_wrap.specs.Columns.{stretch_width}
use Rattle.textarea_wrap.specs.WrapRules.{Stretch, UnitBlock, units_of, rows_of, ranges_from, IsFittingStretch, AreBlocks}

-- The units before `left` are in finished blocks or in the open row. The rows are those before the
-- walk and those of the blocks. The open row is the bytes `row_start` to `row_end`, up to the
-- column.
pub record IsWordWalk (tab_len width : ℕ) (units : Stretch) (before rows : List (ℕ × ℕ)) (left : Stretch) (row_start row_end column : ℕ) : Type 0 where
  pub blocks : List UnitBlock
  pub open_stretch : Stretch
  pub joined : flat_map units_of blocks ++ (open_stretch ++ left) ≡ units
  pub wrapped : AreBlocks tab_len width blocks (open_stretch ++ left)
  pub rows_are : rows ≡ before ++ ranges_from 0 (flat_map rows_of blocks)
  pub begins : row_start ≡ length (concat (flat_map rows_of blocks))
  pub ends : row_end ≡ row_start + length (concat open_stretch)
  pub column_is : column ≡ stretch_width tab_len open_stretch
  pub closed : row_end ≤ row_start → open_stretch ≡ []
  pub opened : row_start < row_end → IsFittingStretch tab_len width open_stretch left
  pub some : AllByRecursion (λ p. 0 < length p) left
