use Rattle.std.proofs.Common.{◌≡◌, ◌+◌, ◌-◌, ◌<◌, ◌≤◌, ◌∙◌, List, [], arith, get_or, length, set, ℕ}
use Rattle.std.proofs.lemmas.Grind.{common_steps}
use Rattle.textarea_blocks.specs.Prelude.{RowsView, replaced, all_rows, lines_before}
use Rattle.textarea_blocks.proofs.Exchanging.{first_removed}
use Rattle.textarea_blocks.proofs.InBlocks.{before_ordered, before_set, before_within, block_ordered, block_replaced, lines_sum}
use Rattle.textarea_blocks.proofs.blocks.RowBlocks.remove_first.Goals as goal
use Rattle.textarea_blocks.proofs.blocks.RowBlocks.remove_first.Goals.{After-place_of-last}

-- first the first lines of the last block are removed, then the blocks before it
front_removed :
    (blocks now : List (List RowsView)) (block last index count : ℕ) → block ≤ last → last < length blocks → index ≤ length (get_or blocks last [])
    → lines_before blocks last + index ≡ lines_before blocks block + count → now ≡ set blocks last (replaced (get_or blocks last []) 0 index [])
    → replaced (all_rows now) (lines_before now block) (lines_before now last - lines_before now block) [] ≡ replaced (all_rows blocks) (lines_before blocks block) count []
front_removed blocks now block last index count ordered within inside at is =
    let rows = replaced (get_or blocks last []) 0 index [] in
    let above = before_ordered length lines_sum blocks block last ordered in
    let all = before_within length lines_sum blocks last in
    let here : all_rows now ≡ replaced (all_rows blocks) (lines_before blocks last + 0) index [] = rw is (block_replaced blocks last 0 index [] within (omega arith)) in
    let between = lines_before blocks last - lines_before blocks block in
    let first = first_removed (all_rows blocks) (lines_before blocks block) between index (omega arith) in
    grind (arith, common_steps, is, here, above, all, before_set length blocks last block rows ordered, before_set length blocks last last rows (omega arith), first)

ordered : (c : After-place_of-last) → c.args.block ≤ c.place_of-last.result.0
ordered c = block_ordered c.args.self.now.blocks (c.lines_before.result + c.args.count) c.args.block _ (omega arith) c.place_of-last.ensures.block

pub remove_blocks-requires-else-end-line_count-clause-ordered : goal.remove_blocks-requires-else-end-line_count-clause-ordered
remove_blocks-requires-else-end-line_count-clause-ordered c = ordered (goal.at.remove_blocks-requires-else-end-line_count-clause-ordered c).After-place_of-last

pub returns-else-end-line_count : goal.returns-else-end-line_count
returns-else-end-line_count c =
    let known = ordered (goal.at.returns-else-end-line_count c).After-place_of-last in
    c.remove_blocks-else-end-line_count.ensures
    ∙ front_removed c.args.self.now.blocks _ c.args.block c.place_of-last.result.0 c.place_of-last.result.1 c.args.count known
    c.place_of-last.ensures.block.within (omega (arith, c.place_of-last.ensures.within))
    (omega (arith, c.place_of-last.ensures.line, c.lines_before.ensures)) (grind (arith, common_steps))
