use Rattle.std.proofs.lemmas.Grind.{common_steps}
use Rattle.std.proofs.Common.{◌≡◌, ◌+◌, ◌-◌, ◌<◌, ◌≤◌, ◌∙◌, inl, inr, List, [], ap, arith, get_or, length, min, ℕ}
use Rattle.std.proofs.lemmas.Bool.{cases_lt}
use Rattle.textarea_blocks.specs.Prelude.{replaced, RowsView, BlocksView, all_rows, lines_before}
use Rattle.textarea_util.proofs.Replacing.{length-replaced}
use Rattle.textarea_blocks.proofs.Exchanging.{none_removed, rest_removed}
use Rattle.textarea_blocks.proofs.InBlocks.{before_more, before_within, after_set, block_count, block_replaced, lines_sum, rows_are}
use Rattle.textarea_blocks.proofs.Totals.{all_set}
use Rattle.textarea_blocks.proofs.blocks.RowBlocks.replace_few.Goals as goal
use Rattle.textarea_blocks.proofs.blocks.RowBlocks.replace_few.Goals.{After-min-shared, After-exchange}

-- the block and index of the first removed line, and the number of removed lines in its block
record First (blocks : List (List RowsView)) (row count block index shared : ℕ) : Type 0 where
  within : block < length blocks
  at : lines_before blocks block + index ≡ row
  inside : index < length (get_or blocks block [])
  shared_is : shared ≡ min count (length (get_or blocks block []) - index)
  next : lines_before blocks (block + 1) ≡ lines_before blocks block + length (get_or blocks block [])

first_place : (c : After-min-shared) → First c.args.self.now.blocks c.args.row c.args.count c.place_of-block.result.0 c.place_of-block.result.1 c.min-shared.result
first_place c =
    let blocks = c.args.self.now.blocks in
    let items = c.self.inside.blocks.items in
    let block = c.place_of-block.result.0 in
    let within : block < length items = omega (arith, c.place_of-block.ensures.block.within, ap (λ (v : BlocksView). length v.blocks) c.self.view_is, block_count items) in
    record {
      within = c.place_of-block.ensures.block.within;
      at = c.place_of-block.ensures.line;
      inside = c.place_of-block.ensures.within;
      shared_is = grind (arith, common_steps, rows_are, block_count);
      next = before_more length lines_sum blocks block c.place_of-block.ensures.block.within;
    }

-- the blocks when the lines of the first block are replaced
record Exchanged (blocks now : List (List RowsView)) (row shared block : ℕ) (new : List RowsView) : Type 0 where
  rows_are : all_rows now ≡ replaced (all_rows blocks) row shared new
  size : length (all_rows now) + shared ≡ length (all_rows blocks) + length new
  next : lines_before now (block + 1) + shared ≡ lines_before blocks (block + 1) + length new

exchanged :
    (c : After-exchange) → First c.args.self.now.blocks c.args.row c.args.count c.place_of-block.result.0 c.place_of-block.result.1 c.min-shared.result
    → Exchanged c.args.self.now.blocks c.exchange.new.self.blocks c.args.row c.min-shared.result c.place_of-block.result.0 c.args.rows.items
exchanged c known =
    let blocks = c.args.self.now.blocks in
    let block = c.place_of-block.result.0 in
    let index = c.place_of-block.result.1 in
    let shared = c.min-shared.result in
    let new = c.args.rows.items in
    let here = get_or blocks block [] in
    let now = replaced here index shared new in
    let fits : index + shared ≤ length here = omega (arith, known.inside, known.shared_is) in
    let size = length-replaced here index shared new fits in
    record {
      rows_are = ap all_rows c.exchange.ensures ∙ block_replaced blocks block index shared new known.within fits ∙ ap (λ n. replaced (all_rows blocks) n shared new) known.at;
      size = omega (arith, ap (λ t. length (all_rows t)) c.exchange.ensures, all_set length lines_sum blocks block now known.within, size);
      next = omega (arith, ap (λ t. lines_before t (block + 1)) c.exchange.ensures, after_set length lines_sum blocks block now known.within, known.next, size);
    }

pub exchange-requires-clause-room : goal.exchange-requires-clause-room
exchange-requires-clause-room c =
    let known = first_place (goal.at.exchange-requires-clause-room c).After-min-shared in
    omega (arith, c.requires.room c.place_of-block.result.0 c.place_of-block.ensures.block, known.shared_is, known.next, known.at, known.inside)

pub remove_first-requires-clause-count : goal.remove_first-requires-clause-count
remove_first-requires-clause-count c =
    let at = goal.at.remove_first-requires-clause-count c in
    let known = first_place at.After-min-shared in
    let turned = exchanged at.After-exchange known in
    omega (arith, turned.size, turned.next, known.next, known.at, known.inside, known.shared_is, c.requires.within, before_within length lines_sum c.args.self.now.blocks (c.place_of-block.result.0 + 1))

pub returns : goal.returns
returns c =
    let at = goal.at.returns c in
    let known = first_place at.After-min-shared in
    let turned = exchanged at.After-exchange known in
    let blocks = c.args.self.now.blocks in
    let rows = all_rows blocks in
    let row = c.args.row in
    let count = c.args.count in
    let shared = c.min-shared.result in
    let new = c.args.rows.items in
    let next = lines_before c.exchange.new.self.blocks (c.place_of-block.result.0 + 1) in
    c.remove_first.ensures
    ∙ ap (λ t. replaced t next (count - shared) []) turned.rows_are
    ∙ elim (cases_lt shared count) [
      | inl less ↦
          let after : next ≡ row + length new = omega (arith, less, turned.next, known.next, known.at, known.inside, known.shared_is) in
          let sum : shared + (count - shared) ≡ count = omega (arith, less) in
          ap (λ n. replaced (replaced rows row shared new) n (count - shared) []) after
          ∙ rest_removed rows new row shared (count - shared) (omega (arith, c.requires.within))
          ∙ ap (λ n. replaced rows row n new) sum
      | inr most ↦
          let all : shared ≡ count = omega (arith, most, known.shared_is) in
          let none : count - shared ≡ 0 = omega (arith, all) in
          ap (λ n. replaced (replaced rows row shared new) next n []) none
          ∙ none_removed (replaced rows row shared new) next
          ∙ ap (λ n. replaced rows row n new) all
    ]
