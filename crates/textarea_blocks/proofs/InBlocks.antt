-- Rows in blocks: totals before a block, the block of a line, and all rows after one block changed.
use Rattle.std.proofs.lemmas.Grind.{common_steps}
use Rattle.std.proofs.Common.{◌≡◌, ℕ, zero, suc, ◌+◌, ◌-◌, ◌<◌, ◌≤◌, inl, inr, List, Some, Result, Ok, Err, cond, [], ◌∷◌, ◌++◌, Vec, length, take, drop, get_or, set, vec_len, vec_capacity, sym, ap, refl, ◌∙◌, arith}
use Rattle.textarea_blocks.specs.Prelude.{IsOk, is_ok, BlocksView, RowsView, replaced, IsBlockOf, IsEdge, all_rows, lines_before, rows_of_each, spare_of_each, marks_at, ranges_at, row_total}
use Rattle.std.proofs.lemmas.Bool.{cases_lt}
use Rattle.std.specs.List.{slice_get}
use Rattle.std.proofs.lemmas.Option.{slice_get-get_or}
use Rattle.std.proofs.lemmas.List.{append-nil, append_assoc, drop-append-le, drop_all, drop_at, drop-drop, drop_more, get_or-append-add, get_or_append_left, get_or-map, get_or-set_same, length-append, length-drop}
use Rattle.std.proofs.lemmas.List.{length-map, map-append, length-set, map-set, set_split, take_all, take-append-drop, take-append-le, take-map, take_more, take_more_set, take-set-le, drop-map, drop-set-lt}
use Rattle.std.proofs.Math.Seq.{take-add, take-append-add}
use Rattle.textarea_blocks.proofs.Numbers.{row_total-append}
use Rattle.textarea_blocks.proofs.LineSums.{IsSum, Sum}

pub all_rows-append : (blocks more : List (List RowsView)) → all_rows (blocks ++ more) ≡ all_rows blocks ++ all_rows more
all_rows-append [] more = refl
all_rows-append (rows ∷ blocks) more =
    ap (λ t. rows ++ t) (all_rows-append blocks more) ∙ sym (append_assoc rows (all_rows blocks) (all_rows more))

-- the number of lines is such a sum, and so is the number of rows
pub lines_sum : IsSum length
lines_sum rows more = length-append rows more

pub rows_sum : IsSum row_total
rows_sum rows more = row_total-append rows more

-- ---- totals before a block

-- the total of the blocks before one
abbrev pub total_before : Sum → List (List RowsView) → ℕ → ℕ
total_before total blocks block = total (all_rows (take block blocks))

pub before_all : (total : Sum) (blocks : List (List RowsView)) (n : ℕ) → length blocks ≤ n → total_before total blocks n ≡ total (all_rows blocks)
before_all total blocks n all = ap (λ t. total (all_rows t)) (take_all n blocks all)

module _ (total : Sum) (sum : IsSum total) where
  pub before_more : (blocks : List (List RowsView)) (block : ℕ) → block < length blocks → total_before total blocks (block + 1) ≡ total_before total blocks block + total (get_or blocks block [])
  before_more blocks block within = grind (arith, common_steps, take_more blocks block [] within, all_rows-append, append-nil)

  -- and of the blocks between it and another
  pub before_further : (blocks : List (List RowsView)) (block more : ℕ) → total_before total blocks (block + more) ≡ total_before total blocks block + total (all_rows (take more (drop block blocks)))
  before_further blocks block more =
      grind (arith, common_steps, take-add block more blocks, all_rows-append (take block blocks) (take more (drop block blocks)))

  pub before_ordered : (blocks : List (List RowsView)) (block other : ℕ) → block ≤ other → total_before total blocks block ≤ total_before total blocks other
  before_ordered blocks block other ordered = grind (arith, common_steps, before_further blocks block (other - block))

  pub before_within : (blocks : List (List RowsView)) (block : ℕ) → total_before total blocks block ≤ total (all_rows blocks)
  before_within blocks block =
      elim (cases_lt block (length blocks)) [
        | inl less ↦
            omega (arith, before_ordered blocks block (length blocks) (omega arith), before_all total blocks (length blocks) (omega arith))
        | inr most ↦ omega (arith, before_all total blocks block most)
      ]

-- a line is in one block only
pub one_block : (blocks : List (List RowsView)) (line block other : ℕ) → IsBlockOf blocks line block → IsBlockOf blocks line other → block ≡ other
one_block blocks line block other h more =
    elim (cases_lt block other) [
      | inl less ↦
          absurd (omega (arith, h.to, more.from, before_ordered length lines_sum blocks (block + 1) other (omega arith)))
      | inr most ↦
          elim (cases_lt other block) [
            | inl less ↦
                absurd (omega (arith, more.to, h.from, before_ordered length lines_sum blocks (other + 1) block (omega arith)))
            | inr least ↦ omega arith
          ]
    ]

-- a line at or after the start of a block is in that block or a later one
pub block_ordered : (blocks : List (List RowsView)) (line block other : ℕ) → lines_before blocks block ≤ line → IsBlockOf blocks line other → block ≤ other
block_ordered blocks line block other from h =
    elim (cases_lt other block) [
      | inl less ↦
          absurd (omega (arith, from, h.to, before_ordered length lines_sum blocks (other + 1) block (omega arith)))
      | inr most ↦ most
    ]

-- ---- the rows of one block among all rows

pub rows_around_block : (blocks : List (List RowsView)) (block : ℕ) → block < length blocks → all_rows blocks ≡ all_rows (take block blocks) ++ (get_or blocks block [] ++ all_rows (drop (block + 1) blocks))
rows_around_block blocks block within =
    grind (arith, common_steps, take-append-drop block blocks, all_rows-append (take block blocks) (drop block blocks), drop_more blocks block [] within)

-- the lines up to one of the block
pub take_in_block :
    (blocks : List (List RowsView)) (block index : ℕ) → block < length blocks → index ≤ length (get_or blocks block [])
    → take (lines_before blocks block + index) (all_rows blocks) ≡ all_rows (take block blocks) ++ take index (get_or blocks block [])
take_in_block blocks block index within inside = grind (arith, common_steps, rows_around_block blocks block within, take-append-add, take-append-le)

-- and those from one of it on
pub drop_in_block :
    (blocks : List (List RowsView)) (block index : ℕ) → block < length blocks → index ≤ length (get_or blocks block [])
    → drop (lines_before blocks block + index) (all_rows blocks) ≡ drop index (get_or blocks block []) ++ all_rows (drop (block + 1) blocks)
drop_in_block blocks block index within inside =
    let above = all_rows (take block blocks) in
    let rows = get_or blocks block [] in
    let below = all_rows (drop (block + 1) blocks) in
    ap (drop (length above + index)) (rows_around_block blocks block within)
    ∙ sym (drop-drop index (length above) (above ++ (rows ++ below)))
    ∙ ap (drop index) (drop_at above (rows ++ below) (length above) refl)
    ∙ drop-append-le index rows below inside

pub rows_of_block :
    (blocks : List (List RowsView)) (block index count : ℕ) → block < length blocks → index + count ≤ length (get_or blocks block [])
    → take count (drop (lines_before blocks block + index) (all_rows blocks)) ≡ take count (drop index (get_or blocks block []))
rows_of_block blocks block index count within inside = grind (arith, common_steps, drop_in_block, take-append-le, length-drop)

pub line_in_block :
    (blocks : List (List RowsView)) (block index : ℕ) (d : RowsView) → block < length blocks → index < length (get_or blocks block [])
    → get_or (all_rows blocks) (lines_before blocks block + index) d ≡ get_or (get_or blocks block []) index d
line_in_block blocks block index d within inside = grind (arith, common_steps, rows_around_block blocks block within, get_or-append-add, get_or_append_left)

-- a line at which a block begins is the first of its block
pub edge_there : (blocks : List (List RowsView)) (line block : ℕ) → IsEdge blocks line → IsBlockOf blocks line block → lines_before blocks block ≡ line
edge_there blocks line block edge h =
    elim (cases_lt block edge.0) [
      | inl less ↦
          absurd (omega (arith, h.to, edge.2, before_ordered length lines_sum blocks (block + 1) edge.0 (omega arith)))
      | inr most ↦
          omega (arith, h.from, edge.2, before_ordered length lines_sum blocks edge.0 block most)
    ]

-- a line of a block is one of all lines
pub line_there : (blocks : List (List RowsView)) (block index : ℕ) → block < length blocks → index < length (get_or blocks block []) → lines_before blocks block + index < length (all_rows blocks)
line_there blocks block index within inside =
    omega (arith, before_more length lines_sum blocks block within, before_within length lines_sum blocks (block + 1))

-- the ranges and the marks of a line, and the total before it
pub ranges_in_block :
    (blocks : List (List RowsView)) (block index line : ℕ) (rows : RowsView) → block < length blocks → index < length (get_or blocks block [])
    → lines_before blocks block + index ≡ line → rows ≡ get_or (get_or blocks block []) index rows → rows.ranges ≡ ranges_at (all_rows blocks) line
ranges_in_block blocks block index line rows within inside at is =
    grind (arith, common_steps, line_there blocks block index within inside, line_in_block blocks block index rows within inside, get_or-map)

pub ranges_there :
    (blocks : List (List RowsView)) (block index line : ℕ) → block < length blocks → index < length (get_or blocks block [])
    → lines_before blocks block + index ≡ line → ranges_at (all_rows blocks) line ≡ ranges_at (get_or blocks block []) index
ranges_there blocks block index line within inside at =
    grind (arith, common_steps, line_there blocks block index within inside, line_in_block blocks block index (record { ranges = []; marks = []; tick = 0 }) within inside, get_or-map)

pub marks_in_block :
    (blocks : List (List RowsView)) (block index line : ℕ) (rows : RowsView) → block < length blocks → index < length (get_or blocks block [])
    → lines_before blocks block + index ≡ line → rows ≡ get_or (get_or blocks block []) index rows → rows.marks ≡ marks_at (all_rows blocks) line
marks_in_block blocks block index line rows within inside at is =
    grind (arith, common_steps, line_there blocks block index within inside, line_in_block blocks block index rows within inside, get_or-map)

pub slice_in_block :
    (blocks : List (List RowsView)) (block index line : ℕ) (rows : RowsView) → block < length blocks → index < length (get_or blocks block [])
    → lines_before blocks block + index ≡ line → rows ≡ get_or (get_or blocks block []) index rows → slice_get (all_rows blocks) line ≡ Some rows
slice_in_block blocks block index line rows within inside at is =
    grind (arith, common_steps, line_there blocks block index within inside, line_in_block blocks block index rows within inside, slice_get-get_or)

pub total_in_block :
    (total : Sum) → IsSum total → (blocks : List (List RowsView)) (block index line : ℕ) → block < length blocks → index ≤ length (get_or blocks block []) → lines_before blocks block + index ≡ line
    → total (take line (all_rows blocks)) ≡ total_before total blocks block + total (take index (get_or blocks block []))
total_in_block total sum blocks block index line within inside at = grind (arith, common_steps, take_in_block blocks block index within inside)

-- the totals of consecutive lines, of which the last ones are in one block
pub total_further :
    (total : Sum) → IsSum total → (blocks : List (List RowsView)) (here : List RowsView) (block index count line done : ℕ) → block < length blocks
    → here ≡ get_or blocks block [] → index + count ≤ length here → lines_before blocks block + index ≡ line + done
    → total (take (done + count) (drop line (all_rows blocks))) ≡ total (take done (drop line (all_rows blocks))) + total (take (index + count - index) (drop index here))
total_further total sum blocks here block index count line done within is inside at = grind (arith, common_steps, take-add, drop-drop, rows_of_block)

-- ---- blocks that change

-- lines in the middle of a list are replaced
replaced_between : (above rows below new : List RowsView) (start count : ℕ) → start + count ≤ length rows → replaced (above ++ (rows ++ below)) (length above + start) count new ≡ above ++ (replaced rows start count new ++ below)
replaced_between above rows below new start count within =
    let rest = drop (start + count) rows in
    let outer = append_assoc above (take start rows) (new ++ (rest ++ below)) in
    let inner = append_assoc (take start rows) (new ++ rest) below in
    let last = drop-append-le (start + count) rows below within in
    grind (arith, common_steps, take-append-add above (rows ++ below) start, take-append-le, drop-drop, drop_at above (rows ++ below) (length above), last, outer, append_assoc new rest below, inner)

-- one block is replaced
pub block_set : (blocks : List (List RowsView)) (block : ℕ) (rows : List RowsView) → block < length blocks → all_rows (set blocks block rows) ≡ all_rows (take block blocks) ++ (rows ++ all_rows (drop (block + 1) blocks))
block_set blocks block rows within =
    let next : suc block ≡ block + 1 = omega arith in
    ap all_rows (set_split blocks block rows within)
    ∙ ap (λ n. all_rows (take block blocks ++ rows ∷ drop n blocks)) next
    ∙ all_rows-append (take block blocks) (rows ∷ drop (block + 1) blocks)

-- the total before a block, when this block or a later one is replaced
pub before_set : (total : Sum) (blocks : List (List RowsView)) (block k : ℕ) (rows : List RowsView) → k ≤ block → total_before total (set blocks block rows) k ≡ total_before total blocks k
before_set total blocks block k rows above = ap (λ t. total (all_rows t)) (take-set-le k blocks block rows above)

pub after_set : (total : Sum) → IsSum total → (blocks : List (List RowsView)) (block : ℕ) (rows : List RowsView) → block < length blocks → total_before total (set blocks block rows) (block + 1) ≡ total_before total blocks block + total rows
after_set total sum blocks block rows within =
    before_more total sum (set blocks block rows) block (omega (arith, length-set blocks block rows))
    ∙ ap (λ n. n + total (get_or (set blocks block rows) block [])) (before_set total blocks block block rows (omega arith))
    ∙ ap (λ t. total_before total blocks block + total t) (get_or-set_same blocks block rows [] within)

-- lines of one block are replaced
pub block_replaced :
    (blocks : List (List RowsView)) (block start count : ℕ) (new : List RowsView) → block < length blocks → start + count ≤ length (get_or blocks block [])
    → all_rows (set blocks block (replaced (get_or blocks block []) start count new)) ≡ replaced (all_rows blocks) (lines_before blocks block + start) count new
block_replaced blocks block start count new within inside = grind (arith, common_steps, block_set, replaced_between, rows_around_block blocks block within)

drop_all_of : (rows : List RowsView) → drop (0 + length rows) rows ≡ []
drop_all_of rows = drop_all (0 + length rows) rows (omega arith)

-- whole blocks are replaced
pub blocks_replaced :
    (blocks new : List (List RowsView)) (from to : ℕ) → from ≤ to → to ≤ length blocks
    → all_rows (replaced blocks from (to - from) new) ≡ replaced (all_rows blocks) (lines_before blocks from) (lines_before blocks to - lines_before blocks from) (all_rows new)
blocks_replaced blocks new from to ordered within =
    let above = all_rows (take from blocks) in
    let between = all_rows (take (to - from) (drop from blocks)) in
    let below = all_rows (drop (from + (to - from)) blocks) in
    let components : all_rows blocks ≡ above ++ (between ++ below) =
    ap all_rows (sym (take-append-drop from blocks)) ∙ all_rows-append (take from blocks) (drop from blocks)
    ∙ ap (λ t. above ++ t)
    (ap all_rows (sym (take-append-drop (to - from) (drop from blocks))) ∙ all_rows-append (take (to - from) (drop from blocks)) (drop (to - from) (drop from blocks)) ∙ ap (λ t. between ++ all_rows t) (drop-drop (to - from) from blocks))
    in
    let size : from + (to - from) ≡ to = omega arith in
    let lines : lines_before blocks to - lines_before blocks from ≡ length between =
    omega (arith, before_further length lines_sum blocks from (to - from), ap (lines_before blocks) size) in
    let zero_more : length above + 0 ≡ length above = omega arith in
    let whole : replaced between 0 (length between) (all_rows new) ≡ all_rows new =
    ap (λ t. all_rows new ++ t) (drop_all_of between) ∙ append-nil (all_rows new) in
    all_rows-append (take from blocks) (new ++ drop (from + (to - from)) blocks)
    ∙ ap (λ t. above ++ t) (all_rows-append new (drop (from + (to - from)) blocks))
    ∙ ap (λ t. above ++ (t ++ below)) (sym whole)
    ∙ sym (replaced_between above between below (all_rows new) 0 (length between) (omega arith))
    ∙ ap (λ n. replaced (above ++ (between ++ below)) n (length between) (all_rows new)) zero_more
    ∙ ap (λ n. replaced (above ++ (between ++ below)) (length above) n (all_rows new)) (sym lines)
    ∙ ap (λ t. replaced t (length above) (lines_before blocks to - lines_before blocks from) (all_rows new)) (sym components)

-- one block is appended
pub block_pushed : (blocks : List (List RowsView)) (rows : List RowsView) → all_rows (blocks ++ rows ∷ []) ≡ all_rows blocks ++ rows
block_pushed blocks rows =
    all_rows-append blocks (rows ∷ []) ∙ ap (λ t. all_rows blocks ++ t) (append-nil rows)

-- a block is split in two
pub block_split : (blocks : List (List RowsView)) (block at : ℕ) → block < length blocks → all_rows (replaced (set blocks block (take at (get_or blocks block []))) (block + 1) 0 (drop at (get_or blocks block []) ∷ [])) ≡ all_rows blocks
block_split blocks block at within =
    let rows = get_or blocks block [] in
    let above = take block blocks in
    let below = drop (block + 1) blocks in
    let cut = take_more_set blocks block (take at rows) within in
    let same = drop-set-lt (block + 1) blocks block (take at rows) (omega arith) in
    let halves = all_rows-append (above ++ take at rows ∷ []) (drop at rows ∷ below) in
    let outer = append_assoc (all_rows above) (take at rows) (drop at rows ++ all_rows below) in
    let inner = append_assoc (take at rows) (drop at rows) (all_rows below) in
    grind (arith, common_steps, cut, same, halves, block_pushed above (take at rows), outer, inner, take-append-drop at rows, rows_around_block blocks block within)

-- ---- elements of vectors

-- an element that exists is the same for every default
pub item_is : {X : Type 0} (items : List X) (i : ℕ) (item d : X) → i < length items → item ≡ get_or items i item → item ≡ get_or items i d
item_is [] i item d within is = absurd (omega arith)
item_is (x ∷ items) zero item d within is = is
item_is (x ∷ items) (suc i) item d within is = item_is items i item d (omega arith) is

-- a push for which there is room
pub pushed : {T E X : Type 0} (r : Result T E) (old new : List X) (x : X) → new ≡ cond (is_ok r) (old ++ x ∷ []) old → IsOk r → new ≡ old ++ x ∷ []
pushed (Ok v) old new x e h = e
pushed (Err v) old new x e h = absurd cc

-- the rows of a block
pub rows_are : {A : Type 0} (items : List (Vec RowsView A)) (block : ℕ) (rows : Vec RowsView A) → block < length items → rows ≡ get_or items block rows → rows.items ≡ get_or (rows_of_each items) block []
rows_are {A} items block rows within is =
    ap (λ (b : Vec RowsView A). b.items) is ∙ sym (get_or-map (λ (b : Vec RowsView A). b.items) items block rows [] within)

pub spare_is : {A : Type 0} (items : List (Vec RowsView A)) (block : ℕ) (rows : Vec RowsView A) → block < length items → rows ≡ get_or items block rows → vec_capacity rows - vec_len rows ≡ get_or (spare_of_each items) block 0
spare_is {A} items block rows within is =
    ap (λ (b : Vec RowsView A). vec_capacity b - vec_len b) is ∙ sym (get_or-map (λ (b : Vec RowsView A). vec_capacity b - vec_len b) items block rows 0 within)

pub block_count : {A : Type 0} (items : List (Vec RowsView A)) → length (rows_of_each items) ≡ length items
block_count {A} items = length-map items (λ (b : Vec RowsView A). b.items)

pub blocks_set : {A : Type 0} (items : List (Vec RowsView A)) (block : ℕ) (rows : Vec RowsView A) → rows_of_each (set items block rows) ≡ set (rows_of_each items) block rows.items
blocks_set {A} items block rows = map-set (λ (b : Vec RowsView A). b.items) items block rows

pub spare_count : {A : Type 0} (items : List (Vec RowsView A)) → length (spare_of_each items) ≡ length items
spare_count {A} items = length-map items (λ (b : Vec RowsView A). vec_capacity b - vec_len b)

-- blocks and their room are the same if each part is
pub view_same : (one other : BlocksView) → one.blocks ≡ other.blocks → one.spare ≡ other.spare → one.more ≡ other.more → one ≡ other
view_same one other blocks spare more =
    ap (λ t. record one { blocks = t }) blocks ∙ ap (λ t. record other { spare = t; more = one.more }) spare ∙ ap (λ t. record other { more = t }) more

pub spare_set : {A : Type 0} (items : List (Vec RowsView A)) (block : ℕ) (rows : Vec RowsView A) → spare_of_each (set items block rows) ≡ set (spare_of_each items) block (vec_capacity rows - vec_len rows)
spare_set {A} items block rows = map-set (λ (b : Vec RowsView A). vec_capacity b - vec_len b) items block rows

pub blocks_pushed : {A : Type 0} (items now : List (Vec RowsView A)) (rows : Vec RowsView A) → now ≡ items ++ rows ∷ [] → rows_of_each now ≡ rows_of_each items ++ rows.items ∷ []
blocks_pushed {A} items now rows is =
    ap rows_of_each is ∙ map-append (λ (b : Vec RowsView A). b.items) items (rows ∷ [])

pub blocks_exchanged : {A : Type 0} (items new : List (Vec RowsView A)) (start count : ℕ) → rows_of_each (replaced items start count new) ≡ replaced (rows_of_each items) start count (rows_of_each new)
blocks_exchanged {A} items new start count = grind (arith, common_steps, map-append, take-map, drop-map)

pub spare_exchanged : {A : Type 0} (items new : List (Vec RowsView A)) (start count : ℕ) → spare_of_each (replaced items start count new) ≡ replaced (spare_of_each items) start count (spare_of_each new)
spare_exchanged {A} items new start count = grind (arith, common_steps, map-append, take-map, drop-map)
