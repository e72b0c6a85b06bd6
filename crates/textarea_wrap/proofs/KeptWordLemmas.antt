-- Rows of units before a parting, followed by the rows of what is after it.
use Rattle.std.proofs.Math.Seq.{take-append-add, take-nil}
use Rattle.std.proofs.lemmas.List.{append_cancel_left, take-append-le}
use Rattle.textarea_wrap.proofs.Prelude.{cases_lt, concat-append, flat_map-append, take-append-drop}
use Rattle.std.proofs.Common.{◌≡◌, ℕ, ◌+◌, ◌-◌, ◌<◌, ◌≤◌, List, [], ◌∷◌, ◌++◌, length, take, drop, refl, sym, ap, ap₂, subst, ◌∙◌, ⊎_elim, append_assoc, append-nil, length-append, length-drop, arith}
use Rattle.textarea_wrap.specs.Prelude.{AreBlocks, IsBlock, IsWordWrapping, Stretch, UnitBlock, concat, flat_map, line_units, rows_of, shared, split, units_of}
use Rattle.textarea_util.proofs.Alls.{all_split}
use Rattle.textarea_wrap.proofs.FewestLemmas.{fronts}
use Rattle.textarea_wrap.proofs.KeptGlyphLemmas.{AreSome, none_left}
use Rattle.textarea_wrap.proofs.RowLemmas.{AreNonempty-word_segments, AreSegments, AreSegments-block, AreSegments-blocks, IsSegment}

abbrev bytes_in : Stretch → ℕ
bytes_in s = length (concat s)

bytes-append : (a b : Stretch) → bytes_in (a ++ b) ≡ bytes_in a + bytes_in b
bytes-append a b = ap length (concat-append a b) ∙ length-append (concat a) (concat b)

some_bytes : (e : Stretch) → AreSome e → 0 < length e → 0 < bytes_in e
some_bytes [] some h = h
some_bytes (p ∷ e) some h = let first = some.0 in omega (arith, length-append p (concat e))

-- fewer segments have fewer bytes
fewer : (k : ℕ) (xs : Stretch) → AreSome xs → k < length xs → bytes_in (take k xs) < bytes_in xs
fewer k xs some h =
    let whole : bytes_in (take k xs) + bytes_in (drop k xs) ≡ bytes_in xs = sym (bytes-append (take k xs) (drop k xs)) ∙ ap bytes_in (take-append-drop k xs) in
    let parts = all_split (λ p. 0 < length p) (take k xs) (drop k xs) (subst AreSome (sym (take-append-drop k xs)) some) in
    let rest = some_bytes (drop k xs) parts.1 (omega (arith, length-drop k xs)) in
    omega (arith, whole, rest)

module _ (t w : ℕ) where
  AreBlocks-front : (a b : List UnitBlock) (later : Stretch) → AreBlocks t w (a ++ b) later → AreBlocks t w a (flat_map units_of b ++ later)
  AreBlocks-front [] b later h = tt
  AreBlocks-front (block ∷ a) b later h =
      let parts : flat_map units_of (a ++ b) ++ later ≡ flat_map units_of a ++ (flat_map units_of b ++ later) =
      ap (λ s. s ++ later) (flat_map-append units_of a b) ∙ append_assoc (flat_map units_of a) (flat_map units_of b) later in
      (subst (IsBlock t w block) parts h.0, AreBlocks-front a b later h.1)

  AreBlocks-join : (a b : List UnitBlock) (later : Stretch) → AreBlocks t w a (flat_map units_of b ++ later) → AreBlocks t w b later → AreBlocks t w (a ++ b) later
  AreBlocks-join [] b later h k = k
  AreBlocks-join (block ∷ a) b later h k =
      let parts : flat_map units_of a ++ (flat_map units_of b ++ later) ≡ flat_map units_of (a ++ b) ++ later =
      sym (ap (λ s. s ++ later) (flat_map-append units_of a b) ∙ append_assoc (flat_map units_of a) (flat_map units_of b) later) in
      (subst (IsBlock t w block) parts h.0, AreBlocks-join a b later h.1 k)

  -- a block reads only the first two units after it
  block_reads : (block : UnitBlock) (between : Stretch) (m n : List ℕ) (x y : Stretch) → IsBlock t w block (between ++ m ∷ (n ∷ x)) → IsBlock t w block (between ++ m ∷ (n ∷ y))
  block_reads (shared stretch) [] m n x y h = (record { front = h.0.front; last = h.0.last; stretch_is = h.0.stretch_is; fits = h.0.fits }, h.1)
  block_reads (shared stretch) (c ∷ []) m n x y h = (record { front = h.0.front; last = h.0.last; stretch_is = h.0.stretch_is; fits = h.0.fits }, h.1)
  block_reads (shared stretch) (c ∷ (e ∷ between)) m n x y h = (record { front = h.0.front; last = h.0.last; stretch_is = h.0.stretch_is; fits = h.0.fits }, h.1)
  block_reads (split unit rows) between m n x y h = h

  blocks_read : (a : List UnitBlock) (m n : List ℕ) (x y : Stretch) → AreBlocks t w a (m ∷ (n ∷ x)) → AreBlocks t w a (m ∷ (n ∷ y))
  blocks_read [] m n x y h = tt
  blocks_read (block ∷ a) m n x y h = (block_reads block (flat_map units_of a) m n x y h.0, blocks_read a m n x y h.1)

  -- The blocks of the first rows, whose units are `front`, and the others.
  record AreParted (blocks : List UnitBlock) (k : ℕ) (front back : Stretch) : Type 0 where
    kept : List UnitBlock
    left : List UnitBlock
    blocks_are : kept ++ left ≡ blocks
    front_is : flat_map units_of kept ≡ front
    back_is : flat_map units_of left ≡ back
    rows_are : flat_map rows_of kept ≡ take k (flat_map rows_of blocks)

  -- the first rows include all rows of the first block, and go on in the others
  further : (block : UnitBlock) (blocks : List UnitBlock) (k : ℕ) (e back : Stretch) → length (rows_of block) ≤ k →
      AreParted blocks (k - length (rows_of block)) e back → AreParted (block ∷ blocks) k (units_of block ++ e) back
  further block blocks k e back whole rest =
      let more : length (rows_of block) + (k - length (rows_of block)) ≡ k = omega arith in
      record {
        kept = block ∷ rest.kept;
        left = rest.left;
        blocks_are = ap (λ b. block ∷ b) rest.blocks_are;
        front_is = ap (λ u. units_of block ++ u) rest.front_is;
        back_is = rest.back_is;
        rows_are = ap (λ r. rows_of block ++ r) rest.rows_are ∙ sym (take-append-add (rows_of block) (flat_map rows_of blocks) (k - length (rows_of block)))
            ∙ ap (λ n. take n (rows_of block ++ flat_map rows_of blocks)) more;
      }

  -- the rows of a block that is kept only in part are fewer bytes than its units
  part_bytes : (rows others : Stretch) (k : ℕ) → AreSome rows → k < length rows → bytes_in (take k (rows ++ others)) < bytes_in rows
  part_bytes rows others k some h = subst (λ r. bytes_in r < bytes_in rows) (sym (take-append-le k rows others (omega arith))) (fewer k rows some h)

  whole_bytes : (rows others : Stretch) (k : ℕ) → length rows ≤ k → bytes_in (take k (rows ++ others)) ≡ bytes_in rows + bytes_in (take (k - length rows) others)
  whole_bytes rows others k h =
      let more : length rows + (k - length rows) ≡ k = omega arith in
      ap (λ n. bytes_in (take n (rows ++ others))) (sym more) ∙ ap bytes_in (take-append-add rows others (k - length rows)) ∙ bytes-append rows (take (k - length rows) others)

  -- the units of the first rows don't end inside the units of a block
  not_inside : (block : UnitBlock) (later : Stretch) (p q : List ℕ) (front e : Stretch) (others : Stretch) (k : ℕ) → IsBlock t w block later → AreSegments (units_of block) → AreSome (p ∷ front) → AreSome (q ∷ e) →
      units_of block ≡ (p ∷ front) ++ q ∷ e → bytes_in (take k (rows_of block ++ others)) ≡ bytes_in (p ∷ front) → ⊥
  not_inside (split unit rows) later p q front e others k is segs some more units bytes = omega (arith, ap length units, length-append (p ∷ front) (q ∷ e))
  not_inside (shared stretch) later p q front e others k is segs some more units bytes =
      let rows = AreSegments-block t w (shared stretch) later is segs in
      let size : bytes_in (rows_of (shared stretch)) ≡ bytes_in (p ∷ front) + bytes_in (q ∷ e) = ap length rows.1 ∙ ap bytes_in units ∙ bytes-append (p ∷ front) (q ∷ e) in
      let here = some_bytes (p ∷ front) some (omega arith) in
      let there = some_bytes (q ∷ e) more (omega arith) in
      ⊎_elim
      (λ (under : k < 1).
      let zero_rows : k ≡ 0 = omega arith in
      let none : take k (rows_of (shared stretch) ++ others) ≡ [] = ap (λ n. take n (rows_of (shared stretch) ++ others)) zero_rows in
      omega (arith, ap bytes_in none, bytes, here))
      (λ (over : 1 ≤ k). omega (arith, whole_bytes (rows_of (shared stretch)) others k over, size, bytes, there))
      (cases_lt k 1)

  parted : (blocks : List UnitBlock) (later front back : Stretch) (k : ℕ) → AreBlocks t w blocks later → AreSegments (flat_map units_of blocks) → flat_map units_of blocks ≡ front ++ back →
      bytes_in (take k (flat_map rows_of blocks)) ≡ bytes_in front → AreParted blocks k front back
  parted [] later [] back k are segs same bytes =
      record { kept = []; left = []; blocks_are = refl; front_is = refl; back_is = same; rows_are = sym (take-nil k) }
  parted [] later (p ∷ front) back k are segs same bytes = absurd cc
  parted (block ∷ blocks) later [] back k are segs same bytes =
      let rows = flat_map rows_of (block ∷ blocks) in
      let some = AreNonempty-word_segments rows (AreSegments-blocks t w (block ∷ blocks) later are segs).0 in
      let first = all_split (λ p. 0 < length p) (take k rows) (drop k rows) (subst AreSome (sym (take-append-drop k rows)) some) in
      record { kept = []; left = block ∷ blocks; blocks_are = refl; front_is = refl; back_is = same; rows_are = sym (none_left (take k rows) first.0 bytes) }
  parted (block ∷ blocks) later (p ∷ front) back k are segs same bytes =
      let here = all_split IsSegment (units_of block) (flat_map units_of blocks) segs in
      let rows = AreSegments-block t w block (flat_map units_of blocks ++ later) are.0 here.0 in
      let all = AreNonempty-word_segments ((p ∷ front) ++ back) (subst AreSegments same segs) in
      let others = flat_map rows_of blocks in
      let size : bytes_in (rows_of block) ≡ bytes_in (units_of block) = ap length rows.1 in
      let reach : (e : Stretch) → (p ∷ front) ≡ units_of block ++ e → flat_map units_of blocks ≡ e ++ back → AreParted (block ∷ blocks) k (p ∷ front) back = λ e front_is rest_is.
      let sizes : bytes_in (p ∷ front) ≡ bytes_in (units_of block) + bytes_in e = ap bytes_in front_is ∙ bytes-append (units_of block) e in
      ⊎_elim
      (λ (under : k < length (rows_of block)). absurd (omega (arith, part_bytes (rows_of block) others k (AreNonempty-word_segments (rows_of block) rows.0) under, size, sizes, bytes)))
      (λ (over : length (rows_of block) ≤ k).
      let left : bytes_in (take (k - length (rows_of block)) others) ≡ bytes_in e = omega (arith, whole_bytes (rows_of block) others k over, size, sizes, bytes) in
      subst (λ f. AreParted (block ∷ blocks) k f back) (sym front_is)
      (further block blocks k e back over (parted blocks later e back (k - length (rows_of block)) are.1 here.1 rest_is left)))
      (cases_lt k (length (rows_of block))) in
      ⊎_elim
      (λ r. reach r.0 r.1 r.2)
      (λ r. over_end r.0 r.1 r.2 reach are.0 here.0 all)
      (fronts (units_of block) (flat_map units_of blocks) (p ∷ front) back same)
    where
      over_end : (e : Stretch) → units_of block ≡ (p ∷ front) ++ e → back ≡ e ++ flat_map units_of blocks →
          ((e : Stretch) → (p ∷ front) ≡ units_of block ++ e → flat_map units_of blocks ≡ e ++ back → AreParted (block ∷ blocks) k (p ∷ front) back) →
          IsBlock t w block (flat_map units_of blocks ++ later) → AreSegments (units_of block) → AreSome ((p ∷ front) ++ back) → AreParted (block ∷ blocks) k (p ∷ front) back
      over_end [] units_are back_are reach is segs_here all = reach [] (sym (append-nil (units_of block) ∙ units_are ∙ append-nil (p ∷ front))) (sym back_are)
      over_end (q ∷ e) units_are back_are reach is segs_here all =
          let parts = all_split (λ x. 0 < length x) (p ∷ front) back all in
          let rest = all_split (λ x. 0 < length x) (q ∷ e) (flat_map units_of blocks) (subst AreSome back_are parts.1) in
          absurd (not_inside block (flat_map units_of blocks ++ later) p q front e (flat_map rows_of blocks) k is segs_here parts.0 rest.0 units_are bytes)

  -- The first rows of an old line, which have the units `front`, and then the rows of what is after
  -- them in a new line. Both lines go on with the units `m` and `n`.
  pub IsWordWrapping-kept : (old line tail : List ℕ) (texts others : List (List ℕ)) (front x y : Stretch) (m n : List ℕ) (k : ℕ) →
      IsWordWrapping t w old texts → IsWordWrapping t w tail others →
      line_units old ≡ front ++ m ∷ (n ∷ x) → line_units line ≡ front ++ m ∷ (n ∷ y) → line_units tail ≡ m ∷ (n ∷ y) → AreSegments (line_units old) →
      length (concat (take k texts)) ≡ length (concat front) → IsWordWrapping t w line (take k texts ++ others)
  IsWordWrapping-kept old line tail texts others front x y m n k was rest old_is line_is tail_is segs bytes =
      let p = parted was.blocks [] front (m ∷ (n ∷ x)) k was.wrapped (subst AreSegments (sym was.whole) segs) (was.whole ∙ old_is)
      (ap (λ r. length (concat (take k r))) (sym was.rows_are) ∙ bytes) in
      let wrapped : AreBlocks t w p.kept (flat_map units_of p.left ++ []) = AreBlocks-front p.kept p.left [] (subst (λ b. AreBlocks t w b []) (sym p.blocks_are) was.wrapped) in
      let reads : AreBlocks t w p.kept (m ∷ (n ∷ (y ++ []))) =
      blocks_read p.kept m n (x ++ []) (y ++ []) (subst (λ s. AreBlocks t w p.kept (s ++ [])) p.back_is wrapped) in
      let after : flat_map units_of rest.blocks ≡ m ∷ (n ∷ y) = rest.whole ∙ tail_is in
      record {
        blocks = p.kept ++ rest.blocks;
        whole = flat_map-append units_of p.kept rest.blocks ∙ ap₂ ◌++◌ p.front_is after ∙ sym line_is;
        wrapped = AreBlocks-join p.kept rest.blocks [] (subst (λ s. AreBlocks t w p.kept (s ++ [])) (sym after) reads) rest.wrapped;
        rows_are = ap₂ ◌++◌ (ap (take k) was.rows_are ∙ sym p.rows_are) rest.rows_are ∙ sym (flat_map-append rows_of p.kept rest.blocks);
      }

  AreBlocks-back : (a b : List UnitBlock) (later : Stretch) → AreBlocks t w (a ++ b) later → AreBlocks t w b later
  AreBlocks-back [] b later h = h
  AreBlocks-back (block ∷ a) b later h = AreBlocks-back a b later h.1

  -- the other rows are those of what is after the first ones
  pub IsWordWrapping-rest : (old tail : List ℕ) (texts : List (List ℕ)) (front : Stretch) (k : ℕ) → IsWordWrapping t w old texts → line_units old ≡ front ++ line_units tail →
      AreSegments (line_units old) → length (concat (take k texts)) ≡ length (concat front) → IsWordWrapping t w tail (drop k texts)
  IsWordWrapping-rest old tail texts front k was old_is segs bytes =
      let p = parted was.blocks [] front (line_units tail) k was.wrapped (subst AreSegments (sym was.whole) segs) (was.whole ∙ old_is)
      (ap (λ r. length (concat (take k r))) (sym was.rows_are) ∙ bytes) in
      let rows = flat_map rows_of was.blocks in
      let split_rows : take k rows ++ drop k rows ≡ take k rows ++ flat_map rows_of p.left =
      take-append-drop k rows ∙ ap (flat_map rows_of) (sym p.blocks_are) ∙ flat_map-append rows_of p.kept p.left ∙ ap (λ r. r ++ flat_map rows_of p.left) p.rows_are in
      record {
        blocks = p.left;
        whole = p.back_is;
        wrapped = AreBlocks-back p.kept p.left [] (subst (λ b. AreBlocks t w b []) (sym p.blocks_are) was.wrapped);
        rows_are = ap (drop k) was.rows_are ∙ append_cancel_left (take k rows) (drop k rows) (flat_map rows_of p.left) split_rows;
      }
