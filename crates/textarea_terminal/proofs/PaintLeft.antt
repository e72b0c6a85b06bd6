-- A frame that is partly painted: the terminal shows the new cells up to an index, and from there
-- on the old ones, except for the blanks of a cluster that was partly printed over.
use Rattle.std.proofs.Common.{◌≡◌, ℕ, ◌+◌, ◌-◌, true, false, ◌⊎◌, inl, inr, ⊎_elim, List, [], ◌∷◌, ◌++◌, length, drop, refl, ap, subst, ◌∙◌, arith}
use Rattle.std.specs.Bool.{MatchBool}
use Rattle.std.proofs.lemmas.Bool.{cases_Bool, and_parts, eqb-true}
use Rattle.textarea_screen.specs.Cell.{CellView}
use Rattle.textarea_terminal.specs.PaintCells.{cluster_columns, is_half, is_plain_half, can_begin, are_whole}
use Rattle.textarea_terminal.specs.Screen.{IsOfFamily, mended, first_of, settled_cells, settled_frame}
use Rattle.textarea_terminal.proofs.PaintFrames.{begins-whole, plain_half-half, columns-some}
use Rattle.textarea_terminal.proofs.SettledLemmas.{Shown, settled-first}

-- the cells are the old ones, but that halves at their beginning have lost their cluster
abbrev pub Damaged : List CellView → List CellView → Type 0
Damaged [] [] = Unit {0}
Damaged (cell ∷ cells) (old ∷ olds) = MatchBool (is_half old) ((is_half cell ≡ false) × Damaged cells olds) ((cell ∷ cells) ≡ (old ∷ olds))
Damaged cells olds = ⊥

-- the cells of a new cluster at their beginning are there, as the terminal shows them, and the
-- others are the old ones, damaged
abbrev pub Ahead : List CellView → List CellView → List CellView → List CellView → Type 0
Ahead [] [] [] [] = Unit {0}
Ahead (cell ∷ cells) (old ∷ olds) (new ∷ news) (shown ∷ more) = MatchBool (is_half new) ((cell ≡ shown) × Ahead cells olds news more) (Damaged (cell ∷ cells) (old ∷ olds))
Ahead cells olds news more = ⊥

pub first-same : {a b : CellView} {xs ys : List CellView} → (a ∷ xs) ≡ (b ∷ ys) → a ≡ b
first-same same = cc

pub rest-same : {a b : CellView} {xs ys : List CellView} → (a ∷ xs) ≡ (b ∷ ys) → xs ≡ ys
rest-same same = cc

module _ (rest : CellView → CellView) (blank : (cell : CellView) → is_half (rest cell) ≡ false) where
  mended-Damaged : (cells : List CellView) → Damaged (mended rest cells) cells
  mended-Damaged [] = tt
  mended-Damaged (cell ∷ cells) =
      ⊎_elim
      (λ is. rw is (rw is (blank cell, mended-Damaged cells)))
      (λ is. rw is (rw is refl))
      (cases_Bool (is_half cell))

  -- a cell that is there where an old one was is no half
  pub Damaged-first : (cell old : CellView) (cells olds : List CellView) → Damaged (cell ∷ cells) (old ∷ olds) → is_half cell ≡ false
  Damaged-first cell old cells olds damaged =
      ⊎_elim
      (λ is. (rw is at damaged).0)
      (λ is. ap is_half (first-same (rw is at damaged)) ∙ is)
      (cases_Bool (is_half old))

  pub Damaged-rest : (cell old : CellView) (cells olds : List CellView) → Damaged (cell ∷ cells) (old ∷ olds) → Damaged cells olds ⊎ (cells ≡ olds)
  Damaged-rest cell old cells olds damaged =
      ⊎_elim
      (λ is. inl (rw is at damaged).1)
      (λ is. inr (rest-same (rw is at damaged)))
      (cases_Bool (is_half old))

  mended-again : (cells olds : List CellView) → Damaged cells olds ⊎ (cells ≡ olds) → Damaged (mended rest cells) olds
  mended-again cells olds (inr same) = subst (λ xs. Damaged (mended rest cells) xs) same (mended-Damaged cells)
  mended-again [] [] (inl damaged) = tt
  mended-again [] (old ∷ olds) (inl damaged) = absurd damaged
  mended-again (cell ∷ cells) [] (inl damaged) = absurd damaged
  mended-again (cell ∷ cells) (old ∷ olds) (inl damaged) = rw (Damaged-first cell old cells olds damaged) damaged

  Ahead-start : (cells : List CellView) (old new shown : CellView) (olds news more : List CellView) → is_half new ≡ false → Damaged cells (old ∷ olds) →
      Ahead cells (old ∷ olds) (new ∷ news) (shown ∷ more)
  Ahead-start [] old new shown olds news more is damaged = absurd damaged
  Ahead-start (cell ∷ cells) old new shown olds news more is damaged = rw is damaged

  -- the cells of a cluster after its first are printed over what was there
  pub Ahead-printed : (shown_as : Shown) (columns index : ℕ) (first cells olds news : List CellView) → are_whole columns index (length first) news ≡ true → length olds ≡ length news →
      Damaged cells olds ⊎ (cells ≡ olds) → Ahead (first ++ mended rest (drop (length first) cells)) olds news (settled_frame shown_as first news)
  Ahead-printed shown_as columns index [] [] [] [] whole long left = tt
  Ahead-printed shown_as columns index [] (cell ∷ cells) [] [] whole long (inl damaged) = absurd damaged
  Ahead-printed shown_as columns index [] (cell ∷ cells) [] [] whole long (inr same) = cc same
  Ahead-printed shown_as columns index [] cells (old ∷ olds) [] whole long left = absurd (omega arith)
  Ahead-printed shown_as columns index [] cells [] (new ∷ news) whole long left = absurd (omega arith)
  Ahead-printed shown_as columns index [] cells (old ∷ olds) (new ∷ news) whole long left =
      let begins = (and_parts (can_begin columns index new) (are_whole columns (index + 1) (cluster_columns new.symbol - 1) news) whole).0 in
      Ahead-start (mended rest cells) old new (first_of new (settled_cells shown_as new)) olds news (settled_frame shown_as (drop 1 (settled_cells shown_as new)) news)
      (begins-whole columns index new begins) (mended-again cells (old ∷ olds) left)
  Ahead-printed shown_as columns index (shown ∷ first) cells olds [] whole long left = absurd (omega (arith, eqb-true (length (shown ∷ first)) 0 whole))
  Ahead-printed shown_as columns index (shown ∷ first) cells [] (new ∷ news) whole long left = absurd (omega arith)
  Ahead-printed shown_as columns index (shown ∷ first) [] (old ∷ olds) (new ∷ news) whole long (inl damaged) = absurd damaged
  Ahead-printed shown_as columns index (shown ∷ first) [] (old ∷ olds) (new ∷ news) whole long (inr same) = cc same
  Ahead-printed shown_as columns index (shown ∷ first) (cell ∷ cells) (old ∷ olds) (new ∷ news) whole long left =
      let components = and_parts (is_plain_half new) (are_whole columns (index + 1) (length first) news) whole in
      let is = plain_half-half new components.0 in
      let after : Damaged cells olds ⊎ (cells ≡ olds) = ⊎_elim (λ damaged. Damaged-rest cell old cells olds damaged) (λ same. inr (rest-same same)) left in
      rw is (refl, Ahead-printed shown_as columns (index + 1) first cells olds news components.1 (omega arith) after)

-- where the old cells are there, and a cluster of both frames has the same cells
pub Ahead-same : (shown_as : Shown) → IsOfFamily shown_as → (columns index : ℕ) (first olds news : List CellView) → are_whole columns index (length first) olds ≡ true →
    are_whole columns index (length first) news ≡ true → length olds ≡ length news → Ahead (settled_frame shown_as first olds) (settled_frame shown_as first olds) news (settled_frame shown_as first news)
Ahead-same shown_as family columns index [] [] [] old_whole new_whole long = tt
Ahead-same shown_as family columns index (shown ∷ first) [] [] old_whole new_whole long = tt
Ahead-same shown_as family columns index first (old ∷ olds) [] old_whole new_whole long = absurd (omega arith)
Ahead-same shown_as family columns index first [] (new ∷ news) old_whole new_whole long = absurd (omega arith)
Ahead-same shown_as family columns index [] (old ∷ olds) (new ∷ news) old_whole new_whole long =
    let old_begins = (and_parts (can_begin columns index old) (are_whole columns (index + 1) (cluster_columns old.symbol - 1) olds) old_whole).0 in
    let new_begins = (and_parts (can_begin columns index new) (are_whole columns (index + 1) (cluster_columns new.symbol - 1) news) new_whole).0 in
    let first = settled-first shown_as old family (columns-some columns index old old_begins) (begins-whole columns index old old_begins) in
    rw (begins-whole columns index new new_begins) (rw first refl)
Ahead-same shown_as family columns index (shown ∷ first) (old ∷ olds) (new ∷ news) old_whole new_whole long =
    let olds_components = and_parts (is_plain_half old) (are_whole columns (index + 1) (length first) olds) old_whole in
    let news_components = and_parts (is_plain_half new) (are_whole columns (index + 1) (length first) news) new_whole in
    rw (plain_half-half new news_components.0)
    (refl, Ahead-same shown_as family columns (index + 1) first olds news olds_components.1 news_components.1 (omega arith))
