-- Which of the matches starts at a position.
use Rattle.std.specs.Prelude.{ℕ, List, Option}
use Rattle.std.specs.List.{position_from}
use Rattle.textarea_text.specs.Place.{is_same_place}

-- the number, counted from 0, of the first start at the cursor, if one is there
abbrev pub index_at : ℕ × ℕ → List (ℕ × ℕ) → Option ℕ
index_at cursor starts = position_from (λ place. is_same_place cursor place) 0 starts
