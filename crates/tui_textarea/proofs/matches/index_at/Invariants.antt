use Rattle.std.proofs.Common.{◌≡◌, drop}
use Rattle.std.specs.List.{position_from}
use Rattle.textarea_text.specs.Place.{is_same_place}
use Rattle.tui_textarea.proofs.matches.index_at.Given as goal

abbrev pub invariant-loop-place : goal.invariant-loop-place
invariant-loop-place l =
    (l.index ≡ l.place-index)
    × (position_from (λ place. is_same_place l.cursor place) l.index (drop l.place-index l.starts) ≡ position_from (λ place. is_same_place l.cursor place) 0 l.starts)
