use Rattle.std.proofs.Common.{◌≡◌, [], All, IsCharBoundary}
use Rattle.textarea_highlight.specs.Borders.{MarkNothing, match_borders}
use Rattle.textarea_highlight.specs.declared.highlight.borders.Border.{Border}
use Rattle.textarea_highlight.proofs.highlight.borders.borders_of_matches.Given as goal

abbrev pub invariant-loop-found : goal.invariant-loop-found
invariant-loop-found g l = record {
  can : (goal.iterator-loop-found g).can_next l.found-iterator;
  finite : (goal.iterator-loop-found g).is_finite l.found-iterator;
  borders : l.borders.items ≡ match_borders l.row l.yielded l.style;
  nothing : MarkNothing (goal.iterator-loop-found g).next_gives l.fn.matches l.row → l.borders.items ≡ [];
  placed : All (λ (border : Border). IsCharBoundary l.row border.offset) l.borders.items;
}
