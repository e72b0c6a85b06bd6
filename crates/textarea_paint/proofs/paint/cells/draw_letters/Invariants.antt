use denote.Shadow.{shadow}
use denote.Text.{Utf8}
use Rattle.std.proofs.Common.{length}
use Rattle.std.specs.Str.{chars}
use Rattle.textarea_paint.specs.Clusters.{letter_clusters}
use Rattle.textarea_paint.specs.Letters.{AreLetters}
use Rattle.textarea_paint.specs.Walk.{IsPartlyDrawn}
use Rattle.textarea_paint.proofs.paint.cells.draw_letters.Given as goal

abbrev pub invariant-letters : goal.invariant-letters
invariant-letters l = record {
  text : shadow (Utf8 l.rest);
  letters : AreLetters l.columns l.rest;
  walk : IsPartlyDrawn l.cells l.fn.pen l.pen (letter_clusters l.style l.fn.letters.text.now) (letter_clusters l.style l.rest) l.fn.buffer l.buffer;
}

abbrev pub decreases-letters : goal.decreases-letters
decreases-letters l = length (chars l.rest)
