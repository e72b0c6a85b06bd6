use denote.Shadow.{shadow}
use denote.Text.{Utf8}
use Rattle.std.proofs.Common.{length}
use Rattle.textarea_paint.specs.Clusters.{text_clusters}
use Rattle.textarea_paint.specs.Units.{AreUnits}
use Rattle.textarea_paint.specs.Walk.{IsPartlyDrawn}
use Rattle.textarea_paint.proofs.paint.cells.draw_units.Given as goal

abbrev pub invariant-units : goal.invariant-units
invariant-units l = record {
  text : shadow (Utf8 l.rest);
  units : AreUnits l.columns l.bytes l.rest;
  walk : IsPartlyDrawn l.cells l.fn.pen l.pen (text_clusters l.style l.fn.units.text.now) (text_clusters l.style l.rest) l.fn.buffer l.buffer;
}

abbrev pub decreases-units : goal.decreases-units
decreases-units l = length l.rest
