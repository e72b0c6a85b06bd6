use denote.Shadow.{shadow}
use denote.Text.{Utf8}
use Rattle.std.proofs.Common.{◌≡◌, ◌⊎◌, ◌-◌, ◌≤◌, true}
use Rattle.std.specs.Str.{chars}
use Rattle.textarea_paint.specs.Simple.{begins_apart}
use Rattle.textarea_paint.proofs.UnitLemmas.{GoesOn}
use Rattle.textarea_paint.proofs.paint.units.after_units.Given as goal

abbrev pub invariant-units : goal.invariant-units
invariant-units l = record {
  rest_text : shadow (Utf8 l.rest);
  last_text : shadow (Utf8 l.last);
  few : l.count ≤ l.most;
  rest : GoesOn l.columns l.bytes l.count l.text l.rest;
  last : (l.last ≡ l.text) ⊎ ((begins_apart (chars l.last) ≡ true) × GoesOn l.columns l.bytes l.count l.text l.last);
}

abbrev pub decreases-units : goal.decreases-units
decreases-units l = l.most - l.count
