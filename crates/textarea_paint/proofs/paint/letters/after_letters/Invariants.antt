use denote.Shadow.{shadow}
use denote.Text.{Utf8}
use Rattle.std.proofs.Common.{◌≡◌, ◌⊎◌, ◌-◌, ◌≤◌, true}
use Rattle.std.specs.Str.{chars}
use Rattle.textarea_paint.specs.Simple.{begins_apart}
use Rattle.textarea_paint.proofs.LetterLemmas.{GoesOn}
use Rattle.textarea_paint.proofs.paint.letters.after_letters.Given as goal

abbrev pub invariant-letters : goal.invariant-letters
invariant-letters l = record {
  rest_text : shadow (Utf8 l.rest);
  last_text : shadow (Utf8 l.last);
  few : l.count ≤ l.most;
  rest : GoesOn l.columns l.count l.text l.rest;
  last : (l.last ≡ l.text) ⊎ ((begins_apart (chars l.last) ≡ true) × GoesOn l.columns l.count l.text l.last);
}

abbrev pub decreases-letters : goal.decreases-letters
decreases-letters l = l.most - l.count
