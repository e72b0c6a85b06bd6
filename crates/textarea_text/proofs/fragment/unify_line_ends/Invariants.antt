use Rattle.std.proofs.Common.{◌≡◌, ◌++◌, length, string_bytes}
use denote.Text.{Utf8}
use denote.Shadow.{shadow}
use Rattle.textarea_text.specs.Prelude.{chars, unified}
use Rattle.textarea_text.proofs.fragment.unify_line_ends.Given as goal

-- the text so far and what the rest gives are the whole
abbrev pub invariant-loop-before : goal.invariant-loop-before
invariant-loop-before l = shadow (Utf8 l.rest) × (chars (string_bytes l.unified) ++ unified (chars l.rest) ≡ unified (chars l.text))

abbrev pub decreases-loop-before : goal.decreases-loop-before
decreases-loop-before l = length l.rest
