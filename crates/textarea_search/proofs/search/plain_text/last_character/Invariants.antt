use Rattle.std.proofs.Common.{◌≡◌, None}
use Rattle.std.specs.List.{last_or}
use Rattle.textarea_search.proofs.search.plain_text.last_character.Given as goal

-- the last of the characters so far
abbrev pub invariant-loop-c : goal.invariant-loop-c
invariant-loop-c l = l.last ≡ last_or None l.yielded
