use Rattle.std.proofs.Common.{◌≡◌, ◌<◌}
use Rattle.textarea_terminal.specs.PaintColors.{distance_between, named_parts, least_distant}
use Rattle.textarea_terminal.proofs.output.colors.nearest_named.Given as goal

abbrev pub invariant-loop-number : goal.invariant-loop-number
invariant-loop-number l =
    (l.nearest ≡ least_distant (λ number. distance_between l.parts (named_parts number)) l.number) × (l.least ≡ distance_between l.parts (named_parts l.nearest)) × (l.nearest < 16)
