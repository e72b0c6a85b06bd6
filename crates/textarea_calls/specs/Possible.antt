-- Which calls can be made.
use Rattle.std.specs.Prelude.{◌<◌, length}
use Rattle.std.specs.Coded.{le_prop, Unit-prop}
use Rattle.textarea_calls.specs.declared.call.Call.{Call}
use Rattle.textarea_calls.specs.declared.call.Call.TheVariants.{SetLines}

-- the call can be made: it sets at least one line, if it sets lines
abbrev pub CanBeMade : Call → Type 0
CanBeMade (SetLines lines cursor) = 0 < length lines.now
CanBeMade call = Unit {0}

pub CanBeMade-prop : (call : Call) → IsProp (CanBeMade call)
CanBeMade-prop (SetLines lines cursor) = le_prop
CanBeMade-prop call = Unit-prop
