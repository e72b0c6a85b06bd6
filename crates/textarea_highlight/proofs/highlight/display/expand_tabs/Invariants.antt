use Rattle.std.proofs.Common.{◌≡◌, ◌+◌, ◌*◌, ◌≤◌, ◌++◌, length, drop, string_bytes, encode_utf8_all}
use Rattle.std.specs.Str.{chars}
use Rattle.textarea_highlight.specs.Display.{with_spaces}
use Rattle.textarea_highlight.proofs.highlight.display.expand_tabs.Given as goal

abbrev pub invariant-loop-c : goal.invariant-loop-c
invariant-loop-c l =
    (string_bytes l.expanded ++ encode_utf8_all (with_spaces l.tab_len l.at (drop (length l.yielded) (chars l.segment)))
    ≡ encode_utf8_all (with_spaces l.tab_len l.column (chars l.segment)))
    × (l.at ≤ l.column + 255 * length l.yielded)
