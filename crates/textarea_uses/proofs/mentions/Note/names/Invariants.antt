use Rattle.std.proofs.Common.{◌≡◌, map, take}
use Rattle.textarea_ranges.specs.Moved.{covered_characters}
use Rattle.textarea_text.specs.Text.{lines, lines_of}
use Rattle.textarea_uses.proofs.mentions.Note.names.Given as goal

abbrev pub invariant-loop-range : goal.invariant-loop-range
invariant-loop-range l = lines_of l.names.items ≡ map (covered_characters (lines l.self.area.document.text)) (take l.range-index l.range-items)
