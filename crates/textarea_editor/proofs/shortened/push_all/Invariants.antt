use Rattle.std.proofs.Common.{◌≡◌, ◌++◌, take}
use Rattle.textarea_text.specs.Text.{characters_of}
use Rattle.textarea_editor.proofs.shortened.push_all.Given as goal

-- the characters so far are added
abbrev pub invariant-loop-c : goal.invariant-loop-c
invariant-loop-c l = characters_of l.text ≡ characters_of l.initial.text ++ take l.c-index l.characters
