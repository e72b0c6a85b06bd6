use Rattle.std.proofs.Common.{◌≡◌, ℕ, [], List, None, drop}
use Rattle.textarea_text.specs.Text.{lines_of}
use Rattle.textarea_uses.specs.Prompt.{sent_after}
use Rattle.tui_textarea.specs.TypedLine.{IsTypedLine}
use Rattle.textarea_uses.proofs.prompt.send_all.Given as goal

abbrev pub invariant-loop-key : goal.invariant-loop-key
invariant-loop-key l =
    IsTypedLine l.initial.prompt.area None []
    → (typed : List ℕ) × IsTypedLine l.prompt.area None typed × (sent_after (drop l.key-index l.keys) typed (lines_of l.texts.items) ≡ sent_after l.keys [] (lines_of l.initial.texts.items))
