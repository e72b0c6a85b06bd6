use Rattle.std.proofs.Common.{ap, ◌∙◌}
use Rattle.textarea_text.specs.Fragment.{fragment_text}
use Rattle.tui_textarea.proofs.TypedLines.{character_removed, character_typed, text_sent, typing_failed, written_characters}
use Rattle.tui_textarea.proofs.laws.typed_line_stays.Goals as goal

pub returns : goal.returns
returns c = record {
  typed = character_typed;
  removed = character_removed;
  cleared = text_sent;
  out_of_memory = typing_failed;
  written = λ state maximum line h. ap fragment_text h.text ∙ written_characters line;
}
