use Rattle.std.proofs.Common.{◌≡◌, ◌∙◌, ℕ, List, ap, ap₂, drop, encode_utf8_all, string_bytes, take}
use Rattle.std.specs.Str.{chars}
use Rattle.std.proofs.lemmas.Result.{IfOk-weaker}
use Rattle.std.proofs.lemmas.Str.{IsUtf8-string_bytes}
use Rattle.textarea_text.specs.Place.{line_of}
use Rattle.textarea_text.specs.Text.{characters_of, lines}
use Rattle.textarea_text.proofs.Columns.{chars_from_bytes}
use Rattle.textarea_ranges.specs.Moved.{covered_characters}
use Rattle.textarea_uses.proofs.mentions.covered.Goals as goal

pub returns : goal.returns
returns c =
    let range = c.args.range in
    let rows = lines c.args.area.now.document.text in
    let of_row : chars c.line_of-line.result.now ≡ line_of rows range.row = c.line_of-line.ensures.characters ∙ ap (λ all. line_of all range.row) c.lines.ensures.lines in
    let bytes = ap₂ (λ (count : ℕ) (cs : List ℕ). encode_utf8_all (take count (drop range.start_col cs))) c.saturating_sub-count.ensures of_row in
    IfOk-weaker c.section.result _ (λ name. characters_of name ≡ covered_characters rows range)
    (λ name is. chars_from_bytes (string_bytes name) (covered_characters rows range) (IsUtf8-string_bytes name) (is ∙ bytes)) c.section.ensures
