use Rattle.std.proofs.Common.{◌≡◌, ◌∙◌, ℕ, List, ap, ap₂, drop, encode_utf8_all, string_bytes, sym, take}
use Rattle.std.specs.Cmp.Lexicographic.{same_text}
use Rattle.std.specs.Str.{chars}
use Rattle.std.proofs.lemmas.Str.{IsUtf8-string_bytes}
use Rattle.textarea_text.specs.Place.{line_of}
use Rattle.textarea_text.specs.Text.{lines}
use Rattle.textarea_text.proofs.Columns.{chars_from_bytes}
use Rattle.textarea_ranges.specs.Moved.{covered_characters}
use Rattle.gallery.proofs.program.mentions.covers.Goals as goal

pub returns : goal.returns
returns c = λ is.
    let range = c.args.range in
    let rows = lines c.args.area.now.document.text in
    let found = string_bytes c.in_ok-found.found in
    let of_row : chars c.line_of-line.result.now ≡ line_of rows range.row = c.line_of-line.ensures.characters ∙ ap (λ all. line_of all range.row) c.lines-lines.ensures.lines in
    let bytes = ap₂ (λ (count : ℕ) (cs : List ℕ). encode_utf8_all (take count (drop range.start_col cs))) c.saturating_sub-count.ensures of_row in
    let characters : chars found ≡ covered_characters rows range = chars_from_bytes found (covered_characters rows range) (IsUtf8-string_bytes c.in_ok-found.found) (c.in_ok-found.ensures ∙ bytes) in
    let same : found ≡ c.args.name.now = sym c.as_str.ensures.value ∙ same_text c.as_str.result.now c.args.name.now (sym is ∙ c.eq.ensures) in
    sym characters ∙ ap chars same
