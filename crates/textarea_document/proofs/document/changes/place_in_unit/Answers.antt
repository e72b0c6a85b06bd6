use Rattle.std.proofs.Common.{◌∙◌, ap, arith, length, sym, take}
use Rattle.textarea_document.specs.Prelude.{Bytes, ChangeUnit, Utf16, lines_of, place_in_unit, unit_count}
use Rattle.textarea_text.proofs.StringRows.{row_within}
use Rattle.textarea_document.proofs.UnitCounts.{unit_count-bytes}
use Rattle.textarea_document.proofs.document.changes.place_in_unit.Goals as goal

pub line_of-line-requires : goal.line_of-line-requires
line_of-line-requires c = row_within c.args.lines.now c.args.place c.requires

pub byte_offset-requires : goal.byte_offset-requires
byte_offset-requires c = omega (arith, ap length c.line_of-line.ensures.characters, c.requires.1)

pub utf16_offset-requires-clause-within : goal.utf16_offset-requires-clause-within
utf16_offset-requires-clause-within c = omega (arith, ap length c.line_of-line.ensures.characters, c.requires.1)

pub utf16_offset-requires-clause-bound : goal.utf16_offset-requires-clause-bound
utf16_offset-requires-clause-bound c = omega (arith, ap length c.line_of-line.ensures.characters, c.line_of-line.ensures.fits)

pub returns-in-Bytes : goal.returns-in-Bytes
returns-in-Bytes c =
    ap (λ n. (c.args.place.0, n))
    (c.byte_offset.ensures ∙ unit_count-bytes _ ∙ ap (λ line. unit_count Bytes (take c.args.place.1 line)) c.line_of-line.ensures.characters)
    ∙ ap (λ (unit : ChangeUnit). place_in_unit unit (lines_of c.args.lines.now) c.args.place) (sym c.in-Bytes.is)

pub returns-in-Utf16 : goal.returns-in-Utf16
returns-in-Utf16 c =
    ap (λ n. (c.args.place.0, n)) (c.utf16_offset.ensures ∙ ap (λ line. unit_count Utf16 (take c.args.place.1 line)) c.line_of-line.ensures.characters)
    ∙ ap (λ (unit : ChangeUnit). place_in_unit unit (lines_of c.args.lines.now) c.args.place) (sym c.in-Utf16.is)
