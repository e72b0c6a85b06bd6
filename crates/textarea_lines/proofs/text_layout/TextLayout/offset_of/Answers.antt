use Rattle.std.proofs.lemmas.Grind.{common_steps}
use Rattle.std.proofs.Common.{◌≡◌, ◌≤◌, ◌∙◌, ℕ, ap, arith, length, subst, sym}
use Rattle.std.specs.Prelude.{chars, encode_utf8_all, take}
use Rattle.textarea_text.specs.Offset.{offset_at}
use Rattle.textarea_text.specs.Place.{IsPlace, IsPlaceOf}
use Rattle.textarea_text.specs.Text.{lines, lines_of}
use Rattle.textarea_text.proofs.Insides.{column_within, offset_read}
use Rattle.textarea_text.proofs.StringRows.{row_within, rows_place}
use Rattle.textarea_lines.specs.TextLayout.{TextAndLayout}
use Rattle.textarea_lines.proofs.Stores.{lines_stored}
use Rattle.textarea_lines.proofs.text_layout.TextLayout.offset_of.Goals as goal
use Rattle.textarea_lines.proofs.text_layout.TextLayout.offset_of.Goals.{After-as_str-line}

-- the position is one of the stored lines
there : (c : After-as_str-line) → IsPlaceOf (lines_of c.self.inside.lines.items) c.args.place
there c =
    rows_place c.self.inside.lines.items c.args.place c.self.invariant.contents.stored.some (subst (λ (l : TextAndLayout). IsPlace l.text c.args.place) (sym c.self.view_is) c.requires)

column : (c : After-as_str-line) → c.args.place.1 ≤ length (chars c.as_str-line.result.now)
column c =
    omega (arith, column_within c.self.inside.lines.items c.args.place c.index.result.now (there c) c.index.ensures, ap (λ t. length (chars t)) c.as_str-line.ensures.value)

-- the stored lines are those of the text
same : (c : After-as_str-line) → offset_at (lines_of c.self.inside.lines.items) c.args.place ≡ offset_at (lines c.args.self.now.text) c.args.place
same c = grind (arith, common_steps, lines_stored c.self.inside.lines.items c.self.invariant.contents.stored.some)

-- a byte offset that is read from the line
right : (c : After-as_str-line) → (offset : ℕ) → offset ≡ length (encode_utf8_all (take c.args.place.1 (chars c.as_str-line.result.now))) → offset ≡ offset_at (lines c.args.self.now.text) c.args.place
right c offset is =
    offset_read c.self.inside.lines.items c.args.place c.index.result.now c.as_str-line.result.now offset (there c) c.index.ensures c.as_str-line.ensures.value is
    ∙ same c

pub index-requires : goal.index-requires
index-requires c =
    let here = rows_place c.self.inside.lines.items c.args.place c.self.invariant.contents.stored.some (subst (λ (l : TextAndLayout). IsPlace l.text c.args.place) (sym c.self.view_is) c.requires) in
    omega (arith, row_within c.self.inside.lines.items c.args.place here, c.self.inside.lines.ok.0)

pub byte_offset_from-requires-clause-column : goal.byte_offset_from-requires-clause-column
byte_offset_from-requires-clause-column c = column (goal.at.byte_offset_from-requires-clause-column c).After-as_str-line

pub returns-then-is_near : goal.returns-then-is_near
returns-then-is_near c =
    let known = (goal.at.returns-then-is_near c).After-as_str-line in
    right known c.byte_offset_from.result c.byte_offset_from.ensures

pub byte_offset-requires : goal.byte_offset-requires
byte_offset-requires c = column (goal.at.byte_offset-requires c).After-as_str-line

pub returns-then-place-lt-NEARBY : goal.returns-then-place-lt-NEARBY
returns-then-place-lt-NEARBY c =
    let known = (goal.at.returns-then-place-lt-NEARBY c).After-as_str-line in
    right known c.byte_offset.result c.byte_offset.ensures
