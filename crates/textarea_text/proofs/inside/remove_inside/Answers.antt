use Rattle.std.proofs.Common.{◌≡◌, ◌∙◌, ◌++◌, [], ap, arith, rules, take, drop, string_bytes}
use Rattle.textarea_text.proofs.Prelude.{on_err_weaker, IsUtf8-nil, IsUtf8-string_bytes, chars-nil}
use Rattle.textarea_text.specs.Text.{characters_of}
use Rattle.textarea_text.proofs.Columns.{offsets_ordered}
use Rattle.textarea_text.proofs.Insides.{always_ok, chars_between, line_changed, offset_of_place, place_unchanged, split_point}
use Rattle.textarea_text.proofs.inside.remove_inside.Goals as goal
use Rattle.textarea_text.proofs.inside.remove_inside.Goals.{After-replace_range}

pub replace_range-requires : goal.replace_range-requires
replace_range-requires c =
    let lines = c.args.lines.now.items in
    let line = c.index_mut-line.result.now in
    let from = offset_of_place lines c.args.start line c.args.offset c.requires.start c.index_mut-line.ensures.value c.requires.offset in
    let to = offset_of_place lines (c.args.start.0, c.args.end_column) line c.args.end_offset c.requires.end c.index_mut-line.ensures.value c.requires.end_offset in
    let begins = split_point (string_bytes line) c.args.start.1 c.args.offset (IsUtf8-string_bytes line) from in
    let ends = split_point (string_bytes line) c.args.end_column c.args.end_offset (IsUtf8-string_bytes line) to in
    record {
      start_le_end = omega (arith, from, to, offsets_ordered (characters_of line) c.args.start.1 c.args.end_column c.requires.ordered);
      in_bounds = omega (arith, ends.0, line.bytes.ok.0);
      not_exhausted = search rules;
      start_boundary = (begins.0, λ _ below lead. begins.1 below lead);
      end_boundary = (ends.0, λ _ below lead. ends.1 below lead);
    }

-- the line's characters after the call
now : (c : After-replace_range) → characters_of c.replace_range.new.self ≡ take c.args.start.1 (characters_of c.index_mut-line.result.now) ++ ([] ++ drop c.args.end_column (characters_of c.index_mut-line.result.now))
now c =
    let line = c.index_mut-line.result.now in
    let new = c.replace_range.new.self in
    let cs = characters_of line in
    let column = c.args.start.1 in
    let later = c.args.end_column in
    let at = offset_of_place c.args.lines.now.items c.args.start line c.args.offset c.requires.start c.index_mut-line.ensures.value c.requires.offset in
    let after = offset_of_place c.args.lines.now.items (c.args.start.0, later) line c.args.end_offset c.requires.end c.index_mut-line.ensures.value c.requires.end_offset in
    let bytes = always_ok c.replace_range.result _ c.replace_range.ensures.bytes (on_err_weaker c.replace_range.result (λ full. omega (arith, full, line.bytes.ok.1)) c.replace_range.ensures.full) in
    chars_between (string_bytes line) [] (string_bytes new) column later c.args.offset c.args.end_offset (IsUtf8-string_bytes line) IsUtf8-nil (IsUtf8-string_bytes new) at after bytes
    ∙ ap (λ t. take column cs ++ (t ++ drop later cs)) chars-nil

pub returns-clause-text : goal.returns-clause-text
returns-clause-text c =
    line_changed _ _ _ _ _ [] c.requires.start c.requires.end c.index_mut-line.ensures.value (now (goal.at.returns-clause-text c).After-replace_range)

pub returns-clause-start : goal.returns-clause-start
returns-clause-start c =
    (place_unchanged _ _ _ _ c.args.end_column [] _ c.requires.start c.index_mut-line.ensures.value c.requires.offset (now (goal.at.returns-clause-start c).After-replace_range)).0

pub returns-clause-offset : goal.returns-clause-offset
returns-clause-offset c =
    (place_unchanged _ _ _ _ c.args.end_column [] _ c.requires.start c.index_mut-line.ensures.value c.requires.offset (now (goal.at.returns-clause-offset c).After-replace_range)).1
