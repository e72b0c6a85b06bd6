use Rattle.std.proofs.Common.{◌≡◌, ◌∙◌, ◌++◌, ap, arith, sym, take, drop, string_bytes}
use Rattle.textarea_text.proofs.Prelude.{common_steps, on_err_weaker, IsUtf8-string_bytes}
use Rattle.textarea_text.specs.Prelude.{chars, characters_of}
use Rattle.textarea_text.proofs.Columns.{offset_in}
use Rattle.textarea_text.proofs.Insides.{always_ok, chars_between, line_changed, offset_of_place, place_unchanged, split_point}
use Rattle.textarea_text.proofs.inside.insert_inside.Goals as goal
use Rattle.textarea_text.proofs.inside.insert_inside.Goals.{After-insert_str}

pub insert_str-requires : goal.insert_str-requires
insert_str-requires c =
    let line = c.make_room.new.line in
    let here = offset_of_place c.args.lines.now.items c.args.place c.index_mut-line.result.now c.args.offset c.requires.place c.index_mut-line.ensures.value c.requires.offset in
    let at = split_point (string_bytes line) c.args.place.1 c.args.offset (IsUtf8-string_bytes line) (here ∙ ap (λ t. offset_in (chars t) c.args.place.1) (sym c.in_ok-make_room.ensures.bytes)) in
    (at.0, λ _ below lead. at.1 below lead)

-- the line's characters after the call
now : (c : After-insert_str) → characters_of c.insert_str.new.self ≡ take c.args.place.1 (characters_of c.index_mut-line.result.now) ++ (chars c.args.text.now ++ drop c.args.place.1 (characters_of c.index_mut-line.result.now))
now c =
    let line = c.index_mut-line.result.now in
    let here = offset_of_place c.args.lines.now.items c.args.place line c.args.offset c.requires.place c.index_mut-line.ensures.value c.requires.offset in
    grind (arith, common_steps, here, offset_in, always_ok, on_err_weaker, chars_between, IsUtf8-string_bytes)

pub returns-clause-ok : goal.returns-clause-ok
returns-clause-ok c =
    line_changed _ _ _ _ _ (chars c.args.text.now) c.requires.place c.requires.place c.index_mut-line.ensures.value (now (goal.at.returns-clause-ok c).After-insert_str)

pub returns-clause-place : goal.returns-clause-place
returns-clause-place c =
    (place_unchanged _ _ _ _ _ (chars c.args.text.now) _ c.requires.place c.index_mut-line.ensures.value c.requires.offset (now (goal.at.returns-clause-place c).After-insert_str)).0

pub returns-clause-offset : goal.returns-clause-offset
returns-clause-offset c =
    (place_unchanged _ _ _ _ _ (chars c.args.text.now) _ c.requires.place c.index_mut-line.ensures.value c.requires.offset (now (goal.at.returns-clause-offset c).After-insert_str)).1
