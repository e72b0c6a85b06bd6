use Rattle.std.proofs.Common.{inl, inr}
use Rattle.tui_textarea.specs.Input.{asked_by}
use Rattle.gallery.proofs.Tokens.{whole_over}
use Rattle.gallery.proofs.program.mentions.edit.Goals as goal

pub returns-in_err-input : goal.returns-in_err-input
returns-in_err-input c whole =
    let old = c.args.area.now in
    let new = c.input.new.self in
    whole_over old new (c.ranges_cover_as_before.ensures old new (asked_by c.args.input) c.is_sound.ensures (inr c.in_err-input.ensures.err)) whole

pub returns : goal.returns
returns c whole =
    let old = c.args.area.now in
    let new = c.input.new.self in
    whole_over old new (c.ranges_cover_as_before.ensures old new (asked_by c.args.input) c.is_sound.ensures (inl c.in_ok-input.ensures.ok)) whole
