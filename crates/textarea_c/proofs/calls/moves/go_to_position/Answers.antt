use Rattle.std.proofs.Common.{ap, refl}
use Rattle.textarea_c.specs.Calls.{with_area}
use Rattle.textarea_c.proofs.calls.moves.go_to_position.Goals as goal

pub returns : goal.returns
returns c = (refl, ap (with_area c.args.editor.now) c.go_to.ensures)
