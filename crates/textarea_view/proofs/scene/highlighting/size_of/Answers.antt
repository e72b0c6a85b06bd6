use Rattle.std.proofs.Common.{length, sym, ap}
use Rattle.std.proofs.lemmas.Str.{encodes-chars}
use Rattle.textarea_view.proofs.scene.highlighting.size_of.Goals as goal

pub returns : goal.returns
returns c = ap length (sym (encodes-chars c.args.text.now c.utf8.text))
