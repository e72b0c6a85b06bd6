use Rattle.std.proofs.lemmas.Str.{encodes-chars}
use Rattle.textarea_c_data.proofs.slices.copied_text_at.Goals as goal

pub returns-clause-needed : goal.returns-clause-needed
returns-clause-needed c = rw (encodes-chars c.args.text.now c.utf8.text) (cc)

pub returns-clause-out : goal.returns-clause-out
returns-clause-out c = rw (encodes-chars c.args.text.now c.utf8.text) (cc)
