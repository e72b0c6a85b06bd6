use Rattle.std.proofs.Common.{◌∙◌, None, ap, map-id, sym}
use Rattle.std.proofs.lemmas.Iterator.{YieldsList-from_chars}
use Rattle.std.proofs.lemmas.Iterator.Consumers.{YieldsList-end}
use Rattle.std.specs.List.{last_or}
use Rattle.textarea_search.proofs.PlainTextLemmas.{last_is}
use Rattle.textarea_search.proofs.search.plain_text.last_character.Goals as goal

pub loop-c-preserved : goal.loop-c-preserved
loop-c-preserved c = sym (last_is None c.loop-c.yielded c.in-Some.c)

pub returns : goal.returns
returns c =
    let done = YieldsList-end (YieldsList-from_chars c.args.text.now c.utf8.text cc) c.loop-c.yielded _ c.loop-c.yielded_by _ _ c.in-None.is c.next.ensures.steps in
    c.loop-c.invariant ∙ ap (last_or None) (sym (map-id c.loop-c.yielded) ∙ done.0)
