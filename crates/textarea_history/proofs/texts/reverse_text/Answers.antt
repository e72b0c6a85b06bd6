use Rattle.std.proofs.Common.{◌∙◌, ap}
use Rattle.textarea_history.specs.Prelude.{chars, characters_of, chars_rest}
use Rattle.std.proofs.lemmas.Str.{chars-nil}
use Rattle.textarea_text.proofs.StringRows.{characters_of-pushed}
use Rattle.textarea_history.proofs.Runs.{written_none, written_more, written_all}
use Rattle.textarea_history.proofs.texts.reverse_text.Goals as goal

pub loop-c-init : goal.loop-c-init
loop-c-init c =
    written_none c.args.text.now (chars_rest c.into_iter-c-iterator.result.iter) (characters_of c.new-result_text.result)
    (ap (λ r. chars_rest r.iter) c.into_iter-c-iterator.ensures.into_iter_gives ∙ ap chars_rest c.rev-c-items.ensures.source ∙ c.chars.ensures.rest)
    (ap chars c.new-result_text.ensures.bytes ∙ chars-nil)

pub loop-c-preserved : goal.loop-c-preserved
loop-c-preserved c =
    written_more c.args.text.now (chars_rest c.loop-c.c-iterator.iter) (chars_rest c.next.new.self.iter) (characters_of c.loop-c.result_text) (characters_of c.push.new.self) c.in-Some.c c.loop-c.invariant c.in-Some.ensures.steps
    (characters_of-pushed c.loop-c.result_text c.push.new.self c.in-Some.c c.in_ok-push.ensures.bytes)

pub returns : goal.returns
returns c = written_all c.args.text.now _ (characters_of c.loop-c.result_text) c.utf8.text c.loop-c.invariant c.in-None.ensures.steps.0
