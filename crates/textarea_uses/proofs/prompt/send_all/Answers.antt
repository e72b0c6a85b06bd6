use Rattle.std.proofs.Common.{◌∙◌, ◌++◌, ◌+◌, List, ap, drop, sym}
use Rattle.std.proofs.lemmas.List.{at_drop_more}
use Rattle.std.specs.Option.{option_to_list}
use Rattle.textarea_data.specs.declared.input.Key.{Key}
use Rattle.textarea_text.specs.Text.{lines_of}
use Rattle.textarea_uses.specs.Prompt.{sent_after}
use Rattle.textarea_uses.proofs.prompt.send_all.Goals as goal

pub loop-key-preserved : goal.loop-key-preserved
loop-key-preserved c h =
    let before = c.loop-key.invariant h in
    let did = c.in_ok-sent.ensures.ok before.0 before.1 in
    let texts = lines_of c.loop-key.texts.items in (
      _,
      did.1,
      ap (sent_after (drop (c.loop-key.key-index + 1) c.args.keys.now) _) (c.in_ok-push_some.ensures ∙ ap (λ sent. texts ++ option_to_list sent) did.0)
          ∙ sym (at_drop_more (λ (rest : List Key). sent_after rest before.0 texts) c.args.keys.now c.loop-key.key-index _ c.loop-key-test.true) ∙ before.2,
    )
