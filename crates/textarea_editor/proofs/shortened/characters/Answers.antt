use Rattle.std.proofs.Common.{◌∙◌, ◌∷◌, [], ap}
use Rattle.std.proofs.lemmas.List.{nil_from_length}
use Rattle.std.proofs.lemmas.Str.{chars-nil, chars_past_char, IsUtf8-past_char}
use Rattle.std.specs.Str.{chars}
use Rattle.std.specs.Str.Iter.{chars_rest}
use Rattle.textarea_editor.proofs.Texts.{moved_on, none_left}
use Rattle.textarea_editor.proofs.shortened.characters.Goals as goal

pub loop-c-preserved : goal.loop-c-preserved
loop-c-preserved c =
    let was = c.loop-c.invariant in
    let step = c.in-Some.ensures.steps.0 in
    let read = chars_past_char _ _ c.in-Some.c was.text step in
    record {
      text = IsUtf8-past_char _ _ c.in-Some.c was.text step;
      left = moved_on c.loop-c.characters.items c.push.new.self.items (c.in-Some.c ∷ []) _ (chars (chars_rest c.next.new.self)) _ c.in_ok-push.ensures.items read was.left;
    }

pub returns : goal.returns
returns c =
    none_left c.loop-c.characters.items _ _ (ap chars (nil_from_length (chars_rest c.loop-c.c-iterator) c.in-None.ensures.steps.0.0) ∙ chars-nil) c.loop-c.invariant.left
