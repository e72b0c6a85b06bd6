use Rattle.std.proofs.Common.{◌++◌, [], ◌∙◌, ap, sym, append_assoc, encode_utf8}
use Rattle.std.proofs.lemmas.Bool.{cond-true, cond-false}
use Rattle.std.proofs.lemmas.List.{append-nil, nil_from_length}
use Rattle.std.proofs.lemmas.Str.{chars-nil, chars_past_char, IsUtf8-past_char}
use Rattle.std.specs.Prelude.{string_bytes}
use Rattle.std.specs.Str.{chars}
use Rattle.std.specs.Str.Iter.{chars_rest}
use Rattle.textarea_terminal.specs.Disputed.{before_selector, is_emoji_selector}
use Rattle.textarea_terminal.proofs.output.part.before_selector.Goals as goal

pub loop-c-init : goal.loop-c-init
loop-c-init c =
    let rest = ap chars_rest c.into_iter-c-iterator.ensures.into_iter_gives ∙ c.chars-c-items.ensures.rest in
    record {
      text = rw rest c.utf8.text;
      left = ap (λ bytes. bytes ++ before_selector (chars (chars_rest c.into_iter-c-iterator.result))) c.new-part.ensures.bytes ∙ ap (λ t. before_selector (chars t)) rest;
    }

pub returns-then-is_emoji_selector : goal.returns-then-is_emoji_selector
returns-then-is_emoji_selector c =
    let was = c.loop-c.invariant in
    let read = chars_past_char _ _ c.in-Some.c was.text c.in-Some.ensures.steps.0 in
    let none = ap before_selector read
    ∙ cond-true (is_emoji_selector c.in-Some.c) [] (encode_utf8 c.in-Some.c ++ before_selector (chars (chars_rest c.next.new.self))) (sym c.is_emoji_selector.ensures ∙ c.if-is_emoji_selector.true) in
    sym (append-nil (string_bytes c.loop-c.part)) ∙ ap (λ bytes. string_bytes c.loop-c.part ++ bytes) (sym none) ∙ was.left

pub loop-c-preserved : goal.loop-c-preserved
loop-c-preserved c =
    let was = c.loop-c.invariant in
    let step = c.in-Some.ensures.steps.0 in
    let read = chars_past_char _ _ c.in-Some.c was.text step in
    let rest = before_selector (chars (chars_rest c.next.new.self)) in
    let more = ap before_selector read
    ∙ cond-false (is_emoji_selector c.in-Some.c) [] (encode_utf8 c.in-Some.c ++ rest) (sym c.is_emoji_selector.ensures ∙ c.if-is_emoji_selector.false) in
    record {
      text = IsUtf8-past_char _ _ c.in-Some.c was.text step;
      left =
          ap (λ bytes. bytes ++ rest) c.in_ok-push.ensures.bytes
          ∙ append_assoc (string_bytes c.loop-c.part) (encode_utf8 c.in-Some.c) rest
          ∙ ap (λ bytes. string_bytes c.loop-c.part ++ bytes) (sym more)
          ∙ was.left;
    }

pub returns : goal.returns
returns c =
    sym (append-nil (string_bytes c.loop-c.part))
    ∙ ap (λ bytes. string_bytes c.loop-c.part ++ bytes)
    (sym (ap (λ t. before_selector (chars t)) (nil_from_length (chars_rest c.loop-c.c-iterator) c.in-None.ensures.steps.0.0) ∙ ap before_selector chars-nil))
    ∙ c.loop-c.invariant.left
