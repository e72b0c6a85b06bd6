use Rattle.std.proofs.Common.{◌++◌, ◌∙◌, ap, sym, append_assoc}
use Rattle.std.proofs.lemmas.List.{append-nil, nil_from_length}
use Rattle.std.proofs.lemmas.Str.{chars-nil, chars_past_char, IsUtf8-past_char}
use Rattle.std.specs.List.{flat_map}
use Rattle.std.specs.Prelude.{string_bytes}
use Rattle.std.specs.Str.{chars}
use Rattle.std.specs.Str.Iter.{chars_rest}
use Rattle.textarea_terminal.specs.Title.{printable_bytes}
use Rattle.textarea_terminal.proofs.output.title.push_printable.Goals as goal

pub loop-c-preserved : goal.loop-c-preserved
loop-c-preserved c =
    let was = c.loop-c.invariant in
    let step = c.in-Some.ensures.steps.0 in
    let read = chars_past_char _ _ c.in-Some.c was.text step in
    record {
      text = IsUtf8-past_char _ _ c.in-Some.c was.text step;
      left =
          ap (λ bytes. bytes ++ flat_map printable_bytes (chars (chars_rest c.next.new.self))) c.in_ok-push_one.ensures
          ∙ append_assoc (string_bytes c.loop-c.text) (printable_bytes c.in-Some.c) (flat_map printable_bytes (chars (chars_rest c.next.new.self)))
          ∙ ap (λ bytes. string_bytes c.loop-c.text ++ bytes) (sym (ap (flat_map printable_bytes) read))
          ∙ was.left;
    }

pub returns : goal.returns
returns c =
    sym (append-nil (string_bytes c.loop-c.text))
    ∙ ap (λ bytes. string_bytes c.loop-c.text ++ bytes)
    (sym (ap (λ t. flat_map printable_bytes (chars t)) (nil_from_length (chars_rest c.loop-c.c-iterator) c.in-None.ensures.steps.0.0) ∙ ap (flat_map printable_bytes) chars-nil))
    ∙ c.loop-c.invariant.left
