use Rattle.std.proofs.Common.{◌∙◌, ◌-◌, ◌∷◌, ◌++◌, [], ℕ, List, ap, string_bytes, sym, take}
use Rattle.std.proofs.lemmas.List.{nil_from_length}
use Rattle.std.proofs.lemmas.Str.{chars-nil, chars_past_char, IsUtf8-past_char}
use Rattle.std.specs.Str.{chars}
use Rattle.std.specs.Str.Iter.{chars_rest}
use Rattle.textarea_editor.proofs.Indents.{indent_ascii, indent_begun, indent_ended, indent_goes_on, none_taken}
use Rattle.textarea_editor.proofs.Texts.{moved_on, none_left}
use Rattle.textarea_editor.proofs.indent.with_indent.Goals as goal
use Rattle.textarea_editor.specs.Indents.{indentation}

pub loop-c-init : goal.loop-c-init
loop-c-init c =
    let rest = ap chars_rest c.into_iter-c-iterator.ensures.into_iter_gives ∙ c.chars-c-items.ensures.rest in
    record {
      text = rw rest c.utf8.line;
      left = indent_begun (string_bytes c.in_ok-text.text) _ c.args.line.now c.args.column c.in_ok-text.ensures.ok rest;
    }

pub returns-then-ends_indent : goal.returns-then-ends_indent
returns-then-ends_indent c =
    let was = c.loop-c.invariant in
    let read = chars_past_char _ _ c.in-Some.c was.text c.in-Some.ensures.steps.0 in
    none_left (string_bytes c.loop-c.text) _ _ (indent_ended c.loop-c.room c.in-Some.c _ _ read (sym c.ends_indent.ensures ∙ c.if-ends_indent.true)) was.left

pub loop-c-preserved : goal.loop-c-preserved
loop-c-preserved c =
    let was = c.loop-c.invariant in
    let step = c.in-Some.ensures.steps.0 in
    let read = chars_past_char _ _ c.in-Some.c was.text step in
    let goes = sym c.ends_indent.ensures ∙ c.if-ends_indent.false in
    let rest = indentation (chars (chars_rest c.next.new.self)) in
    record {
      text = IsUtf8-past_char _ _ c.in-Some.c was.text step;
      left =
          ap (λ (n : ℕ). string_bytes c.push.new.self ++ take n rest) c.saturating_sub-room.ensures
          ∙ moved_on (string_bytes c.loop-c.text) (string_bytes c.push.new.self) (c.in-Some.c ∷ []) _ (take (c.loop-c.room - 1) rest) _
          (c.in_ok-push.ensures.bytes ∙ ap (λ (l : List ℕ). string_bytes c.loop-c.text ++ l) (c.push.ensures.ascii (indent_ascii c.loop-c.room c.in-Some.c goes)))
          (indent_goes_on c.loop-c.room c.in-Some.c _ _ read goes) was.left;
    }

pub returns : goal.returns
returns c =
    none_left (string_bytes c.loop-c.text) _ _
    (ap (λ t. take c.loop-c.room (indentation (chars t))) (nil_from_length (chars_rest c.loop-c.c-iterator) c.in-None.ensures.steps.0.0) ∙ ap (λ l. take c.loop-c.room (indentation l)) chars-nil
    ∙ none_taken c.loop-c.room) c.loop-c.invariant.left
