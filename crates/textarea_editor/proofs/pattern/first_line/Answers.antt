use Rattle.std.proofs.Common.{◌∙◌, ◌∷◌, [], ap, sym}
use Rattle.std.proofs.lemmas.List.{nil_from_length}
use Rattle.std.proofs.lemmas.Str.{chars-nil, chars_past_char, IsUtf8-past_char}
use Rattle.std.specs.Str.{chars}
use Rattle.std.specs.Str.Iter.{chars_rest}
use Rattle.textarea_editor.specs.Patterns.{first_line}
use Rattle.textarea_text.specs.Text.{characters_of}
use Rattle.textarea_text.proofs.StringRows.{characters_of-pushed}
use Rattle.textarea_editor.proofs.Texts.{line_ends, line_goes_on, moved_on, none_left, start_of}
use Rattle.textarea_editor.proofs.pattern.first_line.Goals as goal

pub loop-c-init : goal.loop-c-init
loop-c-init c =
    let rest = ap chars_rest c.into_iter-c-iterator.ensures.into_iter_gives ∙ c.chars-c-items.ensures.rest in
    record {
      text = rw rest c.utf8.text;
      left = start_of c.new-line.result first_line _ c.args.text.now c.new-line.ensures.bytes rest;
    }

pub returns-then-ends_line : goal.returns-then-ends_line
returns-then-ends_line c =
    let was = c.loop-c.invariant in
    let read = chars_past_char _ _ c.in-Some.c was.text c.in-Some.ensures.steps.0 in
    none_left (characters_of c.loop-c.line) _ _ (line_ends c.in-Some.c _ _ read (sym c.ends_line.ensures ∙ c.if-ends_line.true)) was.left

pub loop-c-preserved : goal.loop-c-preserved
loop-c-preserved c =
    let was = c.loop-c.invariant in
    let step = c.in-Some.ensures.steps.0 in
    let read = chars_past_char _ _ c.in-Some.c was.text step in
    record {
      text = IsUtf8-past_char _ _ c.in-Some.c was.text step;
      left = moved_on (characters_of c.loop-c.line) (characters_of c.push.new.self) (c.in-Some.c ∷ []) _ (first_line (chars (chars_rest c.next.new.self))) _
          (characters_of-pushed c.loop-c.line c.push.new.self c.in-Some.c c.in_ok-push.ensures.bytes)
          (line_goes_on c.in-Some.c _ _ read (sym c.ends_line.ensures ∙ c.if-ends_line.false)) was.left;
    }

pub returns : goal.returns
returns c =
    none_left (characters_of c.loop-c.line) _ _
    (ap (λ t. first_line (chars t)) (nil_from_length (chars_rest c.loop-c.c-iterator) c.in-None.ensures.steps.0.0) ∙ ap first_line chars-nil) c.loop-c.invariant.left
