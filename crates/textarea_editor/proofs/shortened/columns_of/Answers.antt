use Rattle.std.proofs.Common.{◌≡◌, ◌+◌, ◌∙◌, ℕ, List, ap, arith}
use Rattle.std.proofs.lemmas.List.{nil_from_length}
use Rattle.std.proofs.lemmas.List.Sums.{sum_by-cons}
use Rattle.std.proofs.lemmas.Str.{chars-nil, chars_past_char, IsUtf8-past_char}
use Rattle.std.specs.Str.{chars}
use Rattle.std.specs.Str.Iter.{chars_rest}
use Rattle.textarea_editor.proofs.shortened.columns_of.Goals as goal
use Rattle.textarea_editor.specs.Shortened.{character_columns}
use Rattle.textarea_wrap.specs.Columns.{plain_width}

pub loop-c-preserved : goal.loop-c-preserved
loop-c-preserved c =
    let was = c.loop-c.invariant in
    let step = c.in-Some.ensures.steps.0 in
    let rest = chars (chars_rest c.next.new.self) in
    let read = chars_past_char _ _ c.in-Some.c was.text step in
    let all : character_columns (chars (chars_rest c.loop-c.c-iterator)) ≡ plain_width c.in-Some.c + character_columns rest =
    ap character_columns read ∙ sum_by-cons plain_width c.in-Some.c rest in
    record {
      text = IsUtf8-past_char _ _ c.in-Some.c was.text step;
      few = omega (arith, c.min-columns.ensures);
      left = omega (arith, all, was.left, c.min-columns.ensures, c.plain_columns.ensures.value);
    }

pub returns : goal.returns
returns c =
    let none : character_columns (chars (chars_rest c.loop-c.c-iterator)) ≡ 0 =
    ap (λ (t : List ℕ). character_columns (chars t)) (nil_from_length (chars_rest c.loop-c.c-iterator) c.in-None.ensures.steps.0.0) ∙ ap character_columns chars-nil in
    omega (arith, none, c.loop-c.invariant.left, c.loop-c.invariant.few)
