use Rattle.std.proofs.Common.{◌≡◌, ◌+◌, ◌-◌, ◌++◌, List, ℕ, true, inl, inr, ap, length, subst, sym, take, ◌∙◌, arith, rules}
use Rattle.std.proofs.lemmas.List.{nil_from_length}
use Rattle.std.proofs.lemmas.Str.{chars-nil, chars_past_char}
use Rattle.std.specs.Prelude.{encode_utf8}
use Rattle.std.specs.Str.{chars, IsCharBoundary}
use Rattle.textarea_screen.specs.Buffer.{Changes, wide_change}
use Rattle.textarea_screen.specs.Rect.{contains}
use Rattle.textarea_screen.specs.declared.screen.rect.Rect.{Rect}
use Rattle.textarea_screen.proofs.BufferLemmas.{contains-right}
use Rattle.textarea_screen.proofs.CharacterLemmas.{first-boundary, first-taken, put-all, putting-next, putting-start}
use Rattle.textarea_screen.proofs.screen.buffer.Buffer.put_characters.Goals as goal
use Rattle.textarea_screen.proofs.screen.buffer.Buffer.put_characters.Goals.{else-characters-test, then-characters-test+in_default}

pub characters-init : goal.characters-init
characters-init c = record {
  rest_text = search rules;
  put = putting-start c.args.x c.args.y c.args.end c.args.columns c.args.style c.args.text.now c.args.self.now c.requires.end.0;
}

pub overflow_sub-end : goal.overflow_sub-end
overflow_sub-end c = c.characters.invariant.put.fits

pub put_text-requires-clause-start : goal.put_text-requires-clause-start
put_text-requires-clause-start c =
    let put = c.characters.invariant.put in
    ap (λ (a : Rect). contains a c.characters.column c.args.y) put.written.area
    ∙ contains-right c.args.self.now.area c.args.x c.characters.column c.args.y c.requires.start (omega (arith, put.end)) (omega (arith, c.requires.end.1, c.requires.columns, put.fits, c.characters-test.true))

pub put_text-requires-clause-end : goal.put_text-requires-clause-end
put_text-requires-clause-end c =
    let put = c.characters.invariant.put in
    omega (arith, ap (λ (a : Rect). a.x + a.width) put.written.area, c.requires.end.1, put.fits, c.characters-test.true)

pub characters-smaller : goal.characters-smaller
characters-smaller c = omega (arith, c.requires.columns, c.characters-test.true)

pub range-requires-clause-end_boundary : goal.range-requires-clause-end_boundary
range-requires-clause-end_boundary c =
    let is : c.characters.rest.now ≡ encode_utf8 c.in-Some.c ++ c.next.new.self.rest.now = cc (c.in-Some.ensures.steps.0, c.chars-characters.ensures.rest) in
    subst (λ n. IsCharBoundary c.characters.rest.now n) (sym c.len_utf8.ensures.value) (first-boundary c.characters.rest.now c.next.new.self.rest.now c.in-Some.c c.characters.invariant.rest_text is)

pub characters-preserved : goal.characters-preserved
characters-preserved c =
    let is : c.characters.rest.now ≡ encode_utf8 c.in-Some.c ++ c.as_str-rest.result.now = cc (c.in-Some.ensures.steps.0, c.chars-characters.ensures.rest, c.as_str-rest.ensures) in
    let first : c.range.result.now ≡ encode_utf8 c.in-Some.c =
    c.range.ensures.value ∙ ap (λ n. take (n - 0) c.characters.rest.now) c.len_utf8.ensures.value ∙ first-taken c.characters.rest.now c.as_str-rest.result.now c.in-Some.c is in
    let put = subst (λ (t : List ℕ). Changes c.characters.self c.put_text.new.self (wide_change c.characters.column c.args.y (c.characters.column + c.args.columns) t true c.args.style)) first c.put_text.ensures in
    record {
      rest_text = search rules;
      put = putting-next c.in-Some.c c.characters.invariant.put (chars_past_char c.characters.rest.now c.as_str-rest.result.now c.in-Some.c c.characters.invariant.rest_text is)
          (omega (arith, c.characters.invariant.put.fits, c.characters-test.true)) put;
    }

pub returns : goal.returns
returns c =
    let put = c.characters.invariant.put in
    record {
      put = elim c.characters-test.branch [
        | else-characters-test w ↦ put-all put (inr (omega (arith, put.fits, w.characters-test.false)))
        | then-characters-test+in_default w ↦
            put-all put (inl (ap chars (nil_from_length c.characters.rest.now (ap length (sym w.chars-characters.ensures.rest) ∙ w.in_default.ensures.steps.0.0)) ∙ chars-nil))
      ];
    }
