use Rattle.std.proofs.Common.{◌≡◌, ◌+◌, ◌∙◌, ℕ, List, Option, Some, None, Result, Ok, Err, ap, arith, subst, sym}
use Rattle.std.specs.Prelude.{IfOk, IfSome, slice_range}
use Rattle.std.proofs.lemmas.Result.{IfOk-weaker}
use Rattle.textarea_c_data.specs.Spans.{line_read, own_spans_read, spans_end}
use Rattle.textarea_c_data.specs.Styles.{style_of_numbers}
use Rattle.textarea_c_data.specs.Texts.{items_between}
use Rattle.textarea_c_data.specs.declared.spans.CSpan.{CSpan}
use Rattle.textarea_c_data.proofs.Texts.{inside, past_end}
use Rattle.textarea_c_data.proofs.read_styled.read_next_line.Goals as goal

pub returns-in_default-clause-line : goal.returns-in_default-clause-line
returns-in_default-clause-line c =
    let first = c.args.first in
    let line = c.args.line in
    let past : items_between c.args.spans.now first (first + line.spans) ≡ None = past_end c.args.spans.now first (first + line.spans) c.in_default.ensures in
    sym (ap (λ (part : Option (List CSpan)). line_read (own_spans_read c.args.text.now c.args.start part) (style_of_numbers line.style)) past)

pub returns-clause-line : goal.returns-clause-line
returns-clause-line c =
    let first = c.args.first in
    let line = c.args.line in
    let spans = c.args.spans.now in
    let end = c.in-Some.end in
    let part : items_between spans first (first + line.spans) ≡ Some (slice_range spans first end) =
    subst (λ (e : ℕ). items_between spans first e ≡ Some (slice_range spans first end)) c.in-Some.ensures.0 (inside spans first end (omega arith) c.in-Some.ensures.1) in
    IfOk-weaker c.read_line.result _ _
    (λ read is. is ∙ sym (ap (λ (own : Option (List CSpan)). line_read (own_spans_read c.args.text.now c.args.start own) (style_of_numbers line.style)) part))
    c.read_line.ensures.line

pub returns-clause-end : goal.returns-clause-end
returns-clause-end c =
    subst (λ (e : ℕ). IfOk c.read_line.result (λ read. IfSome read (λ r. r.1 ≡ spans_end c.args.start (slice_range c.args.spans.now c.args.first e)))) c.in-Some.ensures.0 c.read_line.ensures.end

-- what holds anyway
always : {A E : Type 0} (r : Result (Option A) E) (P : Type 0) → P → IfOk r (λ read. IfSome read (λ _. P))
always (Ok (Some x)) P h = h
always (Ok None) P h = tt
always (Err e) P h = tt

pub returns-clause-within : goal.returns-clause-within
returns-clause-within c = always c.read_line.result _ (omega (arith, c.in-Some.ensures.0, c.in-Some.ensures.1))
