use Rattle.std.proofs.Common.{◌≡◌, ◌+◌, ◌∙◌, List, [], ◌∷◌, ◌++◌, Some, None, drop, get_or, map, option_map, ap, refl, subst, sym}
use Rattle.std.specs.Prelude.{slice_range}
use Rattle.std.proofs.lemmas.List.{map-append}
use Rattle.textarea_screen.specs.Text.{LineView, line_view}
use Rattle.textarea_c_data.specs.Spans.{line_read, lines_read, own_spans_read, spans_end}
use Rattle.textarea_c_data.specs.Styles.{style_of_numbers}
use Rattle.textarea_c_data.specs.Texts.{items_between}
use Rattle.textarea_c_data.specs.declared.spans.CLine.{CLine}
use Rattle.textarea_c_data.proofs.Copied.{drop_item}
use Rattle.textarea_c_data.proofs.StyledTexts.{line_more, lines_past, no_line}
use Rattle.textarea_c_data.proofs.read_styled.read_lines.Goals as goal

pub returns-in_default : goal.returns-in_default
returns-in_default c =
    let line : CLine = get_or c.args.lines.now c.loop-line.line-index no_line in
    let none : None ≡ line_read (own_spans_read c.args.text.now c.loop-line.from (items_between c.args.spans.now c.loop-line.first (c.loop-line.first + line.spans))) (style_of_numbers line.style) =
    rw c.in_default.is at c.in_ok-own.ensures.line in
    lines_past c.args.text.now c.loop-line.from c.args.spans.now c.loop-line.first _ c.args.lines.now c.loop-line.line-index no_line _ c.loop-line-test.true (sym none) c.loop-line.invariant

pub loop-line-preserved : goal.loop-line-preserved
loop-line-preserved c =
    let all = c.args.lines.now in let i = c.loop-line.line-index in let line : CLine = get_or all i no_line in let later = drop (i + 1) all in
    let text = c.args.text.now in let from = c.loop-line.from in let first = c.loop-line.first in let spans = c.args.spans.now in
    let after = c.in-Some.after in let v : LineView = line_view c.in-Some.own in let xs : List LineView = map line_view c.loop-line.read.items in
    let read : Some v ≡ line_read (own_spans_read text from (items_between spans first (first + line.spans))) (style_of_numbers line.style) = rw c.in-Some.is at c.in_ok-own.ensures.line in
    let after_is : after ≡ spans_end from (slice_range spans first (first + line.spans)) = rw c.in-Some.is at c.in_ok-own.ensures.end in
    let more = line_more text from spans first xs line later v after (sym read) after_is in
    let whole = lines_read text 0 spans 0 all in
    let left : option_map (λ rest. xs ++ rest) (lines_read text from spans first (line ∷ later)) ≡ whole =
    subst (λ (ls : List CLine). option_map (λ rest. xs ++ rest) (lines_read text from spans first ls) ≡ whole) (drop_item all i (i + 1) no_line c.loop-line-test.true refl) c.loop-line.invariant in
    let pushed : map line_view c.push.new.self.items ≡ xs ++ v ∷ [] = ap (map line_view) c.in_ok-push.ensures.items ∙ map-append line_view c.loop-line.read.items (c.in-Some.own ∷ []) in
    subst (λ (ys : List LineView). option_map (λ rest. ys ++ rest) (lines_read text after spans (first + line.spans) later) ≡ whole) (sym pushed) (more ∙ left)
