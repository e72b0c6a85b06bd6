use Rattle.std.proofs.Common.{◌≡◌, ◌∙◌, ◌-◌, ap, sym, arith, get_or, length, take}
use Rattle.textarea_text.specs.Text.{characters_of, text_of}
use Rattle.textarea_text.proofs.EmptyTexts.{empty-string, filled-string}
use Rattle.textarea_text.proofs.FragmentLemmas.{text_of-full_end, text_of-one_line, text_of-without_end}
use Rattle.textarea_text.proofs.fragment.drop_empty_end.Goals as goal
use Rattle.textarea_text.proofs.fragment.drop_empty_end.Goals.{else-len-gt1-via-then-len-gt1+else-is_empty, else-len-gt1-via-else-len-gt1}

pub returns-then-is_empty-clause-text : goal.returns-then-is_empty-clause-text
returns-then-is_empty-clause-text c =
    let items = c.args.lines.now.items in
    let end = c.index.result.now in
    let at : end ≡ get_or items (length items - 1) end =
    c.index.ensures ∙ ap (λ n. get_or items (n - 1) end) (omega (arith, c.len-then-len-gt1.ensures, c.args.lines.now.ok.0)) in
    ap text_of (c.pop.ensures.rest ∙ ap (λ n. take n items) (omega (arith, c.args.lines.now.ok.0)))
    ∙ text_of-without_end items end (omega (arith, c.requires.some, c.args.lines.now.ok.0)) (omega (arith, c.if-len-gt1.true, c.len.ensures, c.args.lines.now.ok.0))
    (ap characters_of (sym at) ∙ empty-string end c.is_empty.result c.is_empty.ensures c.if-is_empty.true)

pub returns-else-len-gt1-clause-text : goal.returns-else-len-gt1-clause-text
returns-else-len-gt1-clause-text c =
    let items = c.args.lines.now.items in
    elim c.else-len-gt1.branch [
      | else-len-gt1-via-then-len-gt1+else-is_empty w ↦
          let end = w.index.result.now in
          let at : end ≡ get_or items (length items - 1) end =
          w.index.ensures ∙ ap (λ n. get_or items (n - 1) end) (omega (arith, w.len-then-len-gt1.ensures, c.args.lines.now.ok.0)) in
          text_of-full_end items end (omega (arith, c.requires.some, c.args.lines.now.ok.0))
          (λ none. filled-string end w.is_empty.result w.is_empty.ensures w.if-is_empty.false (ap characters_of at ∙ none))
      | else-len-gt1-via-else-len-gt1 w ↦ text_of-one_line items (omega (arith, c.len.ensures, w.if-len-gt1.false, c.args.lines.now.ok.0))
    ]
