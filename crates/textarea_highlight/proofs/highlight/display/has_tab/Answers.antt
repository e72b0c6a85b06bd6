use Rattle.std.proofs.Common.{List, ℕ, subst, ◌∙◌}
use Rattle.memchr.specs.Find.{IsFirstByte, is_byte}
use Rattle.textarea_highlight.proofs.TabLemmas.{found_tab}
use Rattle.textarea_highlight.proofs.highlight.display.has_tab.Goals as goal

pub returns : goal.returns
returns c =
    c.is_some.ensures
    ∙ found_tab c.args.text.now c.memchr.result c.utf8.text
    (subst (λ (bytes : List ℕ). IsFirstByte (is_byte 9) bytes c.memchr.result) c.as_bytes.ensures.value c.memchr.ensures)
