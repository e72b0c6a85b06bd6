use Rattle.std.proofs.Common.{◌≡◌, ℕ, List, ap, ◌∙◌}
use Rattle.std.specs.Str.{chars}
use Rattle.textarea_wrap.specs.Columns.{end_column}
use Rattle.textarea_highlight.specs.Columns.{column_of}
use Rattle.textarea_highlight.specs.Split.{segment_of}
use Rattle.textarea_highlight.specs.declared.highlight.display.Display.{Display}
use Rattle.textarea_highlight.proofs.SplitLemmas.{column_to}
use Rattle.textarea_highlight.proofs.highlight.display.Display.move_to.Goals as goal

pub returns-clause-value : goal.returns-clause-value
returns-clause-value c =
    let display = c.args.self.now in
    let row = c.args.row.now in
    let at = display.at in
    let to = c.args.to in
    let known = c.requires.known in
    let column : c.column_after_text-self.result ≡ column_of row display.tab_len to =
    c.column_after_text-self.ensures.value
    ∙ ap (λ (text : List ℕ). end_column display.tab_len display.column (chars text)) c.range.ensures.value
    ∙ ap (λ n. end_column display.tab_len n (segment_of row at to)) known.column
    ∙ column_to display.tab_len row at to c.utf8.row known.order known.boundary c.requires.boundary in
    let moved : ℕ → Display = λ n. record display { at = to; column = n } in
    ap moved column
