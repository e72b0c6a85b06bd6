use Rattle.std.proofs.Common.{◌≡◌, ◌∙◌, ◌<◌, [], ap, encode_utf8_all, get_or, length, subst, sym}
use Rattle.std.specs.Str.{chars}
use Rattle.textarea_text.specs.Text.{lines_of}
use Rattle.textarea_screen_map.specs.BorrowedLines.{BorrowedRows}
use Rattle.textarea_screen_map.specs.LineMarks.{IsMark}
use Rattle.textarea_screen_map.specs.VisualRows.{reachable_text}
use Rattle.textarea_screen_map.proofs.KnownColumns.{borrowed_line}
use Rattle.textarea_screen_map.proofs.view.TextLayoutView.mark_in.Goals as goal
use Rattle.textarea_screen_map.proofs.view.TextLayoutView.mark_in.Goals.{After-at_display}

-- the row is the whole line
marked : (c : After-at_display) → IsMark c.args.self.now.wrapping.tab_len (chars c.args.displayed.text.now) c.at_display.result
marked c =
    let items = c.self.inside.lines.now in
    let displayed = c.args.displayed in
    let within : displayed.line < length (lines_of items) = subst (λ (v : BorrowedRows). displayed.line < length v.lines) (sym c.self.view_is) c.requires.line in
    let line =
    borrowed_line c.self.inside.map.now.wrapping items c.self.inside.map.now.rows displayed.line c.index-lines-displayed.result
    c.as_str-line.result.now c.self.invariant.0.right within c.index-lines-displayed.is c.as_str-line.ensures.value in
    let whole =
    subst (λ (v : BorrowedRows). length displayed.text.now ≡ length (encode_utf8_all (get_or v.lines displayed.line [])) → displayed.text.now ≡ encode_utf8_all (get_or v.lines displayed.line [])) (sym c.self.view_is) c.requires.whole in
    let same : displayed.text.now ≡ c.as_str-line.result.now = whole (c.if-displayed-line.true ∙ ap length line.bytes) ∙ sym line.bytes in
    subst (λ cs. IsMark c.args.self.now.wrapping.tab_len cs c.at_display.result) (sym (ap chars same ∙ line.spelled))
    (subst (λ t. IsMark t (get_or (lines_of items) displayed.line []) c.at_display.result) c.tab_len.ensures (c.at_display.ensures.mark (lines_of items) c.self.invariant.1))

pub returns-then-displayed-line-clause-mark : goal.returns-then-displayed-line-clause-mark
returns-then-displayed-line-clause-mark c = marked c

pub returns-then-displayed-line-clause-reachable : goal.returns-then-displayed-line-clause-reachable
returns-then-displayed-line-clause-reachable c =
    subst (λ b. IsMark c.args.self.now.wrapping.tab_len (reachable_text (chars c.args.displayed.text.now) b) c.at_display.result) (sym c.if-displayed.true) (marked c)
