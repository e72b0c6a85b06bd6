use Rattle.std.proofs.lemmas.Grind.{common_steps}
use Rattle.std.proofs.Common.{sym, ◌∙◌, arith}
use Rattle.textarea_highlight.specs.Columns.{column_of}
use Rattle.textarea_highlight.proofs.DisplayLemmas.{unchanged_at_zero, changed_at_zero, unchanged_at_some, changed_at_some, text_of_unchanged}
use Rattle.textarea_highlight.proofs.highlight.display.Display.show_tabs.Goals as goal

pub returns-in_ok-drop_tabs-clause-borrowed : goal.returns-in_ok-drop_tabs-clause-borrowed
returns-in_ok-drop_tabs-clause-borrowed c = (
  λ none. absurd none,
  λ same. changed_at_zero c.args.self.now.tab_len (column_of c.args.row.now c.args.self.now.tab_len c.args.from) c.args.segment.now c.utf8.segment c.if-self-eq0.true (sym c.has_tab_after_start.ensures ∙ c.if-has_tab_after_start.true) same,
)

pub returns-else-has_tab_after_start-clause-text : goal.returns-else-has_tab_after_start-clause-text
returns-else-has_tab_after_start-clause-text c =
    text_of_unchanged c.args.self.now.tab_len (column_of c.args.row.now c.args.self.now.tab_len c.args.from) c.args.segment.now c.utf8.segment
    (unchanged_at_zero c.args.self.now.tab_len (column_of c.args.row.now c.args.self.now.tab_len c.args.from) c.args.segment.now c.utf8.segment c.if-self-eq0.true (sym c.has_tab_after_start.ensures ∙ c.if-has_tab_after_start.false))

pub returns-else-has_tab_after_start-clause-borrowed : goal.returns-else-has_tab_after_start-clause-borrowed
returns-else-has_tab_after_start-clause-borrowed c = (
  λ _. unchanged_at_zero c.args.self.now.tab_len (column_of c.args.row.now c.args.self.now.tab_len c.args.from) c.args.segment.now c.utf8.segment c.if-self-eq0.true (sym c.has_tab_after_start.ensures ∙ c.if-has_tab_after_start.false),
  λ _. tt,
)

pub returns-in_ok-text-clause-borrowed : goal.returns-in_ok-text-clause-borrowed
returns-in_ok-text-clause-borrowed c = (
  λ none. absurd none,
  λ same. changed_at_some c.args.self.now.tab_len (column_of c.args.row.now c.args.self.now.tab_len c.args.from) c.args.segment.now c.utf8.segment (omega arith) (sym c.has_tab.ensures ∙ c.if-has_tab.true) same,
)

pub returns-else-has_tab-clause-text : goal.returns-else-has_tab-clause-text
returns-else-has_tab-clause-text c = grind (arith, common_steps, text_of_unchanged, unchanged_at_some)

pub returns-else-has_tab-clause-borrowed : goal.returns-else-has_tab-clause-borrowed
returns-else-has_tab-clause-borrowed c = (
  λ _. unchanged_at_some c.args.self.now.tab_len (column_of c.args.row.now c.args.self.now.tab_len c.args.from) c.args.segment.now c.utf8.segment (omega arith) (sym c.has_tab.ensures ∙ c.if-has_tab.false),
  λ _. tt,
)
