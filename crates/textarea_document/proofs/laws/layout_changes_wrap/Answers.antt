use Rattle.textarea_document.specs.DocumentRows.{text_and_layout}
use Rattle.textarea_document.proofs.DocumentWraps.{settings_wraps, width_wraps}
use Rattle.textarea_document.proofs.laws.layout_changes_wrap.Goals as goal

pub returns-clause-width : goal.returns-clause-width
returns-clause-width c = width_wraps c.settings_wrap.ensures.width

pub returns-clause-settings : goal.returns-clause-settings
returns-clause-settings c = settings_wraps c.settings_wrap.ensures.settings

pub returns-clause-lines : goal.returns-clause-lines
returns-clause-lines c = λ document text cursor maximum. c.settings_wrap.ensures.lines (text_and_layout document) text
