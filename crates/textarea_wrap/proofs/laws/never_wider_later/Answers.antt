use Rattle.textarea_wrap.proofs.ColumnLemmas.{end_column-le, stretch_width-back, stretch_width-front}
use Rattle.textarea_wrap.proofs.laws.never_wider_later.Goals as goal

pub returns-clause-columns : goal.returns-clause-columns
returns-clause-columns c = end_column-le

pub returns-clause-back : goal.returns-clause-back
returns-clause-back c = stretch_width-back

pub returns-clause-front : goal.returns-clause-front
returns-clause-front c = stretch_width-front
