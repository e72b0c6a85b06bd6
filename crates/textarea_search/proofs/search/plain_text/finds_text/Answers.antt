use Rattle.textarea_search.proofs.PlainTextLemmas.{text_matches}
use Rattle.textarea_search.proofs.PlainTextReading.{accepted, tree_lists}
use Rattle.textarea_search.proofs.search.plain_text.finds_text.Goals as goal

pub returns-clause-accepted : goal.returns-clause-accepted
returns-clause-accepted c = λ some. accepted c.args.text.now c.args.ignore_case c.args.whole_word c.utf8.text some

pub returns-clause-matches : goal.returns-clause-matches
returns-clause-matches c = λ some. tree_lists c.args.text.now c.args.ignore_case c.args.whole_word c.utf8.text some

pub returns-clause-itself : goal.returns-clause-itself
returns-clause-itself c = λ some. text_matches c.args.text.now c.utf8.text some
