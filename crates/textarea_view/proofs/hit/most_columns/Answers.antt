use Rattle.textarea_view.proofs.HitLemmas.{greatest-few}
use Rattle.textarea_view.proofs.hit.most_columns.Goals as goal

pub returns : goal.returns
returns c = λ row is. greatest-few c.args.tab_len c.args.text.now row c.ranges.tab_len.fits c.utf8.text is
