use Rattle.std.proofs.lemmas.Grind.{common_steps}
use Rattle.std.proofs.Common.{arith}
use Rattle.textarea_screen_map.proofs.RowSizes.{size_of_items, some_row}
use Rattle.std.proofs.lemmas.List.{length-map}
use Rattle.textarea_screen_map.proofs.view.TextLayoutView.row_count.Goals as goal

pub returns-clause-few : goal.returns-clause-few
returns-clause-few c = grind (arith, common_steps, size_of_items)

pub returns-clause-some : goal.returns-clause-some
returns-clause-some c = grind (arith, common_steps, some_row, length-map)
