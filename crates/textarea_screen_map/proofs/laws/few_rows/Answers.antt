use Rattle.textarea_screen_map.proofs.RowSizes.{size_of_lines}
use Rattle.textarea_screen_map.proofs.laws.few_rows.Goals as goal

pub returns : goal.returns
returns c = record { size = λ w lines rows h. (size_of_lines w lines rows h).0; few = λ w lines rows h. (size_of_lines w lines rows h).1 }
