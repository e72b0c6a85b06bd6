use Rattle.std.proofs.Common.{max}
use Rattle.textarea_screen_map.proofs.Layouts.{ranges_same}
use Rattle.textarea_screen_map.proofs.laws.one_map.Goals as goal

pub returns : goal.returns
returns c = λ w lines rows others h k. ranges_same w lines rows others (c.one_wrapping.ensures w.mode w.tab_len (max w.width 1)) h k
