use Rattle.std.proofs.Common.{subst, sym}
use Rattle.textarea_screen_map.specs.LineRows.{AreRowsOf, with_tab_len}
use Rattle.textarea_screen_map.specs.Map.{MapView}
use Rattle.textarea_screen_map.proofs.Layouts.{whole_anywhere}
use Rattle.textarea_screen_map.proofs.screen_map.set_tab_len.Goals as goal

pub returns-clause-right : goal.returns-clause-right
returns-clause-right c = λ lines h.
    let map = c.args.map.now in
    subst (λ (v : MapView). AreRowsOf (with_tab_len v.wrapping c.args.tab_len) lines v.rows) (sym c.map.view_is) (whole_anywhere map.wrapping (with_tab_len map.wrapping c.args.tab_len) lines map.rows c.requires c.requires h)
