use Rattle.std.proofs.Common.{◌≡◌, ◌∷◌, [], map, refl}
use Rattle.tui_textarea.specs.CallResults.{Done}
use Rattle.std.proofs.lemmas.Result.{on_err_weaker, on_ok_weaker}
use Rattle.textarea_calls.specs.declared.call.Call.TheVariants.{Move}
use Rattle.textarea_modal.specs.Calls.{key_call}
use Rattle.textarea_modal.proofs.Runs.{made_after, moved, one_ran_out_after}
use Rattle.textarea_modal.proofs.modal.calls.move_and_make.Goals as goal

text_stays : (c : goal.After-make_all) → c.move_cursor.new.self.document.text ≡ c.args.area.now.document.text
text_stays c = c.others_edit_nothing.ensures.text c.args.area.now c.move_cursor.new.self (Move c.args.cursor_move) Done refl c.move_cursor.ensures

pub returns-clause-ok : goal.returns-clause-ok
returns-clause-ok c =
    let mid = c.move_cursor.new.self in
    on_ok_weaker c.make_all.result
    (λ later. made_after c.args.area.now mid c.make_all.new.area (Move c.args.cursor_move ∷ []) (map key_call c.args.calls.now) (moved c.args.area.now mid c.args.cursor_move c.move_cursor.ensures (text_stays c)) later)
    c.make_all.ensures.ok

pub returns-clause-err : goal.returns-clause-err
returns-clause-err c =
    let mid = c.move_cursor.new.self in
    on_err_weaker c.make_all.result
    (λ later. one_ran_out_after c.args.area.now mid c.make_all.new.area (Move c.args.cursor_move) (map key_call c.args.calls.now) (moved c.args.area.now mid c.args.cursor_move c.move_cursor.ensures (text_stays c)) later)
    c.make_all.ensures.err
