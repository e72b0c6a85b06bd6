use Rattle.std.proofs.Common.{[], ◌∷◌, refl}
use Rattle.textarea_calls.specs.declared.call.Call.TheVariants as call
use Rattle.tui_textarea.specs.CallResults.{Done}
use Rattle.textarea_uses.specs.Password.{masked}
use Rattle.textarea_uses.proofs.password.passwords_look_alike.Goals as goal

pub returns : goal.returns
returns c count cursor area old one other h k =
    c.one_screen.ensures (call.Render area ∷ []) (Done ∷ []) (masked count cursor) h.shown k.shown old old one other
    (h.shown, one, record { answered = refl; after = h.rendered; drawn = h.cells }, (refl, refl))
    (k.shown, other, record { answered = refl; after = k.rendered; drawn = k.cells }, (refl, refl))
    (record { area = refl; cells = λ x y. refl })
