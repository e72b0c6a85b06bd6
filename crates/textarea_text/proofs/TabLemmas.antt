-- Widths after the last tab stop.
use Rattle.std.proofs.Common.{◌≡◌, ◌<◌, ℕ, ◌+◌, ◌%◌, List, [], ◌∷◌, add_assoc, arith, false}
use Rattle.textarea_text.proofs.Prelude.{mod-add-mod, common_steps}
use Rattle.textarea_text.specs.Prelude.{unwrap_or, width_of}
use Rattle.unicode_width.specs.Width.{char_width}

-- one character more
pub width_of_more : (stop was now width c : ℕ) (text cs : List ℕ) (whole : ℕ) → (was + width_of text) % stop ≡ whole % stop → text ≡ c ∷ cs →
    width ≡ unwrap_or (char_width false c) 0 → now ≡ (was + width) % stop → (now + width_of cs) % stop ≡ whole % stop
width_of_more stop was now width c text cs whole h read e is =
    rw (is, mod-add-mod, add_assoc, e) (rw read at h)

pub width_of_done : (stop was : ℕ) (text : List ℕ) (whole : ℕ) → (was + width_of text) % stop ≡ whole % stop → text ≡ [] → was < stop → was ≡ whole % stop
width_of_done stop was text whole h none below = grind (arith, common_steps)
