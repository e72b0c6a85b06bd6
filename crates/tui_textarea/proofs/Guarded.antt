-- Facts of calls that edit: in a text area that isn't read only, and of what a single line admits.
use Rattle.std.proofs.Common.{◌≡◌, ◌∙◌, ◌&&◌, Bool, List, [], Option, None, Some, ap, false, is_some, map, not, refl, sym}
use Rattle.textarea_text.specs.Text.{Symbol}
use Rattle.tui_textarea.specs.Guards.{admitted, spaced}
use Rattle.tui_textarea.specs.State.{State}
use Rattle.tui_textarea.proofs.Cases.{by_test}

-- nothing is found where the test of a text that can be edited fails
pub none_found : {A : Type 0} (read_only shown : Bool) (found : Option A) → shown ≡ read_only → shown ≡ false → (not read_only && is_some found) ≡ false → found ≡ None
none_found read_only shown found is editable e =
    none_of found (sym (ap (λ (b : Bool). not b && is_some found) (sym is ∙ editable)) ∙ e)
  where
    none_of : {A : Type 0} (found : Option A) → is_some found ≡ false → found ≡ None
    none_of None f = refl
    none_of (Some x) f = absurd cc

-- nothing is inserted of no symbol
pub admitted_none : (state : State) (symbols : List Symbol) → symbols ≡ [] → admitted state symbols ≡ []
admitted_none state symbols none =
    ap (admitted state) none ∙ by_test (λ (some : List Symbol). some ≡ []) state.settings.single_line (map spaced []) [] (λ single. refl) (λ several. refl)
