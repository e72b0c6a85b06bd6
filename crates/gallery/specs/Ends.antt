-- The keys that end programs. A program returns whether it goes on.
use Rattle.std.specs.Prelude.{◌≡◌, Bool, true, false, not, Result, IfOk}
use Rattle.textarea_data.specs.declared.input.Key.{Key}
use Rattle.textarea_data.specs.declared.input.Key.TheVariants.{Esc, Enter}

-- whether the key is Esc
abbrev pub is_esc : Key → Bool
is_esc Esc = true
is_esc other = false

-- whether the key is Esc or Enter
abbrev pub is_esc_or_enter : Key → Bool
is_esc_or_enter Enter = true
is_esc_or_enter other = is_esc other

-- the program ends exactly by Esc
abbrev pub EndsByEsc : {E : Type 0} → Key → Result Bool E → Type 0
EndsByEsc key result = IfOk result (λ goes_on. goes_on ≡ not (is_esc key))

-- the program ends exactly by Esc and by Enter
abbrev pub EndsByEscOrEnter : {E : Type 0} → Key → Result Bool E → Type 0
EndsByEscOrEnter key result = IfOk result (λ goes_on. goes_on ≡ not (is_esc_or_enter key))

-- whether the key is Enter
abbrev pub is_enter : Key → Bool
is_enter Enter = true
is_enter other = false

-- the program ends by Esc, perhaps by Enter, and by no other key
abbrev pub EndsByEscPerhapsEnter : {E : Type 0} → Key → Result Bool E → Type 0
EndsByEscPerhapsEnter key result = IfOk result (λ goes_on. is_enter key ≡ false → goes_on ≡ not (is_esc key))
