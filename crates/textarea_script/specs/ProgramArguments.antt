-- The arguments of the program, as bytes.
use Rattle.std.specs.Prelude.{◌≡◌, ℕ, List, [], ◌∷◌, codes}
use Rattle.textarea_script.specs.declared.program_arguments.Asked.{Asked}
use Rattle.textarea_script.specs.declared.program_arguments.Asked.TheVariants.{Script, Session, Nothing}

-- they ask for a script: there are none
abbrev pub AskForScript : List (List ℕ) → Type 0
AskForScript words = words ≡ []

-- they ask for a session: the only argument is `modal`
abbrev pub AskForSession : List (List ℕ) → Type 0
AskForSession words = words ≡ codes "modal" ∷ []

-- they ask for neither
pub record AskForNothing (words : List (List ℕ)) : Type 0 where
  pub no_script : ¬ (AskForScript words)
  pub no_session : ¬ (AskForSession words)

-- they ask for this
abbrev pub IsAsked : List (List ℕ) → Asked → Type 0
IsAsked words Script = AskForScript words
IsAsked words Session = AskForSession words
IsAsked words Nothing = AskForNothing words
