-- The colours of a terminal, by the values of NO_COLOR, COLORTERM and TERM; empty ones aren't set.
use Rattle.std.specs.Prelude.{◌≡◌, ◌≢◌, ◌⊎◌, ℕ, List, [], codes}
use Rattle.std.specs.Str.Iter.{HasSubslice}
use Rattle.textarea_terminal.specs.declared.output.colors.Colors.{Colors}
use Rattle.textarea_terminal.specs.declared.output.colors.Colors.TheVariants as colors

-- names of terminals that have all colours have one of these parts
abbrev pub IsTrueTerm : List ℕ → Type 0
IsTrueTerm term =
    HasSubslice term (codes "-direct") ⊎ HasSubslice term (codes "kitty") ⊎ HasSubslice term (codes "alacritty")
    ⊎ HasSubslice term (codes "foot") ⊎ HasSubslice term (codes "wezterm")

-- COLORTERM, or the terminal's name, says that it has all colours
abbrev pub HasTrue : List ℕ → List ℕ → Type 0
HasTrue colorterm term = (colorterm ≡ codes "truecolor") ⊎ (colorterm ≡ codes "24bit") ⊎ IsTrueTerm term

-- these have no colours but their own two
abbrev pub HasTwoColors : List ℕ → Type 0
HasTwoColors term = (term ≡ codes "dumb") ⊎ (term ≡ codes "vt100") ⊎ (term ≡ codes "vt220")

-- the first that holds decides
pub record IsColorsOf (no_color colorterm term : List ℕ) (found : Colors) : Type 0 where
  pub unwanted : no_color ≢ [] → found ≡ colors.None
  pub all : no_color ≡ [] → HasTrue colorterm term → found ≡ colors.True
  pub indexed : no_color ≡ [] → ¬ HasTrue colorterm term → HasSubslice term (codes "256color") → found ≡ colors.Indexed
  pub none : no_color ≡ [] → ¬ HasTrue colorterm term → ¬ HasSubslice term (codes "256color") → HasTwoColors term → found ≡ colors.None
  pub others : no_color ≡ [] → ¬ HasTrue colorterm term → ¬ HasSubslice term (codes "256color") → ¬ HasTwoColors term → found ≡ colors.Sixteen
