-- What contracts see of the open styles.
use Rattle.std.specs.Prelude.{◌≡◌, ◌-◌, List, [], ◌∷◌, ◌++◌, take, length}
use Rattle.textarea_screen.specs.declared.screen.style.Style.{Style}
use Rattle.textarea_highlight.specs.declared.highlight.borders.BorderEffect.{BorderEffect}
use Rattle.textarea_highlight.specs.declared.highlight.borders.BorderEffect.TheVariants.{Start, End}
use Rattle.textarea_highlight.specs.declared.highlight.brackets.OpenStyles.{OpenStyles}

abbrev pub base_of : OpenStyles → Style
base_of styles = styles.base

-- the open styles after one more mark
abbrev pub passed : List Style → BorderEffect → List Style
passed styles (Start style) = styles ++ style ∷ []
passed styles End = take (length styles - 1) styles

-- the open styles after these marks
abbrev pub passed_all : List Style → List BorderEffect → List Style
passed_all styles [] = styles
passed_all styles (mark ∷ marks) = passed_all (passed styles mark) marks

-- the open styles are those after these marks
abbrev pub ArePassed : OpenStyles → List BorderEffect → Type 0
ArePassed styles marks = styles.started.items ≡ passed_all [] marks
