-- Renditions and their bytes, one after another; and that the renditions of a look give it to a pen
-- that was reset.
use Rattle.std.proofs.Common.{◌≡◌, ℕ, ◌<◌, ◌≤◌, ◌-◌, arith, leb, Bool, true, false, ◌==◌, List, [], ◌∷◌, ◌++◌, refl, sym, ap, ◌∙◌, append_assoc, add-one, ◌+◌, cond, get_or, drop, length}
use Rattle.std.specs.Prelude.{codes, decimal}
use Rattle.std.proofs.Math.Seq.{drop-cons}
use Rattle.std.proofs.lemmas.List.{append-nil}
use Rattle.std.proofs.lemmas.Bool.{eqb-true, cond-true, le-leb, leb-true}
use Rattle.std.proofs.lemmas.Bool.Decides.{nat_tests}
use Rattle.textarea_screen.specs.declared.screen.color.Color.{Color}
use Rattle.textarea_screen.specs.declared.screen.color.Color.TheVariants.{Reset, Rgb, Indexed}
use Rattle.textarea_screen.specs.declared.screen.modifier.Modifier.{Modifier}
use Rattle.textarea_terminal.specs.Control.{bytes_of, control_bytes, introducer}
use Rattle.textarea_terminal.specs.Control.Control.{SetPen}
use Rattle.textarea_terminal.specs.Pen.{Rendition, plain_look, rendered, rendered_all, renditions_bytes, color_bytes, has_modifier, added, all_numbers, foreground, background, before_background}
use Rattle.textarea_terminal.specs.Pen.{renditions_of, color_parameters, rendition_parameters, parameter_count, first_read, fits_one_control}
use Rattle.textarea_terminal.specs.Pen.Rendition.{Add, Background}
use Rattle.textarea_terminal.specs.PenControls.{pen_controls}
use Rattle.textarea_terminal.specs.declared.output.look.Pen.{Pen}
use Rattle.ucd_table.proofs.TrieCheck.{all_below, all_below-at}

-- ---- bytes

pub renditions_bytes-append : (xs ys : List Rendition) → renditions_bytes (xs ++ ys) ≡ renditions_bytes xs ++ renditions_bytes ys
renditions_bytes-append [] ys = refl
renditions_bytes-append (x ∷ xs) ys = rw (renditions_bytes-append xs ys, append_assoc) refl

pub added-step : (modifier : Modifier) (number : ℕ) (numbers : List ℕ) →
    renditions_bytes (added modifier (number ∷ numbers)) ≡ renditions_bytes (added modifier (number ∷ [])) ++ renditions_bytes (added modifier numbers)
added-step modifier number numbers =
    elim (has_modifier modifier number) as (λ b. renditions_bytes (cond b (Add number ∷ added modifier numbers) (added modifier numbers))
    ≡ renditions_bytes (cond b (Add number ∷ []) []) ++ renditions_bytes (added modifier numbers)) [
      | true ↦ rw (append-nil (decimal number)) refl
      | false ↦ refl
    ]

-- the modifiers up to a number are written, and so is the next
pub added-next : (modifier : Modifier) (old new all : List ℕ) (i : ℕ) → i < 9 →
    new ≡ old ++ renditions_bytes (added modifier (get_or all_numbers i 0 ∷ [])) →
    old ++ renditions_bytes (added modifier (drop i all_numbers)) ≡ all → new ++ renditions_bytes (added modifier (drop (i + 1) all_numbers)) ≡ all
added-next modifier old new all i below written done =
    let rest = drop (i + 1) all_numbers in
    let first = get_or all_numbers i 0 in
    let next : drop i all_numbers ≡ first ∷ rest = drop-cons all_numbers i 0 below ∙ ap (λ k. first ∷ drop k all_numbers) (sym (add-one i)) in
    ap (λ bytes. bytes ++ renditions_bytes (added modifier rest)) written
    ∙ append_assoc old (renditions_bytes (added modifier (first ∷ []))) (renditions_bytes (added modifier rest))
    ∙ ap (λ bytes. old ++ bytes) (sym (added-step modifier first rest) ∙ ap (λ numbers. renditions_bytes (added modifier numbers)) (sym next))
    ∙ done

-- the bytes of a look's renditions
pub renditions_bytes-of : (look : Pen) →
    renditions_bytes (renditions_of look) ≡ renditions_bytes (added look.modifier all_numbers) ++ renditions_bytes (foreground look.fg) ++ renditions_bytes (background look.bg)
unfolding renditions_of
renditions_bytes-of look =
    renditions_bytes-append (added look.modifier all_numbers ++ foreground look.fg) (background look.bg)
    ∙ ap (λ bytes. bytes ++ renditions_bytes (background look.bg)) (renditions_bytes-append (added look.modifier all_numbers) (foreground look.fg))

-- the bytes of a pen's control, one rendition after another
SetPen-bytes : (look : Pen) (before opened modified fore back closed : List ℕ) → opened ≡ before ++ 27 ∷ 91 ∷ 48 ∷ [] →
    modified ≡ opened ++ renditions_bytes (added look.modifier all_numbers) → fore ≡ modified ++ renditions_bytes (foreground look.fg) →
    back ≡ fore ++ renditions_bytes (background look.bg) → closed ≡ back ++ 109 ∷ [] →
    closed ≡ before ++ control_bytes (SetPen (renditions_of look))
SetPen-bytes look before opened modified fore back closed a b c d e =
    rw (e, d, c, b, a, renditions_bytes-of look) (simp append_assoc)

-- ---- the number of parameters

parameter_count-append : (xs ys : List Rendition) → parameter_count (xs ++ ys) ≡ parameter_count xs + parameter_count ys
parameter_count-append [] ys = omega arith
parameter_count-append (x ∷ xs) ys = omega (arith, parameter_count-append xs ys)

added-count : (modifier : Modifier) (number : ℕ) (numbers : List ℕ) →
    parameter_count (added modifier (number ∷ numbers)) ≡ parameter_count (added modifier (number ∷ [])) + parameter_count (added modifier numbers)
added-count modifier number numbers =
    elim (has_modifier modifier number) as (λ b. parameter_count (cond b (Add number ∷ added modifier numbers) (added modifier numbers))
    ≡ parameter_count (cond b (Add number ∷ []) []) + parameter_count (added modifier numbers)) [
      | true ↦ omega arith
      | false ↦ omega arith
    ]

-- the modifiers up to a number are counted, and so is the next
pub added-count-next : (modifier : Modifier) (i : ℕ) → i < 9 →
    parameter_count (added modifier (drop i all_numbers)) ≡ parameter_count (added modifier (get_or all_numbers i 0 ∷ [])) + parameter_count (added modifier (drop (i + 1) all_numbers))
added-count-next modifier i below =
    let next : drop i all_numbers ≡ get_or all_numbers i 0 ∷ drop (i + 1) all_numbers = drop-cons all_numbers i 0 below ∙ ap (λ k. get_or all_numbers i 0 ∷ drop k all_numbers) (sym (add-one i)) in
    ap (λ numbers. parameter_count (added modifier numbers)) next ∙ added-count modifier (get_or all_numbers i 0) (drop (i + 1) all_numbers)

renditions-count : (look : Pen) →
    parameter_count (renditions_of look) ≡ parameter_count (added look.modifier all_numbers) + parameter_count (foreground look.fg) + parameter_count (background look.bg)
unfolding renditions_of
renditions-count look =
    omega (arith, parameter_count-append (before_background look) (background look.bg), parameter_count-append (added look.modifier all_numbers) (foreground look.fg))

fits-by-count : (look : Pen) (modifiers fg bg : ℕ) → modifiers ≡ parameter_count (added look.modifier all_numbers) → fg ≡ parameter_count (foreground look.fg) →
    bg ≡ parameter_count (background look.bg) → modifiers + fg + bg ≤ 15 → fits_one_control look ≡ true
unfolding fits_one_control
fits-by-count look modifiers fg bg a b c fit =
    let all : parameter_count (renditions_of look) ≤ 15 = omega (arith, renditions-count look) in
    le-leb (parameter_count (renditions_of look)) 15 all

no-fit-by-count : (look : Pen) (modifiers fg bg : ℕ) → modifiers ≡ parameter_count (added look.modifier all_numbers) → fg ≡ parameter_count (foreground look.fg) →
    bg ≡ parameter_count (background look.bg) → 15 < modifiers + fg + bg → fits_one_control look ≡ false
unfolding fits_one_control
no-fit-by-count look modifiers fg bg a b c past =
    let all : 15 < parameter_count (renditions_of look) = omega (arith, renditions-count look) in
    grind (arith, nat_tests, all)

-- the bytes of the controls of a look
pub pen-bytes-one : (look : Pen) (before opened modified fore back closed : List ℕ) (modifiers fg bg : ℕ) → opened ≡ before ++ 27 ∷ 91 ∷ 48 ∷ [] →
    modified ≡ opened ++ renditions_bytes (added look.modifier all_numbers) → fore ≡ modified ++ renditions_bytes (foreground look.fg) →
    back ≡ fore ++ renditions_bytes (background look.bg) → closed ≡ back ++ 109 ∷ [] →
    modifiers ≡ parameter_count (added look.modifier all_numbers) → fg ≡ parameter_count (foreground look.fg) →
    bg ≡ parameter_count (background look.bg) → modifiers + fg + bg ≤ 15 →
    closed ≡ before ++ bytes_of (pen_controls look)
pen-bytes-one look before opened modified fore back closed modifiers fg bg a b c d e m f g fit =
    let one = SetPen-bytes look before opened modified fore back closed a b c d e in
    rw (fits-by-count look modifiers fg bg m f g fit) (one ∙ ap (λ more. before ++ more) (sym (append-nil (control_bytes (SetPen (renditions_of look))))))

pub pen-bytes-two : (look : Pen) (before opened modified fore back closed : List ℕ) (modifiers fg bg : ℕ) → opened ≡ before ++ 27 ∷ 91 ∷ 48 ∷ [] →
    modified ≡ opened ++ renditions_bytes (added look.modifier all_numbers) → fore ≡ modified ++ renditions_bytes (foreground look.fg) →
    back ≡ fore ++ codes "m" ++ introducer ++ color_bytes 40 look.bg → closed ≡ back ++ 109 ∷ [] →
    modifiers ≡ parameter_count (added look.modifier all_numbers) → fg ≡ parameter_count (foreground look.fg) →
    bg ≡ parameter_count (background look.bg) → 15 < modifiers + fg + bg →
    closed ≡ before ++ bytes_of (pen_controls look)
pen-bytes-two look before opened modified fore back closed modifiers fg bg a b c d e m f g past =
    rw (no-fit-by-count look modifiers fg bg m f g past)
    (rw (e, d, c, b, a, renditions_bytes-append (added look.modifier all_numbers) (foreground look.fg)) (simp (append_assoc, append-nil)))

-- ---- the pen

rendered_all-append : (look : Pen) (xs ys : List Rendition) → rendered_all look (xs ++ ys) ≡ rendered_all (rendered_all look xs) ys
rendered_all-append look [] ys = refl
rendered_all-append look (x ∷ xs) ys = rendered_all-append (rendered look x) xs ys

added-keeps : (look : Pen) (modifier : Modifier) (numbers : List ℕ) →
    rendered_all look (added modifier numbers) ≡ record look { modifier = (rendered_all look (added modifier numbers)).modifier }
added-keeps look modifier [] = refl
added-keeps look modifier (number ∷ numbers) =
    elim (has_modifier modifier number) as (λ b. rendered_all look (cond b (Add number ∷ added modifier numbers) (added modifier numbers))
    ≡ record look { modifier = (rendered_all look (cond b (Add number ∷ added modifier numbers) (added modifier numbers))).modifier }) [
      | true ↦ added-keeps (rendered look (Add number)) modifier numbers
      | false ↦ added-keeps look modifier numbers
    ]

abbrev gives_back : ℕ → Bool
gives_back bits = (rendered_all plain_look (added (record { 0 = bits }) all_numbers)).modifier.0 == bits

all_give_back : all_below gives_back 512 ≡ true
unfolding all_below
all_give_back = refl

added-all : (bits : ℕ) → bits < 512 → rendered_all plain_look (added (record { 0 = bits }) all_numbers) ≡ record plain_look { modifier = record { 0 = bits } }
added-all bits below =
    added-keeps plain_look (record { 0 = bits }) all_numbers
    ∙ ap (λ (n : ℕ). record plain_look { modifier = record { 0 = n } }) (eqb-true _ _ (all_below-at gives_back 512 bits all_give_back below))

foreground-present : (color bg : Color) (modifier : Modifier) →
    rendered_all (record { fg = Reset; bg = bg; modifier = modifier }) (foreground color) ≡ record { fg = color; bg = bg; modifier = modifier }
foreground-present Reset bg modifier = refl
foreground-present color bg modifier = refl

background-present : (color fg : Color) (modifier : Modifier) →
    rendered_all (record { fg = fg; bg = Reset; modifier = modifier }) (background color) ≡ record { fg = fg; bg = color; modifier = modifier }
background-present Reset fg modifier = refl
background-present color fg modifier = refl

rendered-before : (look : Pen) → look.modifier.0 < 512 → rendered_all plain_look (before_background look) ≡ record look { bg = Reset }
rendered-before look below =
    let mods = added look.modifier all_numbers in
    rendered_all-append plain_look mods (foreground look.fg) ∙ ap (λ (l : Pen). rendered_all l (foreground look.fg)) (added-all look.modifier.0 below)
    ∙ foreground-present look.fg Reset look.modifier

-- a pen that was reset has the look after the renditions of that look
rendered-look : (look : Pen) → look.modifier.0 < 512 → rendered_all plain_look (renditions_of look) ≡ look
unfolding renditions_of
rendered-look look below =
    rendered_all-append plain_look (before_background look) (background look.bg)
    ∙ ap (λ (l : Pen). rendered_all l (background look.bg)) (rendered-before look below)
    ∙ background-present look.bg look.fg look.modifier

-- ---- what is read

first_read-all : (room : ℕ) (renditions : List Rendition) → parameter_count renditions ≤ room → first_read room renditions ≡ renditions
first_read-all room [] fit = refl
first_read-all room (rendition ∷ renditions) fit =
    cond-true (leb (rendition_parameters rendition) room) (rendition ∷ first_read (room - rendition_parameters rendition) renditions) [] (le-leb (rendition_parameters rendition) room (omega arith))
    ∙ ap (λ more. rendition ∷ more) (first_read-all (room - rendition_parameters rendition) renditions (omega arith))

added-most : (modifier : Modifier) (numbers : List ℕ) → parameter_count (added modifier numbers) ≤ length numbers
added-most modifier [] = omega arith
added-most modifier (number ∷ numbers) =
    let more = added-most modifier numbers in
    elim (has_modifier modifier number) as (λ b. parameter_count (cond b (Add number ∷ added modifier numbers) (added modifier numbers)) ≤ length (number ∷ numbers)) [
      | true ↦ omega arith
      | false ↦ omega arith
    ]

color-most : (color : Color) → color_parameters color ≤ 5
color-most (Rgb red green blue) = omega arith
color-most (Indexed number) = omega arith
color-most color = omega arith

foreground-most : (color : Color) → parameter_count (foreground color) ≤ 5
foreground-most Reset = omega arith
foreground-most color = omega (arith, color-most color)

-- the renditions of a look are read, and give it to the pen
pub read-look : (look : Pen) → look.modifier.0 < 512 → fits_one_control look ≡ true → rendered_all plain_look (first_read 15 (renditions_of look)) ≡ look
unfolding fits_one_control
read-look look below fits =
    let few : parameter_count (renditions_of look) ≤ 15 = leb-true (parameter_count (renditions_of look)) 15 fits in
    ap (rendered_all plain_look) (first_read-all 15 (renditions_of look) few) ∙ rendered-look look below

pub read-before : (look : Pen) → look.modifier.0 < 512 → rendered_all plain_look (first_read 15 (before_background look)) ≡ record look { bg = Reset }
read-before look below =
    let few : parameter_count (before_background look) ≤ 15 =
    omega (arith, parameter_count-append (added look.modifier all_numbers) (foreground look.fg), added-most look.modifier all_numbers, foreground-most look.fg) in
    ap (rendered_all plain_look) (first_read-all 15 (before_background look) few) ∙ rendered-before look below

pub read-background : (pen : Pen) (color : Color) → rendered_all pen (first_read 16 (Background color ∷ [])) ≡ record pen { bg = color }
read-background pen color =
    ap (rendered_all pen) (first_read-all 16 (Background color ∷ []) (omega (arith, color-most color)))
