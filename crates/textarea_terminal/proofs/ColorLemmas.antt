-- The nearest of some colours.
use Rattle.std.proofs.Common.{◌≡◌, ℕ, ◌+◌, ◌*◌, ◌<◌, ◌≤◌, Bool, true, false, cond, ltb, refl, sym, ap, ◌∙◌, arith, add-one}
use Rattle.std.proofs.lemmas.Bool.{cond-true, cond-false, lt-ltb}
use Rattle.std.proofs.lemmas.Bool.Decides.{nat_tests}
use Rattle.textarea_terminal.specs.PaintColors.{distance_between, least_distant, level_of, gray_of, cube_parts, gray_parts, nearest_indexed}
use Rattle.textarea_terminal.specs.declared.output.colors.ColorParts.{ColorParts}

same-both : (b : Bool) (n : ℕ) → cond b n n ≡ n
same-both true n = refl
same-both false n = refl

-- ---- of those below a number

pub least-first : (distance : ℕ → ℕ) → least_distant distance 1 ≡ 0
unfolding least_distant
least-first distance = same-both (ltb (distance 0) (distance 0)) 0

pub least-nearer : (distance : ℕ → ℕ) (count nearest least new : ℕ) → nearest ≡ least_distant distance count → least ≡ distance nearest → new ≡ distance count → new < least →
    count ≡ least_distant distance (count + 1)
unfolding least_distant
least-nearer distance count nearest least new is least_is new_is less =
    let less' : distance count < distance (least_distant distance count) = omega (arith, new_is, least_is ∙ ap distance is) in
    sym (ap (least_distant distance) (add-one count)
    ∙ cond-true (ltb (distance count) (distance (least_distant distance count))) count (least_distant distance count) (lt-ltb _ _ less'))

pub least-same : (distance : ℕ → ℕ) (count nearest least new : ℕ) → nearest ≡ least_distant distance count → least ≡ distance nearest → new ≡ distance count → least ≤ new →
    nearest ≡ least_distant distance (count + 1)
unfolding least_distant
least-same distance count nearest least new is least_is new_is most =
    let most' : distance (least_distant distance count) ≤ distance count = omega (arith, new_is, least_is ∙ ap distance is) in
    let test : ltb (distance count) (distance (least_distant distance count)) ≡ false = grind (arith, nat_tests, most') in
    sym (ap (least_distant distance) (add-one count)
    ∙ cond-false (ltb (distance count) (distance (least_distant distance count))) count (least_distant distance count) test ∙ sym is)

-- ---- of the colours with numbers

module _ (parts g k : ColorParts) (gray red green blue to_gray to_cube : ℕ) (gray_is : gray ≡ gray_of parts) (red_is : red ≡ level_of parts.red)
    (green_is : green ≡ level_of parts.green) (blue_is : blue ≡ level_of parts.blue) (g_is : g ≡ gray_parts gray) (k_is : k ≡ cube_parts red green blue)
    (to_gray_is : to_gray ≡ distance_between parts g) (to_cube_is : to_cube ≡ distance_between parts k) where
  to_nearest_gray : ℕ
  to_nearest_gray = distance_between parts (gray_parts (gray_of parts))

  to_nearest_cube : ℕ
  to_nearest_cube = distance_between parts (cube_parts (level_of parts.red) (level_of parts.green) (level_of parts.blue))

  gray-distance : to_gray ≡ to_nearest_gray
  unfolding to_nearest_gray
  gray-distance = to_gray_is ∙ ap (distance_between parts) (g_is ∙ ap gray_parts gray_is)

  cube-distance : to_cube ≡ to_nearest_cube
  unfolding to_nearest_cube
  cube-distance =
      to_cube_is
      ∙ ap (distance_between parts)
      (k_is ∙ ap (λ x. cube_parts x green blue) red_is ∙ ap (λ x. cube_parts (level_of parts.red) x blue) green_is ∙ ap (λ x. cube_parts (level_of parts.red) (level_of parts.green) x) blue_is)

  pub nearest-gray : to_gray < to_cube → 232 + gray ≡ nearest_indexed parts
  unfolding nearest_indexed to_nearest_gray to_nearest_cube
  nearest-gray less =
      let less' : to_nearest_gray < to_nearest_cube = omega (arith, gray-distance, cube-distance) in
      ap (λ n. 232 + n) gray_is
      ∙ sym (cond-true (ltb to_nearest_gray to_nearest_cube) (232 + gray_of parts) (16 + 36 * level_of parts.red + 6 * level_of parts.green + level_of parts.blue) (lt-ltb _ _ less'))

  pub nearest-cube : to_cube ≤ to_gray → 16 + 36 * red + 6 * green + blue ≡ nearest_indexed parts
  unfolding nearest_indexed to_nearest_gray to_nearest_cube
  nearest-cube most =
      let most' : to_nearest_cube ≤ to_nearest_gray = omega (arith, gray-distance, cube-distance) in
      let test : ltb to_nearest_gray to_nearest_cube ≡ false = grind (arith, nat_tests, most') in
      ap (λ n. 16 + 36 * n + 6 * green + blue) red_is ∙ ap (λ n. 16 + 36 * level_of parts.red + 6 * n + blue) green_is ∙ ap (λ n. 16 + 36 * level_of parts.red + 6 * level_of parts.green + n) blue_is
      ∙ sym (cond-false (ltb to_nearest_gray to_nearest_cube) (232 + gray_of parts) (16 + 36 * level_of parts.red + 6 * level_of parts.green + level_of parts.blue) test)
