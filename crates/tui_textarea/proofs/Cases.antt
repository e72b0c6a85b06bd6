-- A property of what a test chooses, by the two cases of the test.
use Rattle.std.proofs.Common.{◌≡◌, ◌≢◌, ℕ, ◌==◌, Bool, true, false, cond, refl, eq-eqb}

-- a property that both cases of a test have
pub by_test : {X : Type 0} (P : X → Type 0) (b : Bool) (x y : X) → (b ≡ true → P x) → (b ≡ false → P y) → P (cond b x y)
by_test P true x y h k = h refl
by_test P false x y h k = k refl

-- the same for two values that one test chooses
pub by_both : {X Y : Type 0} (P : Y → X → Type 0) (b : Bool) (u v : Y) (x y : X) → (b ≡ true → P u x) → (b ≡ false → P v y) → P (cond b u v) (cond b x y)
by_both P true u v x y h k = h refl
by_both P false u v x y h k = k refl

-- two numbers that the test finds different are different
pub apart : (m n : ℕ) → (m == n) ≡ false → m ≢ n
apart m n e same = absurd (cc (e, eq-eqb m n same))
