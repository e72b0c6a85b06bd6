-- What is read from the front of bytes stays with more bytes after them.
use Rattle.std.proofs.Common.{◌≡◌, ℕ, Bool, true, false, cond, List, [], ◌∷◌, ◌++◌, take, drop, Option, Some, None, refl, sym, ap, ◌∙◌, subst}
use Rattle.std.proofs.lemmas.List.{take-append-drop, append_assoc}
use Rattle.std.specs.Prelude.{option_map}
use Rattle.textarea_terminal.specs.InputReading.{bound}

-- what was read ends before the rest of the bytes, and with more bytes it is the same, and these
-- are at the end of the rest
pub record ReadsSame {A : Type 0} (bytes : List ℕ) (x : A × List ℕ) (read : List ℕ → Option (A × List ℕ)) : Type 0 where
  pub front : List ℕ
  pub whole : bytes ≡ front ++ x.1
  pub same : (more : List ℕ) → read more ≡ Some (x.0, x.1 ++ more)

-- that, where something was read
pub record Keeps {A : Type 0} (bytes : List ℕ) (o : Option (A × List ℕ)) (read : List ℕ → Option (A × List ℕ)) : Type 0 where
  pub unchanged : (x : A × List ℕ) → o ≡ Some x → ReadsSame bytes x read

-- nothing
pub keeps_none : {A : Type 0} (bytes : List ℕ) (read : List ℕ → Option (A × List ℕ)) → Keeps bytes None read
keeps_none bytes read = record { unchanged = λ x e. (cc) }

-- something
pub keeps_some : {A : Type 0} (bytes : List ℕ) (x : A × List ℕ) (read : List ℕ → Option (A × List ℕ)) → ReadsSame bytes x read → Keeps bytes (Some x) read
keeps_some {A} bytes x read h = record { unchanged = λ y e. let same : x ≡ y = (cc) in let P : A × List ℕ → Type 0 = λ z. ReadsSame bytes z read in subst P same h }

-- a value that takes no byte
pub keeps_here : {A : Type 0} (a : A) (bytes : List ℕ) → Keeps bytes (Some (a, bytes)) (λ more. Some (a, bytes ++ more))
keeps_here a bytes = keeps_some bytes (a, bytes) _ (record { front = []; whole = refl; same = λ more. refl })

-- a byte before
pub keeps_byte : {A : Type 0} (b : ℕ) (bytes : List ℕ) (o : Option (A × List ℕ)) (read : List ℕ → Option (A × List ℕ)) → Keeps bytes o read → Keeps (b ∷ bytes) o read
keeps_byte b bytes o read k = record { unchanged = λ x e. let h = k.unchanged x e in record { front = b ∷ h.front; whole = ap (λ xs. b ∷ xs) h.whole; same = h.same } }

-- a value that takes a byte
pub keeps_one : {A : Type 0} (a : A) (b : ℕ) (bytes : List ℕ) → Keeps (b ∷ bytes) (Some (a, bytes)) (λ more. Some (a, bytes ++ more))
keeps_one a b bytes = keeps_byte b bytes _ _ (keeps_here a bytes)

-- a choice
pub keeps_if : {A : Type 0} (t : Bool) (bytes : List ℕ) (o p : Option (A × List ℕ)) (f g : List ℕ → Option (A × List ℕ)) → Keeps bytes o f → Keeps bytes p g → Keeps bytes (cond t o p) (λ more. cond t (f more) (g more))
keeps_if true bytes o p f g h k = h
keeps_if false bytes o p f g h k = k

-- a function of the value
pub keeps_map : {A B : Type 0} (h : A → B) (bytes : List ℕ) (o : Option (A × List ℕ)) (f : List ℕ → Option (A × List ℕ)) → Keeps bytes o f → Keeps bytes (option_map (λ x. (h x.0, x.1)) o) (λ more. option_map (λ x. (h x.0, x.1)) (f more))
keeps_map h bytes None f k = keeps_none bytes _
keeps_map h bytes (Some x) f k =
    let unchanged = k.unchanged x refl in
    keeps_some bytes (h x.0, x.1) _ (record { front = unchanged.front; whole = unchanged.whole; same = λ more. ap (option_map (λ y. (h y.0, y.1))) (unchanged.same more) })

-- what is read from an index on
pub unchanged_from : {A : Type 0} (n : ℕ) (bytes : List ℕ) (x : A × List ℕ) (f g : List ℕ → Option (A × List ℕ)) → ((more : List ℕ) → g more ≡ f more) → ReadsSame (drop n bytes) x f → ReadsSame bytes x g
unchanged_from n bytes x f g e h = record {
  front = take n bytes ++ h.front;
  whole = sym (take-append-drop n bytes) ∙ ap (λ xs. take n bytes ++ xs) h.whole ∙ sym (append_assoc (take n bytes) h.front x.1);
  same = λ more. e more ∙ h.same more;
}

-- something after something else
pub keeps_bound : {A B : Type 0} (g : A × List ℕ → Option (B × List ℕ)) (bytes : List ℕ) (o : Option (A × List ℕ)) (f : List ℕ → Option (A × List ℕ)) → Keeps bytes o f →
    ((a : A) (rest : List ℕ) → Keeps rest (g (a, rest)) (λ more. g (a, rest ++ more))) → Keeps bytes (bound g o) (λ more. bound g (f more))
keeps_bound g bytes None f h k = keeps_none bytes _
keeps_bound {A} {B} g bytes (Some (a, rest)) f h k =
    let before = h.unchanged (a, rest) refl in
    record {
      unchanged = λ y e. let after = (k a rest).unchanged y e in record {
        front = before.front ++ after.front;
        whole = before.whole ∙ ap (λ xs. before.front ++ xs) after.whole ∙ sym (append_assoc before.front after.front y.1);
        same = λ more. ap (λ (o : Option (A × List ℕ)). bound g o) (before.same more) ∙ after.same more;
      };
    }
