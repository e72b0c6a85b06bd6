-- Copies of edits, and of a history's list of them.
use Rattle.std.proofs.Common.{◌≡◌, ◌≤◌, ◌-◌, ℕ, zero, suc, List, [], ◌∷◌, length, map, Option, Some, None, sym, ap, refl, ◌∙◌, arith, subst, slice_get}
use Rattle.std.proofs.lemmas.List.Elements.{AllZip-get_or, length_all_zip}
use Rattle.textarea_history.specs.Prelude.{AllZip, IfSome, end, Splice, Stored, IsCopyOfEdit, IsWellFormed, edge_of, grouped_in, splice_in, IsRun, IsRunEdge, IsStore}

-- what a copy of an edit shares with it, as its splice or its mark
parts_copied : {A : Type 0} (part : Stored → A) → ((edit copy : Stored) → IsCopyOfEdit edit copy → part copy ≡ part edit) → (items copies : List Stored) → AllZip IsCopyOfEdit items copies →
    map part copies ≡ map part items
parts_copied part same [] [] h = refl
parts_copied part same [] (copy ∷ copies) h = absurd h
parts_copied part same (edit ∷ items) [] h = absurd h
parts_copied part same (edit ∷ items) (copy ∷ copies) h =
    ap (λ first. first ∷ map part copies) (same edit copy h.0) ∙ ap (λ rest. part edit ∷ rest) (parts_copied part same items copies h.1)

pub splices_copied : (items copies : List Stored) → AllZip IsCopyOfEdit items copies → map splice_in copies ≡ map splice_in items
splices_copied = parts_copied splice_in (λ edit copy h. h.splice)

pub marks_copied : (items copies : List Stored) → AllZip IsCopyOfEdit items copies → map grouped_in copies ≡ map grouped_in items
marks_copied = parts_copied grouped_in (λ edit copy h. h.grouped)

formed_copied : (edit copy : Stored) → IsCopyOfEdit edit copy → IsWellFormed edit → IsWellFormed copy
formed_copied edit copy same h = record {
  some = omega (arith, h.some, ap (λ (s : Splice). length s.symbols) same.splice);
  fragment_lines = subst (λ (o : Option ℕ). IfSome o (λ n. 2 ≤ n)) (sym same.fragment_lines) h.fragment_lines;
  ends = same.end ∙ h.ends ∙ ap (λ (s : Splice). end s.place s.symbols) (sym same.splice);
}

run_copied : (edge : ℕ) (items copies : List Stored) (n : ℕ) → AllZip IsCopyOfEdit items copies → IfSome (slice_get items n) (λ edit. IsRun edit edge) →
    IfSome (slice_get copies n) (λ edit. IsRun edit edge)
run_copied edge [] [] n h run = run
run_copied edge [] (copy ∷ copies) n h run = absurd h
run_copied edge (edit ∷ items) [] n h run = absurd h
run_copied edge (edit ∷ items) (copy ∷ copies) zero h run = record { grows = h.0.grows ∙ run.grows; edge_is = ap edge_of h.0.splice ∙ run.edge_is }
run_copied edge (edit ∷ items) (copy ∷ copies) (suc n) h run = run_copied edge items copies n h.1 run

runs_copied : (items copies : List Stored) (index : ℕ) (run : Option ℕ) → AllZip IsCopyOfEdit items copies → length items ≡ length copies → IsRunEdge items index run → IsRunEdge copies index run
runs_copied items copies index None h same is = is
runs_copied items copies index (Some edge) h same is = (
  is.0 ∙ same,
  omega (arith, is.1),
  subst (λ n. IfSome (slice_get copies (n - 1)) (λ edit. IsRun edit edge)) same (run_copied edge items copies (length items - 1) h is.2),
)

pub store_copied : (items copies : List Stored) (index maximum : ℕ) (run : Option ℕ) → AllZip IsCopyOfEdit items copies → IsStore items index maximum run → IsStore copies index maximum run
store_copied items copies index maximum run h store =
    let same : length items ≡ length copies = length_all_zip IsCopyOfEdit items copies h in
    record {
      sound = λ k d within. formed_copied _ _ (AllZip-get_or IsCopyOfEdit items copies k d d h (omega arith)) (store.sound k d (omega arith));
      within = omega (arith, store.within);
      bounded = omega (arith, store.bounded);
      run_is = runs_copied items copies index run h same store.run_is;
    }
