-- Controls one after another, and what was written of them.
use Rattle.std.proofs.Common.{◌≡◌, ℕ, ◌+◌, List, [], ◌∷◌, ◌++◌, length, refl, sym, ap, ◌∙◌, append_assoc}
use Rattle.std.proofs.lemmas.List.{append-nil, length-append}
use Rattle.std.proofs.lemmas.List.Elements.{filter-append, filter_map-append}
use Rattle.std.specs.List.{filter}
use Rattle.textarea_terminal.specs.Control.{Control, control_bytes, bytes_of}
use Rattle.textarea_terminal.specs.Paint.{Wrote, printed_text, prints_of, is_move, moves_of, is_pen_change, pens_of}
use Rattle.textarea_terminal.specs.Screen.{Terminal, apply_control, run}

pub bytes_of-append : (xs ys : List Control) → bytes_of (xs ++ ys) ≡ bytes_of xs ++ bytes_of ys
bytes_of-append [] ys = refl
bytes_of-append (x ∷ xs) ys = ap (λ bytes. control_bytes x ++ bytes) (bytes_of-append xs ys) ∙ sym (append_assoc (control_bytes x) (bytes_of xs) (bytes_of ys))

pub run-append : (xs ys : List Control) (terminal : Terminal) → run (xs ++ ys) terminal ≡ run ys (run xs terminal)
run-append [] ys terminal = refl
run-append (x ∷ xs) ys terminal = run-append xs ys (apply_control x terminal)

pub prints_of-append : (xs ys : List Control) → prints_of (xs ++ ys) ≡ prints_of xs ++ prints_of ys
prints_of-append = filter_map-append printed_text

pub moves_of-append : (xs ys : List Control) → moves_of (xs ++ ys) ≡ moves_of xs + moves_of ys
moves_of-append xs ys = ap length (filter-append is_move xs ys) ∙ length-append (filter is_move xs) (filter is_move ys)

pub pens_of-append : (xs ys : List Control) → pens_of (xs ++ ys) ≡ pens_of xs + pens_of ys
pens_of-append xs ys = ap length (filter-append is_pen_change xs ys) ∙ length-append (filter is_pen_change xs) (filter is_pen_change ys)

-- one control was written
pub Wrote-one : {before after : List ℕ} {holds : List Control → Type 0} (control : Control) → after ≡ before ++ control_bytes control → holds (control ∷ []) → Wrote before after holds
Wrote-one {before} control bytes with_ranges = record {
  controls = control ∷ [];
  bytes = bytes ∙ ap (λ more. before ++ more) (sym (append-nil (control_bytes control)));
  with_ranges = with_ranges;
}

-- nothing was written
pub Wrote-none : {bytes : List ℕ} {holds : List Control → Type 0} → holds [] → Wrote bytes bytes holds
Wrote-none {bytes} with_ranges = record { controls = []; bytes = sym (append-nil bytes); with_ranges = with_ranges }

-- some were, and then others
pub Wrote-then : {a b c : List ℕ} {P Q : List Control → Type 0} (R : List Control → Type 0) → Wrote a b P → Wrote b c Q →
    ((xs ys : List Control) → P xs → Q ys → R (xs ++ ys)) → Wrote a c R
Wrote-then {a} {b} {c} R first second both = record {
  controls = first.controls ++ second.controls;
  bytes =
      second.bytes ∙ ap (λ bytes. bytes ++ bytes_of second.controls) first.bytes
      ∙ append_assoc a (bytes_of first.controls) (bytes_of second.controls)
      ∙ ap (λ more. a ++ more) (sym (bytes_of-append first.controls second.controls));
  with_ranges = both first.controls second.controls first.with_ranges second.with_ranges;
}

pub Wrote-as : {a b : List ℕ} {P : List Control → Type 0} (R : List Control → Type 0) → Wrote a b P → ((xs : List Control) → P xs → R xs) → Wrote a b R
Wrote-as R wrote same = record { controls = wrote.controls; bytes = wrote.bytes; with_ranges = same wrote.controls wrote.with_ranges }
