-- Facts of an edit that joins the newest one.
use Rattle.std.proofs.Common.{◌≡◌, ℕ, ◌-◌, Bool, true, false, ◌&&◌, nat_lt, List, [], ◌∷◌, Option, Some, None, ap, refl, ◌∙◌, eqb, eqb-true}
use Rattle.textarea_history.specs.Prelude.{Place, Splice, place_before, place_after, Log, continues_newest, is_empty, is_same_direction, is_run_end, is_typed, joins, newest, pause}

pub left_of : (a b : Bool) → (a && b) ≡ true → a ≡ true
left_of true b e = refl
left_of false b e = cc

pub right_of : (a b : Bool) → (a && b) ≡ true → b ≡ true
right_of true b e = e
right_of false b e = cc

pub same_direction : (a b : Bool) → is_same_direction a b ≡ true → b ≡ a
same_direction true true e = refl
same_direction true false e = cc
same_direction false true e = cc
same_direction false false e = refl

pub same_place : (first second : Place) → is_run_end first second ≡ true → first ≡ second
same_place first second e =
    ap (λ (n : ℕ). (n, first.1)) (eqb-true first.0 second.0 (left_of (eqb first.0 second.0) (eqb first.1 second.1) e))
    ∙ ap (λ (n : ℕ). (second.0, n)) (eqb-true first.1 second.1 (right_of (eqb first.0 second.0) (eqb first.1 second.1) e))

none_left : (undone : List Splice) → is_empty undone ≡ true → undone ≡ []
none_left [] e = refl
none_left (splice ∷ undone) e = cc

-- the run is the newest edit, the other begins at its end in its direction, and nothing is undone
pub record Joins (log : Log) (edit : Splice) : Type 0 where
  pub run : Splice
  pub newest_is : newest log ≡ Some run
  pub direction : edit.inserts ≡ run.inserts
  pub place : place_after run ≡ place_before edit
  pub none_undone : log.undone ≡ []

pub joins_newest : (log : Log) (edit : Splice) (typed : Bool) (now : ℕ) → joins log edit typed now ≡ true → Joins log edit
joins_newest log edit typed now e = by (newest log) refl (right_of (nat_lt (now - log.last) pause) _ (right_of (is_empty log.undone) _ rest))
  where
    rest : (is_empty log.undone && (nat_lt (now - log.last) pause && continues_newest (newest log) edit)) ≡ true
    rest = right_of (is_typed edit typed && log.run_open) _ e

    by : (found : Option Splice) → newest log ≡ found → continues_newest found edit ≡ true → Joins log edit
    by None is continues = absurd cc
    by (Some run) is continues = record {
      run = run;
      newest_is = is;
      direction = same_direction run.inserts edit.inserts (left_of _ _ continues);
      place = same_place (place_after run) (place_before edit) (left_of _ _ (right_of (is_same_direction run.inserts edit.inserts) _ continues));
      none_undone = none_left log.undone (left_of _ _ rest);
    }
