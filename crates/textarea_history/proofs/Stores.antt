-- A log stored as one list of edits and an index.
use Rattle.std.proofs.Common.{◌≡◌, ◌≢◌, ℕ, zero, suc, ◌+◌, ◌-◌, ◌≤◌, ◌<◌, Bool, true, false, cond, ◌&&◌, ◌==◌, nat_lt, List, [], ◌∷◌, ◌++◌, length, take, drop, map, Option, Some, None, is_some, sym}
use Rattle.std.proofs.Common.{ap, refl, ◌∙◌, arith, get_or, set, subst, slice_get, eqb-true, eq-eqb}
use Rattle.std.proofs.lemmas.List.{length-take-le, length-map, length-set, length-append, get_or-take, get_or-map, get_or-set_same, get_or_at, map-set, set-get_or, take-take, drop_more, take_all}
use Rattle.std.proofs.lemmas.List.{drop_all, take_more, take-append-drop, take-map, drop-map, drop-take, length-take, length-drop}
use Rattle.std.proofs.lemmas.List.Elements.{All-set, All-push, All-same}
use Rattle.std.proofs.lemmas.Grind.{common_steps, take-set_at}
use Rattle.std.proofs.lemmas.Option.{slice_get_read, get_or_from_slice_get}
use Rattle.std.proofs.lemmas.Bool.Decides.{nat_tests}
use Rattle.std.proofs.lemmas.Bool.{cases_lt}
use Rattle.textarea_history.specs.Prelude.{IfSome, IsSome, All, Symbol, Character, Break, Place, Splice, place_before, place_after, Stored, IsWellFormed, Log, joined_log, remaining_done}
use Rattle.textarea_history.specs.Prelude.{remaining_marks, oldest_group, is_full, typed_character, newest, next, undone_log, redone_log, joins, continues, continues_newest, is_same_direction}
use Rattle.textarea_history.specs.Prelude.{is_empty, is_typed, done_joined, grown, edge_of, pause, character_of, merged, log_at, log_in, grouped_in, splice_in, spare_in, room_at, IsRun, IsRunEdge}
use Rattle.textarea_history.specs.Prelude.{IsStore, Group, Closed, with_edit}
use Rattle.textarea_history.proofs.Joins.{left_of, right_of, same_direction, same_place}

-- ---- the newest edit

pub newest_at : (items : List Stored) (index maximum : ℕ) (run_open : Bool) (last : ℕ) (group : Group) (edit : Stored) → 0 < index → index ≤ length items → edit ≡ get_or items (index - 1) edit →
    newest (log_in items index maximum run_open last group) ≡ Some edit.splice
newest_at items index maximum run_open last group edit some within e =
    let splices = map splice_in items in
    let size : length (take index splices) ≡ index = length-take-le index splices (omega (arith, length-map items splice_in)) in
    let before : index - 1 < index = omega arith in
    let found : edit.splice ≡ get_or splices (index - 1) edit.splice =
    sym (get_or-map splice_in items (index - 1) edit edit.splice (omega arith) ∙ ap splice_in (sym e)) in
    ap (λ n. slice_get (take index splices) (n - 1)) size
    ∙ slice_get_read (take index splices) index (index - 1) edit.splice (sym size) before (found ∙ sym (get_or-take index splices (index - 1) edit.splice before))

-- an edit is stored again with the same part, as its splice or its mark
pub part_same : {A : Type 0} (part : Stored → A) (items : List Stored) (index : ℕ) (edit new : Stored) → index < length items → edit ≡ get_or items index edit → part new ≡ part edit →
    map part (set items index new) ≡ map part items
part_same part items index edit new within e same =
    map-set part items index new
    ∙ ap (set (map part items) index) (same ∙ sym (get_or-map part items index edit (part edit) within ∙ ap part (sym e)))
    ∙ set-get_or (map part items) index (part edit)

-- ---- an edit that joins

pub record Joining (items : List Stored) (index : ℕ) (run : Option ℕ) (newest_edit : Stored) (edit : Splice) : Type 0 where
  pub edge : ℕ
  pub run_is : run ≡ Some edge
  pub whole : index ≡ length items
  pub some : 0 < index
  pub grows : newest_edit.grows ≡ true
  pub direction : edit.inserts ≡ newest_edit.splice.inserts
  pub place : place_after newest_edit.splice ≡ place_before edit

last_read : (items : List Stored) (index : ℕ) (edit : Stored) → index ≡ length items → 0 < index → edit ≡ get_or items (index - 1) edit → slice_get items (length items - 1) ≡ Some edit
last_read items index edit whole some e =
    ap (λ n. slice_get items (n - 1)) (sym whole) ∙ slice_get_read items index (index - 1) edit whole (omega arith) e

pub joining : (items : List Stored) (index maximum : ℕ) (run : Option ℕ) (last now : ℕ) (group : Group) (newest_edit : Stored) (edit : Splice) (log : Log) → IsStore items index maximum run →
    log_in items index maximum (is_some run) last group ≡ log → newest_edit ≡ get_or items (index - 1) newest_edit → joins log edit true now ≡ true → Joining items index run newest_edit edit
joining items index maximum run last now group newest_edit edit log store view read e = by run store.run_is (subst (λ l. joins l edit true now ≡ true) (sym view) e)
  where
    by : (r : Option ℕ) → IsRunEdge items index r → joins (log_in items index maximum (is_some r) last group) edit true now ≡ true → Joining items index r newest_edit edit
    by None run_is e = absurd (let open_is : false ≡ true = right_of (is_typed edit true) false (left_of (is_typed edit true && false) _ e) in cc)
    by (Some edge) run_is e =
        let log = log_in items index maximum true last group in
        let some : 0 < index = omega (arith, run_is.0, run_is.1) in
        let newest_continues : continues_newest (newest log) edit ≡ true =
        right_of (nat_lt (now - last) pause) _ (right_of (is_empty log.undone) _ (right_of (is_typed edit true && true) _ e)) in
        let continues_it : continues newest_edit.splice edit ≡ true =
        subst (λ (o : Option Splice). continues_newest o edit ≡ true) (newest_at items index maximum true last group newest_edit some store.within read) newest_continues in
        let is_run : IsRun newest_edit edge = subst (λ (o : Option Stored). IfSome o (λ s. IsRun s edge)) (last_read items index newest_edit run_is.0 some read) run_is.2 in
        record {
          edge = edge;
          run_is = refl;
          whole = run_is.0;
          some = some;
          grows = is_run.grows;
          direction = same_direction newest_edit.splice.inserts edit.inserts (left_of _ _ continues_it);
          place = same_place (place_after newest_edit.splice) (place_before edit) (left_of _ _ (right_of (is_same_direction newest_edit.splice.inserts edit.inserts) _ continues_it));
        }

-- if there is room, the newest edit of an open run can grow
pub room_to_grow : (items : List Stored) (index : ℕ) (run : Option ℕ) (free : ℕ) (newest_edit : Stored) (edge : ℕ) → run ≡ Some edge → index ≡ length items → 0 < index →
    newest_edit ≡ get_or items (index - 1) newest_edit → 0 < room_at items run free → 4 ≤ newest_edit.spare
room_to_grow items index run free newest_edit edge is whole some read room =
    grind (arith, common_steps, nat_tests, last_read items index newest_edit whole some read)

pub from_character : (symbols : List Symbol) (c : ℕ) → character_of symbols ≡ Some c → symbols ≡ Character c ∷ []
from_character [] c e = cc
from_character (Break ∷ symbols) c e = cc
from_character (Character d ∷ []) c e = let same : d ≡ c = cc in ap (λ (n : ℕ). Character n ∷ []) same
from_character (Character d ∷ second ∷ symbols) c e = cc

edge_merged : (inserts : Bool) (place : Place) (symbols : List Symbol) (edit : Splice) (c : ℕ) → edit.symbols ≡ Character c ∷ [] →
    edge_of (merged (record { place = place; symbols = symbols; inserts = inserts }) edit) ≡ Some (Character c)
edge_merged true place symbols edit c e =
    let size : length (symbols ++ edit.symbols) - 1 ≡ length symbols = omega (arith, length-append symbols edit.symbols, ap length e) in
    ap (λ n. slice_get (symbols ++ edit.symbols) n) size
    ∙ ap (λ (s : List Symbol). slice_get (symbols ++ s) (length symbols)) e
    ∙ slice_get_read (symbols ++ Character c ∷ []) (length (symbols ++ Character c ∷ [])) (length symbols) (Character c) refl (omega (arith, length-append symbols (Character c ∷ [])))
    (sym (get_or_at symbols (Character c) [] (Character c) (length symbols) refl))
edge_merged false place symbols edit c e = ap (λ (s : List Symbol). slice_get (s ++ symbols) 0) e

pub edge_of_one : (edit : Splice) (c : ℕ) → edit.symbols ≡ Character c ∷ [] → edge_of edit ≡ Some (Character c)
edge_of_one edit c e = grind (arith, common_steps)

pub store_joined : (items : List Stored) (index maximum : ℕ) (run : Option ℕ) (newest_edit new : Stored) (edit : Splice) (c : ℕ) → IsStore items index maximum run →
    Joining items index run newest_edit edit → new.splice ≡ merged newest_edit.splice edit → new.grows ≡ true → IsWellFormed new → edit.symbols ≡ Character c ∷ [] →
    IsStore (set items (index - 1) new) index maximum (Some c)
store_joined items index maximum run newest_edit new edit c store j is grows formed one =
    let size : length (set items (index - 1) new) ≡ length items = length-set items (index - 1) new in
    let here : index - 1 < length items = omega (arith, j.whole, j.some) in
    let at : length (set items (index - 1) new) - 1 ≡ index - 1 = omega (arith, j.whole) in
    let read : slice_get (set items (index - 1) new) (length (set items (index - 1) new) - 1) ≡ Some new =
    ap (λ n. slice_get (set items (index - 1) new) n) at
    ∙ slice_get_read (set items (index - 1) new) (length (set items (index - 1) new)) (index - 1) new refl (omega arith) (sym (get_or-set_same items (index - 1) new new here)) in
    record {
      sound = All-set IsWellFormed items (index - 1) new formed store.sound;
      within = omega (arith, store.within);
      bounded = omega (arith, store.bounded);
      run_is = (
        omega (arith, j.whole),
        omega (arith, j.whole, j.some),
        subst (λ (o : Option Stored). IfSome o (λ s. IsRun s c)) (sym read)
            (record { grows = grows; edge_is = ap edge_of is ∙ edge_merged newest_edit.splice.inserts newest_edit.splice.place newest_edit.splice.symbols edit c one }),
      );
    }

-- a log of these fields is the one after an edit that joins
joined_is : (log : Log) (edit : Splice) (now : ℕ) (new : Log) → new.done ≡ done_joined log edit → new.undone ≡ [] → new.marks ≡ log.marks →
    record log { done = new.done; undone = new.undone; run_open = true; last = now; marks = new.marks; group = with_edit log.group } ≡ joined_log log edit now
joined_is log edit now new done undone marks =
    rw (done, undone, marks) refl

-- the log of a store after a typed edit joined the newest one
pub log_joined : (items : List Stored) (index maximum : ℕ) (run : Option ℕ) (last now : ℕ) (group : Group) (newest_edit new : Stored) (edit : Splice) (log : Log) → IsStore items index maximum run →
    Joining items index run newest_edit edit → newest_edit ≡ get_or items (index - 1) newest_edit → log_in items index maximum (is_some run) last group ≡ log →
    new.splice ≡ merged newest_edit.splice edit → new.grouped ≡ newest_edit.grouped → log_in (set items (index - 1) new) index maximum true now (with_edit group) ≡ joined_log log edit now
log_joined items index maximum run last now group newest_edit new edit log store j read view is same =
    let splices = map splice_in items in
    let old = log_in items index maximum (is_some run) last group in
    let many : length splices ≡ length items = length-map items splice_in in
    let size : length (take index splices) ≡ index = length-take-le index splices (omega (arith, store.within)) in
    let changed : map splice_in (set items (index - 1) new) ≡ set splices (index - 1) (merged newest_edit.splice edit) =
    map-set splice_in items (index - 1) new ∙ ap (λ (s : Splice). set splices (index - 1) s) is in
    let front : take (index - 1) splices ≡ take (length (take index splices) - 1) (take index splices) =
    sym (ap (λ n. take (n - 1) (take index splices)) size ∙ take-take (index - 1) index splices (omega arith)) in
    let found : grown (newest old) edit ≡ merged newest_edit.splice edit =
    ap (λ (o : Option Splice). grown o edit) (newest_at items index maximum (is_some run) last group newest_edit j.some store.within read) in
    let done : take index (map splice_in (set items (index - 1) new)) ≡ done_joined old edit =
    ap (take index) changed
    ∙ take-set_at splices (index - 1) index (merged newest_edit.splice edit) (omega (arith, j.some)) (omega (arith, j.some, store.within))
    ∙ ap (λ (t : List Splice). t ++ merged newest_edit.splice edit ∷ []) front
    ∙ ap (λ (s : Splice). take (length (take index splices) - 1) (take index splices) ++ s ∷ []) (sym found) in
    let undone : drop index (map splice_in (set items (index - 1) new)) ≡ [] =
    drop_all index (map splice_in (set items (index - 1) new)) (omega (arith, length-map (set items (index - 1) new) splice_in, length-set items (index - 1) new, j.whole)) in
    let marks : map grouped_in (set items (index - 1) new) ≡ map grouped_in items = part_same grouped_in items (index - 1) newest_edit new (omega (arith, j.some, store.within)) read same in
    joined_is old edit now (log_in (set items (index - 1) new) index maximum true now (with_edit group)) done undone marks
    ∙ ap (λ (l : Log). joined_log l edit now) view

-- whether a typed edit joins, if a run is open and the pause was short
pub joins_is : (items : List Stored) (index maximum : ℕ) (run : Option ℕ) (last now edge c : ℕ) (group : Group) (newest_edit : Stored) (edit : Splice) (coalesce : Bool) (log : Log) →
    IsStore items index maximum run → run ≡ Some edge → typed_character edit coalesce ≡ Some c → nat_lt (now - last) pause ≡ true → newest_edit ≡ get_or items (index - 1) newest_edit →
    log_in items index maximum (is_some run) last group ≡ log → continues newest_edit.splice edit ≡ joins log edit coalesce now
joins_is items index maximum run last now edge c group newest_edit edit coalesce log store is typed soon read view =
    let whole = subst (IsRunEdge items index) is store.run_is in
    let splices = map splice_in items in
    let old = log_in items index maximum (is_some run) last group in
    let none : is_empty (drop index splices) ≡ true = ap is_empty (drop_all index splices (omega (arith, length-map items splice_in, whole.0))) in
    let found = newest_at items index maximum (is_some run) last group newest_edit (omega (arith, whole.0, whole.1)) store.within read in
    sym (ap (λ b. (b && is_some run) && (is_empty (drop index splices) && (nat_lt (now - last) pause && continues_newest (newest old) edit))) (ap is_some typed)
    ∙ ap (λ b. (true && b) && (is_empty (drop index splices) && (nat_lt (now - last) pause && continues_newest (newest old) edit))) (ap is_some is)
    ∙ ap (λ b. b && (nat_lt (now - last) pause && continues_newest (newest old) edit)) none
    ∙ ap (λ b. b && continues_newest (newest old) edit) soon
    ∙ ap (λ (o : Option Splice). continues_newest o edit) found)
    ∙ ap (λ (l : Log). joins l edit coalesce now) view

pub run_some : (items : List Stored) (index : ℕ) (run : Option ℕ) → IsRunEdge items index run → is_some run ≡ true → (index ≡ length items) × (0 < length items)
run_some items index None h e = absurd (let no : false ≡ true = e in cc)
run_some items index (Some edge) h e = (h.0, h.1)

-- the newest edit of an open run can grow
newest_run : (items : List Stored) (index edge : ℕ) (edit : Stored) → IsRunEdge items index (Some edge) → edit ≡ get_or items (index - 1) edit → IsRun edit edge
newest_run items index edge edit run_is read =
    subst (λ (o : Option Stored). IfSome o (λ s. IsRun s edge)) (last_read items index edit run_is.0 (omega (arith, run_is.0, run_is.1)) read) run_is.2

pub newest_grows : (items : List Stored) (index : ℕ) (run : Option ℕ) (edit : Stored) → IsRunEdge items index run → is_some run ≡ true → edit ≡ get_or items (index - 1) edit → edit.grows ≡ true
newest_grows items index None edit run_is is_open read = absurd (let no : false ≡ true = is_open in cc)
newest_grows items index (Some edge) edit run_is is_open read = (newest_run items index edge edit run_is read).grows

-- it is stored again with the same splice
run_ready : (items : List Stored) (index : ℕ) (run : Option ℕ) (edit new : Stored) → IsRunEdge items index run → edit ≡ get_or items (index - 1) edit → new.splice ≡ edit.splice → new.grows ≡ true →
    IsRunEdge (set items (index - 1) new) index run
run_ready items index None edit new run_is read same grows = tt
run_ready items index (Some edge) edit new run_is read same grows =
    let size : length (set items (index - 1) new) ≡ length items = length-set items (index - 1) new in
    let whole : index ≡ length (set items (index - 1) new) = run_is.0 ∙ sym size in
    let some : 0 < index = omega (arith, run_is.0, run_is.1) in
    let last = last_read (set items (index - 1) new) index new whole some (sym (get_or-set_same items (index - 1) new new (omega (arith, run_is.0, some)))) in (
      whole,
      omega (arith, whole, some),
      subst (λ (o : Option Stored). IfSome o (λ s. IsRun s edge)) (sym last)
          (record { grows = grows; edge_is = ap edge_of same ∙ (newest_run items index edge edit run_is read).edge_is }),
    )

pub store_ready : (items : List Stored) (index maximum : ℕ) (run : Option ℕ) (edit new : Stored) → IsStore items index maximum run → edit ≡ get_or items (index - 1) edit → new.splice ≡ edit.splice →
    new.grows ≡ true → IsWellFormed new → IsStore (set items (index - 1) new) index maximum run
store_ready items index maximum run edit new store read same grows formed =
    let size : length (set items (index - 1) new) ≡ length items = length-set items (index - 1) new in
    record {
      sound = All-set IsWellFormed items (index - 1) new formed store.sound;
      within = omega (arith, size, store.within);
      bounded = omega (arith, size, store.bounded);
      run_is = run_ready items index run edit new store.run_is read same grows;
    }

-- an equal list is a store too
pub store_same : (items now : List Stored) (index maximum : ℕ) (run : Option ℕ) → now ≡ items → IsStore items index maximum run → IsStore now index maximum run
store_same items now index maximum run same store = subst (λ (t : List Stored). IsStore t index maximum run) (sym same) store

-- there is room once the newest edit can grow
pub room_ready : (items : List Stored) (index : ℕ) (run : Option ℕ) (free : ℕ) (new : Stored) → index ≡ length items → 0 < length items → 0 < free → 4 ≤ new.spare →
    0 < room_at (set items (index - 1) new) run free
room_ready items index None free new whole some room ready = room
room_ready items index (Some edge) free new whole some room ready =
    let size : length (set items (index - 1) new) ≡ length items = length-set items (index - 1) new in
    let at : length (set items (index - 1) new) - 1 ≡ index - 1 = omega arith in
    let read : slice_get (set items (index - 1) new) (length (set items (index - 1) new) - 1) ≡ Some new =
    ap (λ n. slice_get (set items (index - 1) new) n) at
    ∙ slice_get_read (set items (index - 1) new) (length (set items (index - 1) new)) (index - 1) new refl (omega arith) (sym (get_or-set_same items (index - 1) new new (omega arith))) in
    subst (λ (o : Option Stored). 0 < cond (nat_lt (spare_in o) 4) 0 free) (sym read) (by (nat_lt new.spare 4) refl)
  where
    by : (b : Bool) → nat_lt new.spare 4 ≡ b → 0 < cond b 0 free
    by true e = grind (arith, nat_tests)
    by false e = room

-- ---- room for one more edit

-- the first items are dropped from a part, or the part is taken from what is left
drop_of_part : {A : Type 0} (k n : ℕ) (xs : List A) → take (n - k) (drop k xs) ≡ drop k (take n xs)
drop_of_part zero n xs = let whole : n - 0 ≡ n = omega arith in ap (λ m. take m xs) whole
drop_of_part (suc k) zero xs =
    let none : 0 - suc k ≡ 0 = omega arith in
    ap (λ m. take m (drop (suc k) xs)) none ∙ sym (drop_all (suc k) (take 0 xs) (omega (arith, length-take 0 xs)))
drop_of_part (suc k) (suc n) [] = part_of_none (suc n - suc k)
  where
    part_of_none : {A : Type 0} (m : ℕ) → take {A = A} m [] ≡ []
    part_of_none zero = refl
    part_of_none (suc m) = refl
drop_of_part (suc k) (suc n) (x ∷ xs) =
    let less : suc n - suc k ≡ n - k = omega arith in
    ap (λ m. take m (drop k xs)) less ∙ drop_of_part k n xs

-- the same of what a function makes of the items
part_of_map : {A : Type 0} (f : Stored → A) (k index : ℕ) (items : List Stored) → map f (take (index - k) (drop k items)) ≡ drop k (take index (map f items))
part_of_map f k index items =
    sym (take-map f (index - k) (drop k items))
    ∙ ap (take (index - k)) (sym (drop-map f k items))
    ∙ drop_of_part k index (map f items)

dropped_if : {A : Type 0} (full : Bool) (k oldest : ℕ) (xs : List A) → k ≡ cond full oldest 0 → drop k xs ≡ cond full (drop oldest xs) xs
dropped_if true k oldest xs e = ap (λ n. drop n xs) e
dropped_if false k oldest xs e = ap (λ n. drop n xs) e

-- a log of these fields is the one with room for one more edit
place_is : (log : Log) (new : Log) → new.done ≡ remaining_done log → new.undone ≡ [] → new.marks ≡ remaining_marks log →
    record log { done = new.done; undone = new.undone; run_open = false; marks = new.marks } ≡ record log { done = remaining_done log; undone = []; run_open = false; marks = remaining_marks log }
place_is log new done undone marks = rw (done, undone, marks) refl

-- the oldest group is dropped if the history is full
pub place_made : (items retained_items : List Stored) (index k maximum : ℕ) (run_open : Bool) (last : ℕ) (group : Group) (log : Log) → index ≤ length items →
    log_in items index maximum run_open last group ≡ log → retained_items ≡ take (index - k) (drop k items) → k ≡ cond (length items == maximum) (oldest_group log) 0 →
    log_in retained_items (index - k) maximum false last group ≡ record log { done = remaining_done log; undone = []; run_open = false; marks = remaining_marks log }
place_made items retained_items index k maximum run_open last group log within view is at =
    let splices = map splice_in items in
    let old = log_in items index maximum run_open last group in
    let new = log_in retained_items (index - k) maximum false last group in
    let many : length splices ≡ length items = length-map items splice_in in
    let size : length (take index splices) ≡ index = length-take-le index splices (omega arith) in
    let components : length (take index splices) + length (drop index splices) ≡ length items =
    omega (arith, many, length-append (take index splices) (drop index splices), ap length (take-append-drop index splices)) in
    let at_old : k ≡ cond (is_full old) (oldest_group old) 0 =
    at ∙ ap (λ (l : Log). cond (length items == maximum) (oldest_group l) 0) (sym view) ∙ ap (λ n. cond (n == maximum) (oldest_group old) 0) (sym components) in
    let short : length retained_items ≤ index - k = subst (λ (t : List Stored). length t ≤ index - k) (sym is) (omega (arith, length-take (index - k) (drop k items))) in
    let mapped : length (map splice_in retained_items) ≡ length retained_items = length-map retained_items splice_in in
    let done : new.done ≡ remaining_done old =
    take_all (index - k) (map splice_in retained_items) (omega arith)
    ∙ ap (map splice_in) is
    ∙ part_of_map splice_in k index items
    ∙ dropped_if (is_full old) k (oldest_group old) (take index splices) at_old in
    let undone : new.undone ≡ [] = drop_all (index - k) (map splice_in retained_items) (omega arith) in
    let marks : new.marks ≡ remaining_marks old =
    ap (map grouped_in) is
    ∙ part_of_map grouped_in k index items
    ∙ dropped_if (is_full old) k (oldest_group old) (take index (map grouped_in items)) at_old
    ∙ ap (λ n. cond (is_full old) (drop (oldest_group old) (take n (map grouped_in items))) (take n (map grouped_in items))) (sym size) in
    place_is old new done undone marks
    ∙ ap (λ (l : Log). record l { done = remaining_done l; undone = []; run_open = false; marks = remaining_marks l }) view

-- ---- one more edit

pub typed_is : (edit : Splice) (coalesce : Bool) (typed : Option ℕ) → typed ≡ typed_character edit coalesce → IfSome typed (λ c. edit.symbols ≡ Character c ∷ [])
typed_is edit coalesce None e = tt
typed_is edit true (Some c) e = from_character edit.symbols c (sym e)
typed_is edit false (Some c) e = cc

pub free_from_room : (items : List Stored) (run : Option ℕ) (free : ℕ) → 0 < room_at items run free → 0 < free
free_from_room items None free h = h
free_from_room items (Some edge) free h = grind (arith, common_steps, nat_tests)

pub store_appended : (items new_items : List Stored) (index maximum : ℕ) (run typed : Option ℕ) (was : Splice) (edit : Stored) → IsStore items index maximum run →
    drop index (map splice_in items) ≡ [] → length (take index (map splice_in items)) < maximum → new_items ≡ items ++ edit ∷ [] → edit.splice ≡ was → IsWellFormed edit →
    IfSome typed (λ c. edit.grows ≡ true) → IfSome typed (λ c. was.symbols ≡ Character c ∷ []) → IsStore new_items (index + 1) maximum typed
store_appended items new_items index maximum run typed was edit store none below is same formed grows one =
    let many : length items ≡ index = omega (arith, store.within, ap length none, length-drop index (map splice_in items), length-map items splice_in) in
    let few : index < maximum = omega (arith, length-take-le index (map splice_in items) (omega (arith, length-map items splice_in))) in
    let size : length new_items ≡ index + 1 = omega (arith, ap length is, length-append items (edit ∷ [])) in
    let at : length new_items - 1 ≡ length items = omega arith in
    let read : slice_get new_items (length new_items - 1) ≡ Some edit =
    ap (λ n. slice_get new_items n) at
    ∙ slice_get_read new_items (length new_items) (length items) edit refl (omega arith)
    (sym (ap (λ t. get_or t (length items) edit) is ∙ get_or_at items edit [] edit (length items) refl)) in
    record { sound = All-same IsWellFormed new_items (items ++ edit ∷ []) is (All-push IsWellFormed items edit store.sound formed); within = omega arith; bounded = omega arith; run_is = by typed grows one size read }
  where
    by : (t : Option ℕ) → IfSome t (λ c. edit.grows ≡ true) → IfSome t (λ c. was.symbols ≡ Character c ∷ []) → length new_items ≡ index + 1 → slice_get new_items (length new_items - 1) ≡ Some edit →
        IsRunEdge new_items (index + 1) t
    by None grows one size read = tt
    by (Some c) grows one size read = (
      sym size,
      omega arith,
      subst (λ (o : Option Stored). IfSome o (λ s. IsRun s c)) (sym read) (record { grows = grows; edge_is = edge_of_one edit.splice c (ap (λ (s : Splice). s.symbols) same ∙ one) }),
    )

-- ---- undo and redo

-- an edit of the store is well formed
pub formed_at : (items : List Stored) (i : ℕ) (edit : Stored) → All IsWellFormed items → i < length items → edit ≡ get_or items i edit → IsWellFormed edit
formed_at items i edit sound within e = subst IsWellFormed (sym e) (sound i edit within)

pub next_at : (items : List Stored) (index maximum : ℕ) (run_open : Bool) (last : ℕ) (group : Group) (edit : Stored) (log : Log) → index < length items → edit ≡ get_or items index edit →
    log_in items index maximum run_open last group ≡ log → next log ≡ Some edit.splice
next_at items index maximum run_open last group edit log within e view =
    let splices = map splice_in items in
    let read : edit.splice ≡ get_or splices index edit.splice = sym (get_or-map splice_in items index edit edit.splice within ∙ ap splice_in (sym e)) in
    ap next (sym view)
    ∙ ap (λ (t : List Splice). slice_get t 0) (drop_more splices index edit.splice (omega (arith, length-map items splice_in)))
    ∙ ap (λ (s : Splice). Some s) (sym read)

-- no edit is undone if the index is at the end
pub next_none : (items : List Stored) (index maximum : ℕ) (run_open : Bool) (last : ℕ) (group : Group) → index ≡ length items → next (log_in items index maximum run_open last group) ≡ None
next_none items index maximum run_open last group e =
    ap (λ (t : List Splice). slice_get t 0) (drop_all index (map splice_in items) (omega (arith, length-map items splice_in)))

-- a log with a newest edit has one before the index
pub newest_within : (items : List Stored) (index maximum : ℕ) (run_open : Bool) (last : ℕ) (group : Group) (log : Log) → log_in items index maximum run_open last group ≡ log → IsSome (newest log) →
    0 < index
newest_within items zero maximum run_open last group log view some = let no : false ≡ true = subst (λ (l : Log). IsSome (newest l)) (sym view) some in cc
newest_within items (suc index) maximum run_open last group log view some = omega arith

-- a log with a next edit has one at the index
pub next_within : (items : List Stored) (index maximum : ℕ) (run_open : Bool) (last : ℕ) (group : Group) (log : Log) → index ≤ length items → log_in items index maximum run_open last group ≡ log →
    IsSome (next log) → index < length items
next_within items index maximum run_open last group log within view some =
    grind (arith, common_steps, next_none items index maximum run_open last group, cases_lt index (length items))

-- the newest edit is undone
pub stepped_back : (items : List Stored) (index maximum : ℕ) (run_open : Bool) (last : ℕ) (group : Group) (log : Log) → index ≤ length items → log_in items index maximum run_open last group ≡ log →
    0 < index → (splice : Splice) → newest log ≡ Some splice → log_in items (index - 1) maximum false last Closed ≡ undone_log log splice
stepped_back items index maximum run_open last group log within view some splice e =
    let splices = map splice_in items in
    let old = log_in items index maximum run_open last group in
    let size : length (take index splices) ≡ index = length-take-le index splices (omega (arith, length-map items splice_in)) in
    let back : index - 1 + 1 ≡ index = omega arith in
    let found : slice_get (take index splices) (index - 1) ≡ Some splice = sym (ap (λ n. slice_get (take index splices) (n - 1)) size) ∙ ap newest view ∙ e in
    let read : splice ≡ get_or splices (index - 1) splice =
    sym (sym (get_or-take index splices (index - 1) splice (omega arith)) ∙ get_or_from_slice_get (take index splices) (index - 1) splice splice found) in
    let done : take (index - 1) splices ≡ take (length (take index splices) - 1) (take index splices) =
    sym (ap (λ n. take (n - 1) (take index splices)) size ∙ take-take (index - 1) index splices (omega arith)) in
    let undone : drop (index - 1) splices ≡ splice ∷ drop index splices =
    drop_more splices (index - 1) splice (omega (arith, length-map items splice_in)) ∙ ap (λ (s : Splice). s ∷ drop (index - 1 + 1) splices) (sym read) ∙ ap (λ n. splice ∷ drop n splices) back in
    rw (done, undone) refl
    ∙ ap (λ (l : Log). undone_log l splice) view

-- the edit that was undone last is redone
pub stepped_forward : (items : List Stored) (index maximum : ℕ) (run_open : Bool) (last : ℕ) (group : Group) (log : Log) → index < length items → log_in items index maximum run_open last group ≡ log →
    (splice : Splice) → next log ≡ Some splice → log_in items (index + 1) maximum false last Closed ≡ redone_log log splice
stepped_forward items index maximum run_open last group log within view splice e =
    let splices = map splice_in items in
    let here : index < length splices = omega (arith, length-map items splice_in) in
    let found : slice_get (drop index splices) 0 ≡ Some splice = ap next view ∙ e in
    let first : drop index splices ≡ get_or splices index splice ∷ drop (index + 1) splices = drop_more splices index splice here in
    let read : splice ≡ get_or splices index splice = let same : Some splice ≡ Some (get_or splices index splice) = sym found ∙ ap (λ (t : List Splice). slice_get t 0) first in cc in
    let done : take (index + 1) splices ≡ take index splices ++ splice ∷ [] =
    take_more splices index splice here ∙ ap (λ (s : Splice). take index splices ++ s ∷ []) (sym read) in
    let undone : drop (index + 1) splices ≡ drop 1 (drop index splices) = ap (drop 1) (sym first) in
    rw (done, undone) refl
    ∙ ap (λ (l : Log). redone_log l splice) view
