-- How the atomic ranges of a document move with its text, over one splice after another.
use Rattle.std.proofs.Common.{◌≡◌, ℕ, zero, suc, Bool, true, false, List, [], ◌∷◌, ◌++◌, get_or, filter_map, Contains, Option, None, Some, sym, ap, refl, subst, ◌∙◌, arith, inl, inr, ◌⊎◌, suc-le-suc}
use Rattle.std.proofs.lemmas.List.Elements.{All-cons, All-contains, All-nil, Contains-get_or}
use Rattle.textarea_document.specs.Prelude.{edit_redone, edit_undone, newest_group, next_group, redo_splices, times, undo_splices, cons_option, Symbol, lines, Place, end, CanApply}
use Rattle.textarea_document.specs.Prelude.{Fits, Splice, IsTextBefore, applied, applied_all, AtomicRange, IsBeside, IsInside, TakesRange, CoversTheSame, DisturbsBy}
use Rattle.textarea_document.specs.Prelude.{moved_range, moved_ranges, AreValid, IsRangeOfLine, HasEffect, EditStep, splice_of_step, stepped, AllStayOrAreDropped, AllStemFrom, SplitNoRange}
use Rattle.textarea_document.specs.Prelude.{RangesFollowPast, RangesFollowSplices, RangesStayWhole, IsDroppedBy, StemsFrom, carried_range, ranges_over, SplitsNoRange, SplitsNoRangeBy, after_redo}
use Rattle.textarea_document.specs.Prelude.{after_undo, IsSound, DocumentState, after_edit}
use Rattle.textarea_ranges.proofs.Moving.{covers_the_same, dropped, valid_moved}
use Rattle.textarea_document.proofs.Layouts.{IsRelaid, redo_relaid, undo_relaid}
use Rattle.textarea_document.proofs.Sounds.{sound_inside}
use Rattle.textarea_document.proofs.UndoGroups.{GoesOn, over_redos, over_undos}
use Rattle.textarea_document.proofs.StepLaw.{step_keeps}
use Rattle.textarea_ranges.proofs.LookupLemmas.{not_beside}

-- ---- one splice

one : (old : DocumentState) (splice : Splice) (new : DocumentState) → Fits old.text splice → new.text ≡ applied old.text splice → new.ranges ≡ moved_ranges old.ranges splice →
    RangesFollowSplices old (splice ∷ []) new
one old splice new fits text ranges = record { text = record { can = (fits, tt); leads = sym text }; ranges = ranges }

pub ranges_follow_edit : (document : DocumentState) (splice : Splice) (typed : Bool) (now : ℕ) → Fits document.text splice →
    SplitsNoRange document.ranges splice → RangesStayWhole document (splice ∷ []) (after_edit document splice typed now)
ranges_follow_edit document splice typed now fits whole = (one document splice (after_edit document splice typed now) fits refl refl, (whole, tt))

pub ranges_follow_step : (document : DocumentState) (step : EditStep) (typed : Bool) (now : ℕ) → IsSound document → HasEffect document step →
    RangesStayWhole document (splice_of_step document step ∷ []) (stepped document step typed now)
ranges_follow_step document step typed now sound made =
    let unchanged = step_keeps document step sound made in
    ranges_follow_edit document (splice_of_step document step) typed now unchanged.0 unchanged.1

-- ---- one after another

pub CanApply-append : (text : List Symbol) (first second : List Splice) → CanApply text first → CanApply (applied_all text first) second → CanApply text (first ++ second)
CanApply-append text [] second h k = k
CanApply-append text (splice ∷ first) second h k = (h.0, CanApply-append (applied text splice) first second h.1 k)

applied_all-append : (text : List Symbol) (first second : List Splice) → applied_all text (first ++ second) ≡ applied_all (applied_all text first) second
applied_all-append text [] second = refl
applied_all-append text (splice ∷ first) second = applied_all-append (applied text splice) first second

text_before_joined : (one two three : List Symbol) (first second : List Splice) → IsTextBefore one two first → IsTextBefore two three second → IsTextBefore one three (first ++ second)
text_before_joined one two three first second h k = record {
  can = CanApply-append one first second h.can (subst (λ t. CanApply t second) (sym h.leads) k.can);
  leads = applied_all-append one first second ∙ ap (λ t. applied_all t second) h.leads ∙ k.leads;
}

ranges_over-append : (ranges : List AtomicRange) (first second : List Splice) → ranges_over ranges (first ++ second) ≡ ranges_over (ranges_over ranges first) second
ranges_over-append ranges [] second = refl
ranges_over-append ranges (splice ∷ first) second = ranges_over-append (moved_ranges ranges splice) first second

SplitNoRange-append : (ranges : List AtomicRange) (first second : List Splice) → SplitNoRange ranges first → SplitNoRange (ranges_over ranges first) second → SplitNoRange ranges (first ++ second)
SplitNoRange-append ranges [] second h k = k
SplitNoRange-append ranges (splice ∷ first) second h k = (h.0, SplitNoRange-append (moved_ranges ranges splice) first second h.1 k)

pub ranges_follow_on : (old between new : DocumentState) (first second : List Splice) → RangesFollowSplices old first between → RangesFollowSplices between second new →
    RangesFollowSplices old (first ++ second) new
ranges_follow_on old between new first second h k = record {
  text = text_before_joined old.text between.text new.text first second h.text k.text;
  ranges = k.ranges ∙ ap (λ (r : List AtomicRange). ranges_over r second) h.ranges ∙ sym (ranges_over-append old.ranges first second);
}

-- text and ranges stay
pub stays : (old new : DocumentState) → new.text ≡ old.text → new.ranges ≡ old.ranges → RangesStayWhole old [] new
stays old new text ranges = (record { text = record { can = tt; leads = sym text }; ranges = ranges }, tt)

pub ranges_stay_on : (old between new : DocumentState) (first second : List Splice) → RangesStayWhole old first between → RangesStayWhole between second new → RangesStayWhole old (first ++ second) new
ranges_stay_on old between new first second h k = (
  ranges_follow_on old between new first second h.0 k.0,
  SplitNoRange-append old.ranges first second h.1 (subst (λ (r : List AtomicRange). SplitNoRange r second) h.0.ranges k.1),
)

-- ---- undo and redo

nothing_follows : (document : DocumentState) → RangesFollowPast document [] document
nothing_follows document = record { text = record { can = tt; leads = refl }; ranges = λ none. refl }

more_follow : GoesOn RangesFollowPast
more_follow document splice log ranges rest new fits moved later = record {
  text = record { can = (fits, later.text.can); leads = later.text.leads };
  ranges = λ none. later.ranges none ∙ ap (λ (r : List AtomicRange). ranges_over r rest) (moved none);
}

-- whatever the layout
follows_as : (old new other : DocumentState) (splices : List Splice) → IsRelaid other new → RangesFollowPast old splices new → RangesFollowPast old splices other
follows_as old new other splices same h = subst (RangesFollowPast old splices) (sym same) (record { text = h.text; ranges = h.ranges })

pub ranges_follow_undo : (document : DocumentState) → IsSound document → RangesFollowPast document (undo_splices document) (after_undo document)
ranges_follow_undo document h =
    follows_as document (times (newest_group document.log) edit_undone document) (after_undo document) (undo_splices document) (undo_relaid document)
    (over_undos RangesFollowPast nothing_follows more_follow (newest_group document.log) document (sound_inside document h))

pub ranges_follow_redo : (document : DocumentState) → IsSound document → RangesFollowPast document (redo_splices document) (after_redo document)
ranges_follow_redo document h =
    follows_as document (times (next_group document.log) edit_redone document) (after_redo document) (redo_splices document) (redo_relaid document)
    (over_redos RangesFollowPast nothing_follows more_follow (next_group document.log) document (sound_inside document h))

-- if no ranges are remembered, they follow as over other splices
pub follows_unless_remembered : (old new : DocumentState) (splices : List Splice) → old.past_ranges.before ≡ [] → RangesFollowPast old splices new → RangesFollowSplices old splices new
follows_unless_remembered old new splices none h = record { text = h.text; ranges = h.ranges none }

-- ---- each range comes from an old one

pub record From {X Y : Type 0} (f : X → Option Y) (xs : List X) (y : Y) : Type 0 where
  pub x : X
  pub stored : Contains xs x
  pub is : f x ≡ Some y

from_rest : {X Y : Type 0} (f : X → Option Y) (first : X) (xs : List X) (y : Y) → From f xs y → From f (first ∷ xs) y
from_rest f first xs y found = record { x = found.x; stored = (suc found.stored.0, suc-le-suc found.stored.1, found.stored.2); is = found.is }

from_cons : {X Y : Type 0} (f : X → Option Y) (first : X) (xs : List X) (y : Y) (found : Option Y) → f first ≡ found → (Contains (filter_map f xs) y → From f xs y) →
    Contains (cons_option found (filter_map f xs)) y → From f (first ∷ xs) y
from_cons f first xs y None e rest h = from_rest f first xs y (rest h)
from_cons f first xs y (Some z) e rest (zero, within, is) = record { x = first; stored = (zero, omega arith, refl); is = e ∙ ap Some is }
from_cons f first xs y (Some z) e rest (suc k, within, is) = from_rest f first xs y (rest (k, omega arith, is))

from_list : {X Y : Type 0} (f : X → Option Y) (xs : List X) (y : Y) → Contains (filter_map f xs) y → From f xs y
from_list f [] y h = absurd (omega (arith, h.1))
from_list f (x ∷ xs) y h = from_cons f x xs y (f x) refl (from_list f xs y) h

pub from_moved : (ranges : List AtomicRange) (splice : Splice) (range : AtomicRange) → Contains (moved_ranges ranges splice) range → From (moved_range splice) ranges range
unfolding moved_ranges
from_moved ranges splice range h = from_list (moved_range splice) ranges range h

record Origin (text : List Symbol) (ranges : List AtomicRange) (splices : List Splice) (range : AtomicRange) : Type 0 where
  origin : AtomicRange
  stored : Contains ranges origin
  carried : carried_range (Some origin) splices ≡ Some range
  covers : CoversTheSame text (applied_all text splices) origin range

origin_over : (text : List Symbol) (ranges : List AtomicRange) (splices : List Splice) (range : AtomicRange) → AreValid (lines text) ranges → CanApply text splices →
    Contains (ranges_over ranges splices) range → Origin text ranges splices range
origin_over text ranges [] range valid can h =
    record { origin = range; stored = h; carried = refl; covers = record { in_line = All-contains (IsRangeOfLine (lines text)) ranges range valid.components h; same = refl } }
origin_over text ranges (splice ∷ rest) range valid can h =
    let later = origin_over (applied text splice) (moved_ranges ranges splice) rest range (valid_moved text splice ranges can.0 valid) can.1 h in
    let here = from_moved ranges splice later.origin later.stored in
    let in_line : IsRangeOfLine (lines text) here.x = All-contains (IsRangeOfLine (lines text)) ranges here.x valid.components here.stored in
    let covers = covers_the_same text splice here.x later.origin can.0 in_line here.is in
    record {
      origin = here.x;
      stored = here.stored;
      carried = ap (λ (o : Option AtomicRange). carried_range o rest) here.is ∙ later.carried;
      covers = record { in_line = later.covers.in_line; same = later.covers.same ∙ covers.same };
    }

pub stems_from : (old new : DocumentState) (splices : List Splice) → IsSound old → RangesFollowSplices old splices new → (range : AtomicRange) → Contains new.ranges range →
    StemsFrom old splices new range
stems_from old new splices sound h range stored =
    let found = origin_over old.text old.ranges splices range sound.ranges h.text.can (subst (λ (r : List AtomicRange). Contains r range) h.ranges stored) in
    record {
      origin = found.origin;
      stored = found.stored;
      carried = found.carried;
      covers = subst (λ t. CoversTheSame old.text t found.origin range) h.text.leads found.covers;
    }

pub all_stem : (old new : DocumentState) (splices : List Splice) → IsSound old → RangesFollowSplices old splices new → AllStemFrom old splices new
all_stem old new splices sound h k d within = stems_from old new splices sound h (get_or new.ranges k d) (Contains-get_or new.ranges k d within)

-- ---- each old range is moved on, or one splice disturbs it

contains_rest : {Y : Type 0} (found : Option Y) (ys : List Y) (y : Y) → Contains ys y → Contains (cons_option found ys) y
contains_rest None ys y h = h
contains_rest (Some z) ys y h = (suc h.0, suc-le-suc h.1, h.2)

contains_first : {Y : Type 0} (found : Option Y) (ys : List Y) (y : Y) → found ≡ Some y → Contains (cons_option found ys) y
contains_first found ys y e = subst (λ o. Contains (cons_option o ys) y) (sym e) (zero, omega arith, refl)

to_list : {X Y : Type 0} (f : X → Option Y) (xs : List X) (x : X) (y : Y) → Contains xs x → f x ≡ Some y → Contains (filter_map f xs) y
to_list f [] x y h e = absurd (omega (arith, h.1))
to_list f (first ∷ xs) x y (zero, within, is) e = contains_first (f first) (filter_map f xs) y (ap f is ∙ e)
to_list f (first ∷ xs) x y (suc k, within, is) e = contains_rest (f first) (filter_map f xs) y (to_list f xs x y (k, omega arith, is) e)

to_moved : (ranges : List AtomicRange) (splice : Splice) (range new : AtomicRange) → Contains ranges range → moved_range splice range ≡ Some new → Contains (moved_ranges ranges splice) new
unfolding moved_ranges
to_moved ranges splice range new h e = to_list (moved_range splice) ranges range new h e

abbrev StaysOrIsDropped : List AtomicRange → List Splice → AtomicRange → Type 0
StaysOrIsDropped ranges splices range =
    ((carried : AtomicRange) × (carried_range (Some range) splices ≡ Some carried) × Contains (ranges_over ranges splices) carried) ⊎ IsDroppedBy range splices

over_first : (ranges : List AtomicRange) (splice : Splice) (rest : List Splice) (range : AtomicRange) (found : Option AtomicRange) → Contains ranges range → moved_range splice range ≡ found →
    ((next : AtomicRange) → Contains (moved_ranges ranges splice) next → StaysOrIsDropped (moved_ranges ranges splice) rest next) → StaysOrIsDropped ranges (splice ∷ rest) range
over_first ranges splice rest range None h e later = inr (inl ((dropped splice range).0 e))
over_first ranges splice rest range (Some next) h e later =
    elim (later next (to_moved ranges splice range next h e)) [
      | inl on ↦ inl (on.0, ap (λ (o : Option AtomicRange). carried_range o rest) e ∙ on.1, on.2)
      | inr gone ↦ inr (inr (next, e, gone))
    ]

stays_or_dropped : (ranges : List AtomicRange) (splices : List Splice) (range : AtomicRange) → Contains ranges range → StaysOrIsDropped ranges splices range
stays_or_dropped ranges [] range h = inl (range, refl, h)
stays_or_dropped ranges (splice ∷ rest) range h =
    over_first ranges splice rest range (moved_range splice range) h refl (stays_or_dropped (moved_ranges ranges splice) rest)

pub all_stay_or_are_dropped : (old new : DocumentState) (splices : List Splice) → RangesFollowSplices old splices new → AllStayOrAreDropped old splices new
all_stay_or_are_dropped old new splices h k d within =
    let range = get_or old.ranges k d in
    elim (stays_or_dropped old.ranges splices range (Contains-get_or old.ranges k d within)) [
      | inl on ↦ inl (on.0, on.1, subst (λ (r : List AtomicRange). Contains r on.0) (sym h.ranges) on.2)
      | inr gone ↦ inr gone
    ]

-- ---- which ranges an edit drops

removed_by : (inserts : Bool) (place to : Place) (range : AtomicRange) → SplitsNoRangeBy inserts (range ∷ []) place to → DisturbsBy inserts place to range →
    (inserts ≡ false) × TakesRange place to range
removed_by true place to range cuts disturbs = absurd (cuts 0 range (omega arith) disturbs)
removed_by false place to range cuts disturbs =
    elim (cuts 0 range (omega arith)) [
      | inl within ↦ (refl, within)
      | inr beside ↦ absurd (not_beside place to range disturbs beside)
    ]

one_splits : (inserts : Bool) (ranges : List AtomicRange) (place to : Place) (range : AtomicRange) → SplitsNoRangeBy inserts ranges place to → Contains ranges range →
    SplitsNoRangeBy inserts (range ∷ []) place to
one_splits true ranges place to range cuts stored =
    All-cons (λ r. ¬ IsInside place r) range [] (All-contains (λ r. ¬ IsInside place r) ranges range cuts stored) (All-nil (λ r. ¬ IsInside place r))
one_splits false ranges place to range cuts stored =
    All-cons (λ r. TakesRange place to r ⊎ IsBeside place to r) range [] (All-contains (λ r. TakesRange place to r ⊎ IsBeside place to r) ranges range cuts stored) (All-nil (λ r. TakesRange place to r ⊎ IsBeside place to r))

pub only_removed : (ranges : List AtomicRange) (splice : Splice) (range : AtomicRange) → SplitsNoRange ranges splice → Contains ranges range → moved_range splice range ≡ None →
    (splice.inserts ≡ false) × TakesRange splice.place (end splice.place splice.symbols) range
only_removed ranges splice range cuts stored is =
    let to = end splice.place splice.symbols in
    removed_by splice.inserts splice.place to range (one_splits splice.inserts ranges splice.place to range cuts stored) ((dropped splice range).0 is)
