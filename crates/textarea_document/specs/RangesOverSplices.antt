-- How the atomic ranges of a document move with its text, over one splice after another.
use Rattle.std.specs.Prelude.{◌≡◌, ◌⊎◌, List, [], ◌∷◌, All, Contains, Option, None, Some}
use Rattle.textarea_text.specs.Splice.{Splice, IsTextBefore}
use Rattle.textarea_data.specs.declared.range.AtomicRange.{AtomicRange}
use Rattle.textarea_ranges.specs.Moved.{CoversTheSame, Disturbs, moved_range, moved_ranges}
use Rattle.textarea_document.specs.Ranges.{SplitsNoRange}
use Rattle.textarea_document.specs.DocumentState.{DocumentState}

-- the ranges after the splices, one after another
abbrev pub ranges_over : List AtomicRange → List Splice → List AtomicRange
ranges_over ranges [] = ranges
ranges_over ranges (splice ∷ rest) = ranges_over (moved_ranges ranges splice) rest

-- the splices in order lead from the document's text to the other's, and the ranges move with it
pub record RangesFollowSplices (old : DocumentState) (splices : List Splice) (new : DocumentState) : Type 0 where
  pub text : IsTextBefore old.text new.text splices
  pub ranges : new.ranges ≡ ranges_over old.ranges splices

-- The same over the splices of an undo or a redo, where the ranges move with the text if none are
-- remembered from before.
pub record RangesFollowPast (old : DocumentState) (splices : List Splice) (new : DocumentState) : Type 0 where
  pub text : IsTextBefore old.text new.text splices
  pub ranges : old.past_ranges.before ≡ [] → new.ranges ≡ ranges_over old.ranges splices

-- each of the splices splits none of the ranges at its time: what it inserts is strictly inside
-- none, and what it removes contains each completely or not at all
abbrev pub SplitNoRange : List AtomicRange → List Splice → Type 0
SplitNoRange ranges [] = Unit {0}
SplitNoRange ranges (splice ∷ rest) =
    SplitsNoRange ranges splice × SplitNoRange (moved_ranges ranges splice) rest

-- the ranges move with the text over these splices, and none of the splices splits a range
abbrev pub RangesStayWhole : DocumentState → List Splice → DocumentState → Type 0
RangesStayWhole old splices new = RangesFollowSplices old splices new × SplitNoRange old.ranges splices

-- ---- where a range comes from, and what happens to one

-- the range, if there is one, as the splices move it in order; none if one of them drops it
abbrev pub carried_range : Option AtomicRange → List Splice → Option AtomicRange
carried_range None splices = None
carried_range (Some range) [] = Some range
carried_range (Some range) (splice ∷ rest) = carried_range (moved_range splice range) rest

-- The range of the new document comes from one of the old document: the splices move that range to
-- it, and both cover the same characters, all in one line.
pub record StemsFrom (old : DocumentState) (splices : List Splice) (new : DocumentState) (range : AtomicRange) : Type 0 where
  pub origin : AtomicRange
  pub stored : Contains old.ranges origin
  pub carried : carried_range (Some origin) splices ≡ Some range
  pub covers : CoversTheSame old.text new.text origin range

-- each range of the new document comes from one of the old one
abbrev pub AllStemFrom : DocumentState → List Splice → DocumentState → Type 0
AllStemFrom old splices new = All (StemsFrom old splices new) new.ranges

-- one of the splices disturbs the range, as the splices before it move it: it inserts strictly
-- inside it, or removes a character of it
abbrev pub IsDroppedBy : AtomicRange → List Splice → Type 0
IsDroppedBy range [] = ⊥
IsDroppedBy range (splice ∷ rest) =
    Disturbs splice range
    ⊎ ((carried : AtomicRange) × (moved_range splice range ≡ Some carried) × IsDroppedBy carried rest)

-- the new document has the range, as the splices move it
abbrev pub IsCarriedTo : AtomicRange → List Splice → DocumentState → Type 0
IsCarriedTo range splices new =
    (carried : AtomicRange) × (carried_range (Some range) splices ≡ Some carried) × Contains new.ranges carried

-- each range of the old document is moved to the new one, or one of the splices disturbs it
abbrev pub AllStayOrAreDropped : DocumentState → List Splice → DocumentState → Type 0
AllStayOrAreDropped old splices new =
    All (λ range. IsCarriedTo range splices new ⊎ IsDroppedBy range splices) old.ranges
