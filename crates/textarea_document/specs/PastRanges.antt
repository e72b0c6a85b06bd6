-- The ranges that are remembered for undo and redo: those before each of the newest edits.
use Rattle.std.specs.Prelude.{◌≡◌, ℕ, ◌-◌, Bool, false, List, [], ◌∷◌, drop, length, reverse, slice_get, take, Option, None, Some, if◌then◌else◌}
use Rattle.textarea_text.specs.Text.{Symbol, lines}
use Rattle.textarea_text.specs.Splice.{Splice, applied, inverse}
use Rattle.textarea_data.specs.declared.range.AtomicRange.{AtomicRange}
use Rattle.textarea_history.specs.Log.{Log, joins}
use Rattle.textarea_ranges.specs.Order.{AreInOrder}
use Rattle.textarea_ranges.specs.Valid.{AreValid}

-- whether ranges are remembered, and the lists of those before the edits of a history, the newest
-- edit first, whether it is done or undone; an edit after the end of the list has none
pub record PastRanges : Type 0 where
  pub on : Bool
  pub before : List (List AtomicRange)

-- none yet
abbrev pub no_past_ranges : Bool → PastRanges
no_past_ranges on = record { on = on; before = [] }

-- from now on ranges are remembered or not; none stay if not
abbrev pub past_ranges_set : PastRanges → Bool → PastRanges
past_ranges_set past on = record { on = on; before = if on then past.before else [] }

-- ---- an edit

-- the ranges to remember when an edit is recorded: none if it joins the newest one
abbrev pub ranges_to_remember : PastRanges → List AtomicRange → Log → Splice → Bool → ℕ → Option (List AtomicRange)
ranges_to_remember past ranges log splice typed now =
    if past.on then (if joins log splice typed now then None else Some ranges) else None

-- after an edit before which there were these ranges, if they are to be remembered: the lists of the
-- undone edits are dropped, and at most as many lists stay as edits are done then
abbrev pub with_newest : PastRanges → Option (List AtomicRange) → ℕ → ℕ → PastRanges
with_newest past None undone done = past
with_newest past (Some ranges) undone done =
    record past { before = take done (ranges ∷ drop undone past.before) }

-- ---- undo and redo

-- the ranges before the newest done edit, and before the one that was undone last, if they are
-- remembered
abbrev pub ranges_before_newest : PastRanges → Log → Option (List AtomicRange)
ranges_before_newest past log = slice_get past.before (length log.undone)

abbrev pub ranges_before_next : PastRanges → Log → Option (List AtomicRange)
ranges_before_next past log = slice_get past.before (length log.undone - 1)

-- the remembered ranges, or the others without any
abbrev pub ranges_or : Option (List AtomicRange) → List AtomicRange → List AtomicRange
ranges_or None ranges = ranges
ranges_or (Some past) ranges = past

-- ---- their texts

-- the texts before these done edits, the newest first, from the text after them
abbrev pub texts_back : List Symbol → List Splice → List (List Symbol)
texts_back text [] = []
texts_back text (splice ∷ older) =
    applied text (inverse splice) ∷ texts_back (applied text (inverse splice)) older

-- the same with the texts before these undone edits, the last one first, from the text before them
abbrev pub texts_ahead : List (List Symbol) → List Symbol → List Splice → List (List Symbol)
texts_ahead texts text [] = texts
texts_ahead texts text (splice ∷ later) = texts_ahead (text ∷ texts) (applied text splice) later

-- the text before each edit, the newest edit first
abbrev pub texts_before : List Symbol → List Splice → List Splice → List (List Symbol)
texts_before text done undone = texts_ahead (texts_back text (reverse done)) text undone

-- each list of ranges has this property with its text; there are at most as many lists as texts
abbrev pub AllBefore : (List Symbol → List AtomicRange → Type 0) → List (List Symbol) → List (List AtomicRange) → Type 0
AllBefore Has texts [] = Unit {0}
AllBefore Has [] (ranges ∷ before) = ⊥
AllBefore Has (text ∷ texts) (ranges ∷ before) = Has text ranges × AllBefore Has texts before

-- the ranges are valid for the text, and sorted
pub record IsValidList (text : List Symbol) (ranges : List AtomicRange) : Type 0 where
  pub valid : AreValid (lines text) ranges
  pub in_order : AreInOrder ranges

-- the remembered ranges are valid for these texts, and there are none if they aren't to be remembered
pub record ArePastRanges (texts : List (List Symbol)) (past : PastRanges) : Type 0 where
  pub off : past.on ≡ false → past.before ≡ []
  pub valid : AllBefore IsValidList texts past.before
