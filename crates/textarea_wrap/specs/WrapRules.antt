-- The right ways to wrap a line into visual rows. A segment is a grapheme cluster or a unit, given
-- by its bytes. A stretch is a run of segments in one row.
use Rattle.std.specs.Prelude.{◌≡◌, ℕ, ◌+◌, ◌<◌, ◌≤◌, ◌⊎◌, Bool, true, false, not, List, [], ◌∷◌, ◌++◌, map, length}
use Rattle.std.specs.List.{concat, flat_map, AllByRecursion}
use Rattle.unicode_segmentation.specs.Grapheme.{graphemes}
use Rattle.textarea_wrap.specs.Columns.{stretch_width}
use Rattle.textarea_wrap.specs.Units.{is_blank, line_units}

abbrev pub Stretch : Type 0
Stretch = List (List ℕ)

-- the segments of all stretches, in order
abbrev pub stretches_of : List Stretch → Stretch
stretches_of [] = []
stretches_of (stretch ∷ stretches) = stretch ++ stretches_of stretches

-- the byte ranges of consecutive texts from an offset on
abbrev pub ranges_from : ℕ → List (List ℕ) → List (ℕ × ℕ)
ranges_from at [] = []
ranges_from at (text ∷ texts) = (at, at + length text) ∷ ranges_from (at + length text) texts

-- ---- at cluster ends

-- the row has no room for the first cluster after it
abbrev pub HasNoRoomForNext : ℕ → ℕ → Stretch → Stretch → Type 0
HasNoRoomForNext tab_len width stretch [] = Unit {0}
HasNoRoomForNext tab_len width stretch (next ∷ later) = width < stretch_width tab_len (stretch ++ next ∷ [])

-- a row of clusters, followed by the clusters `later`
pub record IsGlyphRow (tab_len width : ℕ) (stretch later : Stretch) : Type 0 where
  pub nonempty : 0 < length stretch
  pub fits : (stretch_width tab_len stretch ≤ width) ⊎ (length stretch ≡ 1)
  pub full : HasNoRoomForNext tab_len width stretch later

-- rows of clusters, followed by the clusters `later`
abbrev pub AreGlyphRows : ℕ → ℕ → List Stretch → Stretch → Type 0
AreGlyphRows tab_len width [] later = Unit {0}
AreGlyphRows tab_len width (stretch ∷ stretches) later = IsGlyphRow tab_len width stretch (stretches_of stretches ++ later) × AreGlyphRows tab_len width stretches later

-- the rows of a text, wrapped at the ends of the clusters that it has by itself
pub record IsGlyphWrapping (tab_len width : ℕ) (text : List ℕ) (rows : List (List ℕ)) : Type 0 where
  pub stretches : List Stretch
  pub whole : stretches_of stretches ≡ graphemes true text
  pub wrapped : AreGlyphRows tab_len width stretches []
  pub rows_are : rows ≡ map concat stretches

-- ---- at unit ends

-- there is a unit, and the first is not all whitespace
abbrev pub begins_with_content : Stretch → Bool
begins_with_content [] = false
begins_with_content (unit ∷ later) = not (is_blank unit)

-- a whitespace unit ends one column past the width, before content
abbrev pub HangsOver : ℕ → ℕ → List ℕ → Stretch → Type 0
HangsOver width end unit later = (end ≡ width + 1) × (is_blank unit ≡ true) × (begins_with_content later ≡ true)

-- the units `front` and then `unit` fit in one row that is followed by the units `later`
abbrev pub FitsAfter : ℕ → ℕ → Stretch → List ℕ → Stretch → Type 0
FitsAfter tab_len width front unit later =
    (stretch_width tab_len (front ++ unit ∷ []) ≤ width)
    ⊎ ((0 < length front) × (stretch_width tab_len front ≤ width) × HangsOver width (stretch_width tab_len (front ++ unit ∷ [])) unit later)

-- the row has no room for the first unit after it
abbrev pub HasNoRoomForUnit : ℕ → ℕ → Stretch → Stretch → Type 0
HasNoRoomForUnit tab_len width stretch [] = Unit {0}
HasNoRoomForUnit tab_len width stretch (next ∷ later) = ¬ (FitsAfter tab_len width stretch next later)

-- the units fit in one row that is followed by the units `later`
pub record IsFittingStretch (tab_len width : ℕ) (stretch later : Stretch) : Type 0 where
  pub front : Stretch
  pub last : List ℕ
  pub stretch_is : stretch ≡ front ++ last ∷ []
  pub fits : FitsAfter tab_len width front last later

-- the units of one row (`shared`), or a unit that is too wide for one row, with its rows (`split`)
pub data UnitBlock : Type 0 where
  shared : Stretch → UnitBlock
  split : List ℕ → List (List ℕ) → UnitBlock

abbrev pub units_of : UnitBlock → Stretch
units_of (shared stretch) = stretch
units_of (split unit rows) = unit ∷ []

abbrev pub rows_of : UnitBlock → List (List ℕ)
rows_of (shared stretch) = concat stretch ∷ []
rows_of (split unit rows) = rows

abbrev pub IsBlock : ℕ → ℕ → UnitBlock → Stretch → Type 0
IsBlock tab_len width (shared stretch) later = IsFittingStretch tab_len width stretch later × HasNoRoomForUnit tab_len width stretch later
IsBlock tab_len width (split unit rows) later = (width < stretch_width tab_len (unit ∷ [])) × IsGlyphWrapping tab_len width unit rows

-- blocks, followed by the units `later`
abbrev pub AreBlocks : ℕ → ℕ → List UnitBlock → Stretch → Type 0
AreBlocks tab_len width [] later = Unit {0}
AreBlocks tab_len width (block ∷ blocks) later = IsBlock tab_len width block (flat_map units_of blocks ++ later) × AreBlocks tab_len width blocks later

-- the rows of a line that is wrapped at unit ends, and at cluster ends in units that are too wide
pub record IsWordWrapping (tab_len width : ℕ) (line : List ℕ) (rows : List (List ℕ)) : Type 0 where
  pub blocks : List UnitBlock
  pub whole : flat_map units_of blocks ≡ line_units line
  pub wrapped : AreBlocks tab_len width blocks []
  pub rows_are : rows ≡ flat_map rows_of blocks

-- ---- fewest rows

-- the row fits the width or is one cluster; it may have room for more
abbrev pub IsFittingRow : ℕ → ℕ → Stretch → Type 0
IsFittingRow tab_len width stretch = (stretch_width tab_len stretch ≤ width) ⊎ (length stretch ≡ 1)

-- each row fits in this way
abbrev pub AreFittingRows : ℕ → ℕ → List Stretch → Type 0
AreFittingRows tab_len width stretches = AllByRecursion (IsFittingRow tab_len width) stretches

-- there is one unit, and it is one whitespace cluster
abbrev pub IsBlankCluster : Stretch → Type 0
IsBlankCluster units = (unit : List ℕ) × (units ≡ unit ∷ []) × (is_blank unit ≡ true) × (length (graphemes true unit) ≡ 1)

-- no wrapping of the text at cluster ends into rows that each fit or are one cluster has fewer rows
abbrev pub HasFewestGlyphRows : ℕ → ℕ → List ℕ → ℕ → Type 0
HasFewestGlyphRows tab_len width text count =
    (stretches : List Stretch) → stretches_of stretches ≡ graphemes true text → AreFittingRows tab_len width stretches → count ≤ length stretches

abbrev pub IsFittingBlock : ℕ → ℕ → UnitBlock → Stretch → Type 0
IsFittingBlock tab_len width (shared stretch) later = IsFittingStretch tab_len width stretch later
IsFittingBlock tab_len width (split unit rows) later =
    (width < stretch_width tab_len (unit ∷ [])) × ((stretches : List Stretch) × (stretches_of stretches ≡ graphemes true unit) × AreFittingRows tab_len width stretches × (rows ≡ map concat stretches))

-- blocks that fit, followed by the units `later`; they may have room for more
abbrev pub AreFittingBlocks : ℕ → ℕ → List UnitBlock → Stretch → Type 0
AreFittingBlocks tab_len width [] later = Unit {0}
AreFittingBlocks tab_len width (block ∷ blocks) later =
    IsFittingBlock tab_len width block (flat_map units_of blocks ++ later) × AreFittingBlocks tab_len width blocks later

-- no wrapping of the line into stretches that fit and units that are too wide has fewer rows
abbrev pub HasFewestWordRows : ℕ → ℕ → List ℕ → ℕ → Type 0
HasFewestWordRows tab_len width line count =
    (blocks : List UnitBlock) → flat_map units_of blocks ≡ line_units line → AreFittingBlocks tab_len width blocks [] → count ≤ length (flat_map rows_of blocks)
