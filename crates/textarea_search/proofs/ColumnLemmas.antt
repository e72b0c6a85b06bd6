-- Byte offsets of a line and their columns.
use Rattle.std.proofs.lemmas.Grind.{common_steps}
use Rattle.std.proofs.Common.{◌≡◌, ℕ, zero, suc, ◌+◌, ◌-◌, ◌<◌, ◌≤◌, Bool, List, [], ◌∷◌, ◌++◌, map, length, take, drop, option_map, refl, sym, ap, subst, ◌∙◌, inl, inr, ⊎_elim, arith, IsUtf8, IsCharBoundary, encode_utf8_all, encode_utf8}
use Rattle.std.specs.Prelude.{All}
use Rattle.std.specs.List.{find}
use Rattle.std.specs.Str.{chars}
use Rattle.std.proofs.Math.Seq.{take-add}
use Rattle.std.proofs.lemmas.Bool.{cases_lt}
use Rattle.std.proofs.lemmas.Bool.Decides.{nat_tests}
use Rattle.std.proofs.lemmas.List.{take-append-drop, take_at, length-append, length-drop, length-take-le}
use Rattle.std.proofs.lemmas.List.Elements.{All-weaker}
use Rattle.std.proofs.lemmas.Str.{chars-append, encodes-chars, IsUtf8-take, length-encode, length-le-encodes, len_utf8_bounds}
use Rattle.textarea_text.proofs.Columns.{IsCharBoundary-column, chars-take, length-offset, length_split}
use Rattle.textarea_search.specs.Columns.{column_of_byte}
use Rattle.textarea_search.specs.Starts.{along, is_ahead_in_line}
use Rattle.textarea_search.specs.declared.search.direction.Direction.{Direction}
use Rattle.textarea_search.specs.declared.search.direction.Direction.TheVariants.{Forward, Back}
use Rattle.textarea_search.proofs.ListedLemmas.{LiesFrom}
use Rattle.textarea_search.proofs.StartLemmas.{find-map, find-same, map_reverse, All-reverse}

-- the byte offset at which a column of these characters begins
abbrev pub byte_at : List ℕ → ℕ → ℕ
byte_at cs column = length (encode_utf8_all (take column cs))

-- ---- a byte offset between characters as a column

pub column_at_boundary : (line : List ℕ) (byte : ℕ) → IsUtf8 line → IsCharBoundary line byte →
    (column_of_byte line byte ≤ length (chars line)) × (byte_at (chars line) (column_of_byte line byte) ≡ byte)
column_at_boundary line byte text boundary =
    let front = take byte line in
    let is_text : IsUtf8 front = IsUtf8-take line byte text boundary in
    let components : chars line ≡ chars front ++ chars (drop byte line) =
    ap chars (sym (take-append-drop byte line)) ∙ chars-append front (drop byte line) is_text in
    let all : length (chars line) ≡ length (chars front) + length (chars (drop byte line)) = ap length components ∙ length-append (chars front) (chars (drop byte line)) in
    let same : take (length (chars front)) (chars line) ≡ chars front = ap (take (length (chars front))) components ∙ take_at (chars front) (chars (drop byte line)) (length (chars front)) refl in
    (omega arith, ap (λ cs. length (encode_utf8_all cs)) same ∙ ap length (encodes-chars front is_text) ∙ length-take-le byte line boundary.0)

-- the column of a later byte offset, by the characters between
pub column_later : (line : List ℕ) (from to : ℕ) → IsUtf8 line → IsCharBoundary line from → from ≤ to → to ≤ length line →
    column_of_byte line to ≡ column_of_byte line from + length (chars (take (to - from) (drop from line)))
column_later line from to text boundary le within =
    let front = take from line in
    let between = take (to - from) (drop from line) in
    let is_text : IsUtf8 front = IsUtf8-take line from text boundary in
    let sum : from + (to - from) ≡ to = omega arith in
    let parts : take to line ≡ front ++ between = ap (λ n. take n line) (sym sum) ∙ take-add from (to - from) line in
    ap (λ bs. length (chars bs)) parts ∙ ap length (chars-append front between is_text) ∙ length-append (chars front) (chars between)

-- the same as the code counts it
pub column_sum : (line between : List ℕ) (from to column count : ℕ) → IsUtf8 line → IsCharBoundary line from → IsCharBoundary line to → from ≤ to →
    column ≡ column_of_byte line from → between ≡ take (to - from) (drop from line) → count ≡ length (chars between) →
    (column + count ≡ column_of_byte line to) × (column + count ≤ length (chars line))
column_sum line between from to column count text boundary end le known part counted =
    let sum : column + count ≡ column_of_byte line to =
    omega (arith, column_later line from to text boundary le end.0, known, counted, ap (λ bs. length (chars bs)) part) in
    (sum, omega (arith, (column_at_boundary line to text end).0))

-- columns and their byte offsets are in the same order
byte_at-below : (cs : List ℕ) (i j : ℕ) → i < j → j ≤ length cs → byte_at cs i < byte_at cs j
byte_at-below [] i j lt le = absurd (omega arith)
byte_at-below (c ∷ cs) i zero lt le = absurd (omega arith)
byte_at-below (c ∷ cs) zero (suc j) lt le =
    omega (arith, length-append (encode_utf8 c) (encode_utf8_all (take j cs)), length-encode c, (len_utf8_bounds c).0)
byte_at-below (c ∷ cs) (suc i) (suc j) lt le =
    let rest = byte_at-below cs i j (omega arith) (omega arith) in
    omega (arith, length-append (encode_utf8 c) (encode_utf8_all (take i cs)), length-append (encode_utf8 c) (encode_utf8_all (take j cs)))

-- the byte offset compares to the offsets between characters as the column does to their columns
pub record IsByteOfColumn (line : List ℕ) (column byte : ℕ) : Type 0 where
  pub inside : column ≤ length (chars line) → byte ≡ byte_at (chars line) column
  pub past : length (chars line) < column → length line < byte

-- an offset that isn't past the line is that of the column
pub within_line : (line : List ℕ) (column byte : ℕ) → IsByteOfColumn line column byte → byte ≤ length line → (column ≤ length (chars line)) × (byte ≡ byte_at (chars line) column)
within_line line column byte is le =
    elim (cases_lt (length (chars line)) column) [ inl far ↦ absurd (omega (arith, is.past far)) | inr near ↦ (near, is.inside near) ]

pub boundary_within : (line : List ℕ) (column byte : ℕ) → IsUtf8 line → IsByteOfColumn line column byte → byte ≤ length line → IsCharBoundary line byte
boundary_within line column byte text is le =
    subst (IsCharBoundary line) (sym (within_line line column byte is le).1) (IsCharBoundary-column line column text)

pub column_within : (line : List ℕ) (column byte : ℕ) → IsUtf8 line → IsByteOfColumn line column byte → byte ≤ length line → column ≡ column_of_byte line byte
column_within line column byte text is le =
    let near = within_line line column byte is le in
    let front = IsUtf8-take line byte text (boundary_within line column byte text is le) in
    sym (ap length (chars-take line (take byte line) column text front (ap (λ n. take n line) near.1)) ∙ length-take-le column (chars line) near.0)

-- if each character is one byte, columns are byte offsets
pub offset_of_single : (line : List ℕ) (column : ℕ) → IsUtf8 line → length (chars line) ≡ length line → column ≤ length (chars line) → column ≡ byte_at (chars line) column
offset_of_single line column text single le =
    omega (arith, length-offset line column text le, length_split line column text, length-le-encodes (drop column (chars line)), length-drop column (chars line))

-- two pairs of numbers are in the same order
record SameOrder (x y m n : ℕ) : Type 0 where
  less : m < n → x < y
  same : m ≡ n → x ≡ y
  more : n < m → y < x

module _ (line : List ℕ) (column byte : ℕ) (text : IsUtf8 line) (occurs : IsByteOfColumn line column byte) (start : ℕ) (boundary : IsCharBoundary line start) where
  in_order : SameOrder start byte (column_of_byte line start) column
  in_order =
      let cs = chars line in
      let k = column_of_byte line start in
      let at = column_at_boundary line start text boundary in
      ⊎_elim
      (λ (beyond : length cs < column). let far = occurs.past beyond in record { less = λ _. omega (arith, boundary.0); same = λ e. absurd (omega arith); more = λ lt. absurd (omega arith) })
      (λ (within : column ≤ length cs). let is = occurs.inside within in record {
        less = λ lt. omega (arith, byte_at-below cs k column lt within);
        same = λ e. sym at.1 ∙ ap (byte_at cs) e ∙ sym is;
        more = λ lt. omega (arith, byte_at-below cs column k lt at.0);
      })
      (cases_lt (length cs) column)

same_ahead : (direction : Direction) (x y m n : ℕ) (at : Bool) → SameOrder x y m n →
    is_ahead_in_line direction y at x ≡ is_ahead_in_line direction n at m
same_ahead Forward x y m n at o = grind (arith, common_steps, nat_tests)
same_ahead Back x y m n at o = grind (arith, common_steps, nat_tests)

pub All-along : {X : Type 0} (P : X → Type 0) (direction : Direction) (xs : List X) → All P xs → All P (along direction xs)
All-along P Forward xs h = h
All-along P Back xs h = All-reverse P xs h

map_along : {X Y : Type 0} (f : X → Y) (direction : Direction) (xs : List X) → map f (along direction xs) ≡ along direction (map f xs)
map_along f Forward xs = refl
map_along f Back xs = map_reverse f xs

-- ---- from a search by byte offsets to one by columns

abbrev pub column_of_span : List ℕ → ℕ × ℕ → ℕ
column_of_span line s = column_of_byte line s.0

module _ (line : List ℕ) (spans : List (ℕ × ℕ)) (lie : All (LiesFrom line 0) spans) (direction : Direction) where
  pub find_ahead : (column byte : ℕ) (at : Bool) → IsUtf8 line → IsByteOfColumn line column byte →
      option_map (column_of_span line) (find (λ s. is_ahead_in_line direction byte at s.0) (along direction spans))
      ≡ find (is_ahead_in_line direction column at) (along direction (map (column_of_span line) spans))
  find_ahead column byte at text occurs =
      let p : ℕ × ℕ → Bool = λ s. is_ahead_in_line direction byte at s.0 in
      let q : ℕ × ℕ → Bool = λ s. is_ahead_in_line direction column at (column_of_span line s) in
      ap (option_map (column_of_span line)) (find-same p q (along direction spans) (All-along (λ s. p s ≡ q s) direction spans
      (All-weaker (LiesFrom line 0) (λ s. p s ≡ q s) (λ s lies. same_ahead direction s.0 byte (column_of_span line s) column at (in_order line column byte text occurs s.0 lies.1)) spans lie)))
      ∙ sym (find-map (is_ahead_in_line direction column at) (column_of_span line) (along direction spans))
      ∙ ap (find (is_ahead_in_line direction column at)) (map_along (column_of_span line) direction spans)
