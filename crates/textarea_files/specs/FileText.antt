-- The bytes of a file and its lines.
use Rattle.std.specs.Prelude.{ℕ, ◌-◌, ◌==◌, ◌&&◌, not, Bool, true, false, List, [], ◌∷◌, ◌++◌, length, slice_get, Option, None, Some, if◌then◌else◌, string_bytes, String}
use Rattle.std.specs.List.{flat_map, join_by, list_any}
use Rattle.std.specs.declared.alloc.Global.{Global}
use Rattle.textarea_files.specs.declared.file_text.LineEnd.{LineEnd}
use Rattle.textarea_files.specs.declared.file_text.LineEnd.TheVariants.{LineFeed, CarriageReturn}
use Rattle.textarea_files.specs.declared.file_text.LineEnds.{LineEnds}

-- the bytes of a line end
abbrev pub end_bytes : LineEnd → List ℕ
end_bytes LineFeed = 10 ∷ []
end_bytes CarriageReturn = 13 ∷ 10 ∷ []

-- the lines, with a line end after each
abbrev pub closed_bytes : {Z : Type 0} → LineEnd → List (String Z) → List ℕ
closed_bytes end lines = flat_map (λ line. string_bytes line ++ end_bytes end) lines

-- the lines, with a line end between each two
abbrev pub joined_bytes : {Z : Type 0} → LineEnd → List (String Z) → List ℕ
joined_bytes end lines = join_by string_bytes (end_bytes end) lines

-- the end of the last line, if it isn't empty
abbrev pub line_closed : Bool → LineEnd → List ℕ
line_closed true end = []
line_closed false end = end_bytes end

abbrev pub end_after : Option (String Global) → LineEnd → List ℕ
end_after None end = []
end_after (Some line) end = line_closed (length (string_bytes line) == 0) end

-- what is after the last line, if that is closed or not
abbrev pub end_if : Bool → LineEnd → List (String Global) → List ℕ
end_if true end lines = end_after (slice_get lines (length lines - 1)) end
end_if false end lines = []

abbrev pub last_end : LineEnds → List (String Global) → List ℕ
last_end ends lines = end_if ends.closes_last ends.between lines

-- the bytes of a file with these lines
abbrev pub file_bytes : LineEnds → List (String Global) → List ℕ
file_bytes ends lines = joined_bytes ends.between lines ++ last_end ends lines

-- whether a carriage return, 13, is directly before each line feed, 10; the byte before these was
-- one or not
abbrev pub has_returns : Bool → List ℕ → Bool
has_returns was_return [] = true
has_returns was_return (byte ∷ bytes) =
    if byte == 10 && not was_return then false else has_returns (byte == 13) bytes

-- the line end of a text
abbrev pub line_end_of : List ℕ → LineEnd
line_end_of text =
    if list_any (λ byte. byte == 10) text && has_returns false text then CarriageReturn else LineFeed
