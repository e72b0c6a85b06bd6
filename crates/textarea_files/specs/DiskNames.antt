-- What the name of the copy in a save begins with, and the name of the journal of a file.
use Rattle.std.specs.Prelude.{ℕ, List, ◌++◌, codes}

-- a name with a dot in front, so that lists of a folder leave it out
abbrev pub hidden_name : List ℕ → List ℕ
hidden_name last = codes "." ++ last

-- the name of the journal of a file that has this name in its folder
abbrev pub journal_name : List ℕ → List ℕ
journal_name last = hidden_name (last ++ codes ".taedit-journal")
