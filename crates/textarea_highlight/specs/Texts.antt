-- The text of a span as it is shown.
use Rattle.std.specs.Prelude.{ℕ, List}
use Rattle.textarea_screen.specs.Text.{ContentView}
use Rattle.textarea_screen.specs.Text.ContentView.{BorrowedBytes, OwnedBytes}

abbrev pub text_bytes_of : ContentView → List ℕ
text_bytes_of (BorrowedBytes text) = text
text_bytes_of (OwnedBytes text) = text

-- it is borrowed, so it was not copied
abbrev pub IsUncopied : ContentView → Type 0
IsUncopied (BorrowedBytes text) = Unit {0}
IsUncopied (OwnedBytes text) = ⊥
