-- The bytes of a cursor's shape and of a window's title.
use Rattle.std.specs.Prelude.{ℕ, List, [], ◌∷◌, ◌++◌, codes, chars, encode_utf8, if◌then◌else◌}
use Rattle.std.specs.Char.{is_control}
use Rattle.std.specs.List.{flat_map}
use Rattle.textarea_terminal.specs.Control.{introducer}
use Rattle.textarea_terminal.specs.declared.output.title.CursorShape.{CursorShape}
use Rattle.textarea_terminal.specs.declared.output.title.CursorShape.TheVariants as shapes

-- DECSCUSR
abbrev pub cursor_shape_bytes : CursorShape → List ℕ
cursor_shape_bytes shapes.Default = introducer ++ codes "0 q"
cursor_shape_bytes shapes.BlinkingBlock = introducer ++ codes "1 q"
cursor_shape_bytes shapes.Block = introducer ++ codes "2 q"
cursor_shape_bytes shapes.BlinkingUnderline = introducer ++ codes "3 q"
cursor_shape_bytes shapes.Underline = introducer ++ codes "4 q"
cursor_shape_bytes shapes.BlinkingBar = introducer ++ codes "5 q"
cursor_shape_bytes shapes.Bar = introducer ++ codes "6 q"

-- a character's bytes, none of a control character's
abbrev pub printable_bytes : ℕ → List ℕ
printable_bytes c = if is_control c then [] else encode_utf8 c

-- OSC 2, with the title's characters that are no control characters, and its end
unfoldable pub title_bytes : List ℕ → List ℕ
title_bytes title = 27 ∷ codes "]2;" ++ flat_map printable_bytes (chars title) ++ 27 ∷ 92 ∷ []
