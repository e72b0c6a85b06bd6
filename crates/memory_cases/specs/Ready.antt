-- Edits that can be made on a text.
use Rattle.std.specs.Prelude.{◌≡◌, ◌≤◌, List, IfSome}
use Rattle.textarea_text.specs.Text.{Symbol}
use Rattle.textarea_text.specs.Place.{Place, end}
use Rattle.textarea_text.specs.Splice.{Fits}
use Rattle.textarea_history.specs.Edit.{end_of_kind, line_count_of, splice_of, symbols_of}
use Rattle.textarea_history.specs.declared.edit.EditKind.{EditKind}

-- an edit of the kind, with its two cursor positions, is well formed and fits the text
pub record IsEditReady (text : List Symbol) (kind : EditKind) (before after : Place) : Type 0 where
  pub fragment_lines : IfSome (line_count_of kind) (λ n. 2 ≤ n)
  pub ends : end_of_kind kind before after ≡ end (splice_of kind before after).place (symbols_of kind)
  pub fits : Fits text (splice_of kind before after)
