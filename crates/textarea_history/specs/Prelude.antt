-- The names that contracts and proofs of this crate use. Declares nothing.
pub use Rattle.std.specs.Duration.{as_nanos}
pub use Rattle.std.specs.List.{All, AllZip}
pub use Rattle.std.specs.Option.{IfSome, IsSome}
pub use Rattle.std.specs.Str.{IsUtf8}
unfoldable pub use Rattle.std.specs.Str.{chars}
pub use Rattle.std.specs.String.{string_capacity, string_len}
pub use Rattle.std.specs.VecDeque.{deque_capacity, deque_len}
pub use Rattle.std.specs.declared.alloc.Global.{Global}
pub use Rattle.std.specs.Str.Iter.{chars_rest}
pub use Rattle.textarea_text.specs.Offset.{offset_at}
pub use Rattle.textarea_text.specs.Place.{IsPlace, IsPlaceOf, Place, OccursAt, changed, end, index_of, inserted, removed}
pub use Rattle.textarea_text.specs.Size.{size_of, weight}
pub use Rattle.textarea_text.specs.Splice.{Allows, CanApply, CanUndo, Fits, Splice, IsTextBefore, applied, applied_all, inverse, place_after, place_before}
pub use Rattle.textarea_text.specs.Text.{Break, Character, Symbol, characters, characters_of, following, joined, leading, lines, lines_of, symbol_in, text_of}
pub use Rattle.textarea_text.specs.Touched.{IsReplacementFor, ReplacesBetween, breaks_of, new_line_count, replaced_line_count}
pub use Rattle.textarea_text.specs.declared.rows.Replacement.{Replacement}
pub use Rattle.textarea_history.specs.Change.{FitsLines, IsRemovalInLine, MakesLines}
pub use Rattle.textarea_history.specs.Edit.{IsCopyOfEdit, IsCopyOfKind, IsWellFormed, Stored, directed, grows_of, inserts_of, line_count_in, line_count_of, stored_of, symbols_in, symbols_of}
pub use Rattle.textarea_history.specs.EditLaw.{IsUndone}
pub use Rattle.textarea_history.specs.Groups.{group_count, is_filled, is_forgotten, is_grouped, is_open, grouped_before, grouped_first, opened, with_edit}
pub use Rattle.textarea_history.specs.HistoryLaw.{EachFits, RestoresText, IsRedone, IsSame, IsSoundLog, edit_recorded, times}
pub use Rattle.textarea_history.specs.Log.{StoredLog, Log, Logged, Redoes, Undoes, appended_log, continues, continues_newest, done_appended, done_groups, done_joined, group_begun, group_closed}
pub use Rattle.textarea_history.specs.Log.{group_ended, group_forgotten, group_opened, is_full, is_outgrown, joined_log, marks_appended, newest_group, next_group, oldest_group, remaining_marks}
pub use Rattle.textarea_history.specs.Log.{edge_of, empty_log, grown, is_empty, is_same_direction, is_run_end, is_typed, joins, remaining_done, logged_of, redone_log, newest, next, pause, recorded}
pub use Rattle.textarea_history.specs.Log.{redone, redone_by, undone_log, typed_character, undone, undone_by, with_done}
pub use Rattle.textarea_history.specs.Run.{character_of, merged}
pub use Rattle.textarea_history.specs.Store.{IsRun, IsStore, IsRunEdge, grouped_in, log_at, log_in, room_at, spare_in, splice_in}
pub use Rattle.textarea_history.specs.declared.edit.Content.{Content}
pub use Rattle.textarea_history.specs.declared.edit.Content.TheVariants.{Typed}
pub use Rattle.textarea_history.specs.declared.history.groups.Group.{Group}
pub use Rattle.textarea_history.specs.declared.history.groups.Group.TheVariants.{Closed, Empty, Filled, Forgotten}
pub use Rattle.textarea_history.specs.declared.edit.EditKind.TheVariants.{DeleteChunk, InsertChunk}
