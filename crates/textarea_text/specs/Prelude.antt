-- The names that contracts and proofs of this crate use. Declares nothing.
pub use Rattle.std.specs.Char.{IsScalar}
pub use Rattle.std.specs.Fmt.{is_char_start}
unfoldable pub use Rattle.std.specs.Fmt.{char_count}
pub use Rattle.std.specs.List.{AllZip, enumerate_from}
pub use Rattle.std.specs.Option.{IfSome, IsSome, unwrap_or}
pub use Rattle.std.specs.Result.{OnErr, OnOk}
pub use Rattle.std.specs.Str.{IsCharBoundary, IsUtf8, NoCharPasses, NonePass}
unfoldable pub use Rattle.std.specs.Str.{chars}
pub use Rattle.std.specs.Str.Iter.{chars_rest}
pub use Rattle.std.specs.Str.Pattern.{HasCharAt}
pub use Rattle.std.specs.String.{string_len}
pub use Rattle.textarea_util.specs.Limit.{size_limit}
pub use Rattle.textarea_util.specs.Replaced.{replaced}
pub use Rattle.textarea_text.specs.Between.{clip, symbols_between}
pub use Rattle.textarea_text.specs.Fragment.{begins_with_line_feed, fragment_symbols, fragment_text, symbols_for, unified, unified_after, without_last_break}
pub use Rattle.textarea_text.specs.Nearest.{IsGreatest, IsLeast, greatest_below}
pub use Rattle.textarea_text.specs.Offset.{offset_at}
pub use Rattle.textarea_text.specs.Place.{IsBefore, IsPlace, IsPlaceOf, IsSymbolBefore, IsUpTo, OccursAt, Place, ReplacesRows, changed, end, index_of, inserted, last_row, line_end, line_of, place_of, removed, row_start}
pub use Rattle.textarea_text.specs.PlacesAfterSplice.{FollowsText, Stays, carried_index, carried_place, is_up_to, shifted}
pub use Rattle.textarea_text.specs.Size.{size_of, weight}
pub use Rattle.textarea_text.specs.Splice.{Allows, Fits, Splice, applied, inverse, place_after, place_before}
pub use Rattle.textarea_text.specs.Tab.{width_of}
pub use Rattle.textarea_text.specs.Text.{Break, Character, Symbol, characters, characters_of, following, joined, leading, lines, lines_of, on_first, symbol_in, text_of}
pub use Rattle.textarea_text.specs.Touched.{ReplacesBetween, breaks_of}
pub use Rattle.textarea_text.specs.Words.{begins, class_at, class_of, ends, is_earlier_word_start, is_edge, is_later_edge, is_later_past_word, is_later_word_start, is_past_word, is_space_class}
pub use Rattle.textarea_text.specs.Words.{is_word_last, is_word_last_from, is_word_start, lies_between, next_edge, next_past_word, next_word_last, next_word_start, previous_word_start}
pub use Rattle.textarea_text.specs.declared.word.CharKind.{CharKind}
pub use Rattle.textarea_text.specs.declared.word.CharKind.TheVariants.{Other, Punct, Space}
pub use Rattle.textarea_text.specs.declared.word.Edge.{Edge}
pub use Rattle.textarea_text.specs.declared.word.Edge.TheVariants.{Past, Start}
