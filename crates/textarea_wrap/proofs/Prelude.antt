-- The lemmas of the library that proofs of this crate cite. Declares nothing.
pub use Rattle.std.proofs.Math.Nat.{div-add-mod, mul-le-mul_left, pow-suc}
pub use Rattle.std.proofs.Math.Seq.{take-add}
pub use Rattle.std.proofs.lemmas.Bool.{and_parts, cases_lt, cases_order, cond_both, false≢true, or_cases}
pub use Rattle.std.proofs.lemmas.Bool.Decides.{nat_tests}
pub use Rattle.std.proofs.lemmas.Fmt.{decimal_by_steps, decimal_digit, length-decimal-le}
pub use Rattle.std.proofs.lemmas.Grind.{common_steps, flat_map-append}
pub use Rattle.std.proofs.lemmas.List.{append-nil, append_assoc, drop_all, drop_at, get_or_append_left, length-append, length-map, length-take-le, map-append, nil_from_length, take-append-drop, take_at}
pub use Rattle.std.proofs.lemmas.List.Elements.{All-head, All-rest}
pub use Rattle.std.proofs.lemmas.List.Folds.{concat-append}
pub use Rattle.std.proofs.lemmas.List.FromFn.{length-map-range_with_len, map-range_with_len_more}
pub use Rattle.std.proofs.lemmas.Nat.{le-div, mod_below}
pub use Rattle.std.proofs.lemmas.Str.{IsCharBoundary-at_seam, IsCharBoundary-end, IsCharBoundary-start, IsUtf8-append, IsUtf8-between, IsUtf8-nil, IsUtf8-past_char}
pub use Rattle.std.proofs.lemmas.Str.{IsUtf8-take, chars-append, chars-encodes, chars-nil, chars_past_char, encodes-chars, len_utf8_bounds, length-encode, length-le-encodes}
