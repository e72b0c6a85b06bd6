-- The lemmas of the library that proofs of this crate cite. Declares nothing.
pub use Rattle.std.proofs.Math.Bool.{and-false, and-true}
pub use Rattle.std.proofs.Math.Nat.{mod-add-mod, sub-zero}
pub use Rattle.std.proofs.Math.Seq.{take-add}
pub use Rattle.std.proofs.lemmas.Bool.{and_parts, cases_lt, false≢true, ltb-true}
pub use Rattle.std.proofs.lemmas.Bool.Decides.{nat_tests}
pub use Rattle.std.proofs.lemmas.Grind.{common_steps, get_or-set_at}
pub use Rattle.std.proofs.lemmas.Iterator.{YieldsList-from_chars, YieldsList-from_take}
pub use Rattle.std.proofs.lemmas.Iterator.Consumers.{YieldsList-end, YieldsList-from_enumerate, YieldsList-turn}
pub use Rattle.std.proofs.lemmas.List.{append-nil, append_assoc, drop-append-le, drop-drop, drop-map, drop-take, drop_all, drop_at, drop_more, get_or-drop, get_or-map, get_or-take}
pub use Rattle.std.proofs.lemmas.List.{get_or_at, get_or_default, length-append, length-drop, length-map, length-replicate, length-set, length-take, length-take-le, length_push}
pub use Rattle.std.proofs.lemmas.List.{map-append, nil_from_length, reverse-append, set_split, take-append-drop, take-map, take-replicate, take-take, take_all, take_at, take_more}
pub use Rattle.std.proofs.lemmas.List.Elements.{All-replicate}
pub use Rattle.std.proofs.lemmas.List.FromFn.{get_or-enumerate_from, length-enumerate_from}
pub use Rattle.std.proofs.lemmas.Result.{on_err_weaker}
pub use Rattle.std.proofs.lemmas.Str.{IsCharBoundary-at_seam, IsCharBoundary-before_ascii, IsCharBoundary-from_ascii, IsUtf8-drop, IsUtf8-encode, IsUtf8-nil, IsUtf8-past_char, IsUtf8-string_bytes}
pub use Rattle.std.proofs.lemmas.Str.{IsUtf8-take, chars-append, chars-nil, chars_past_char, cons_from_encodes, encode_ascii, encodes-append, encodes-chars, encodes_same, length-le-encodes, scalars-chars}
pub use Rattle.std.proofs.lemmas.Str.Ascii.{IsAscii-from_all}
