use Rattle.std.proofs.Common.{◌≡◌, ◌∙◌, ◌-◌, ◌+◌, ◌++◌, arith, ap, subst, sym, take, drop, length, encode_utf8_all}
use Rattle.std.specs.Str.{IsCharBoundary, chars}
use Rattle.std.proofs.lemmas.List.{drop-take, drop_at, take-take}
use Rattle.textarea_text.proofs.Columns.{IsCharBoundary-column, chars_from_bytes, encodes_split, offsets_ordered, take_offset}
use Rattle.textarea_text.proofs.text_slice.text_between.Goals as goal

pub range-requires-clause-start_le_end : goal.range-requires-clause-start_le_end
range-requires-clause-start_le_end c =
    omega (arith, c.byte_offset-from.ensures, c.byte_offset_from-to.ensures, offsets_ordered (chars c.args.line.now) c.args.start c.args.end c.requires.start)

pub range-requires-clause-start_boundary : goal.range-requires-clause-start_boundary
range-requires-clause-start_boundary c =
    λ _. subst (IsCharBoundary c.args.line.now) (sym c.byte_offset-from.ensures) (IsCharBoundary-column c.args.line.now c.args.start c.utf8.line)

pub range-requires-clause-end_boundary : goal.range-requires-clause-end_boundary
range-requires-clause-end_boundary c =
    subst (IsCharBoundary c.args.line.now) (sym c.byte_offset_from-to.ensures) (IsCharBoundary-column c.args.line.now c.args.end c.utf8.line)

pub returns : goal.returns
returns c =
    let bytes = c.args.line.now in
    let cs = chars bytes in
    let from = c.byte_offset-from.result in
    let to = c.byte_offset_from-to.result in
    let until = take c.args.end cs in
    let ordered = offsets_ordered cs c.args.start c.args.end c.requires.start in
    let added : from + (to - from) ≡ to = omega (arith, c.byte_offset-from.ensures, c.byte_offset_from-to.ensures, ordered) in
    let at : from ≡ length (encode_utf8_all (take c.args.start until)) =
    c.byte_offset-from.ensures ∙ ap (λ t. length (encode_utf8_all t)) (sym (take-take c.args.start c.args.end cs c.requires.start)) in
    let whole : take to bytes ≡ encode_utf8_all (take c.args.start until) ++ encode_utf8_all (drop c.args.start until) =
    ap (λ n. take n bytes) c.byte_offset_from-to.ensures ∙ take_offset bytes c.args.end c.utf8.line ∙ encodes_split until c.args.start in
    let is : c.range.result.now ≡ encode_utf8_all (drop c.args.start until) =
    c.range.ensures.value ∙ sym (drop-take from (to - from) bytes) ∙ ap (λ n. drop from (take n bytes)) added ∙ ap (drop from) whole
    ∙ drop_at (encode_utf8_all (take c.args.start until)) (encode_utf8_all (drop c.args.start until)) from (sym at) in
    chars_from_bytes c.range.result.now (drop c.args.start until) c.range.utf8 is
