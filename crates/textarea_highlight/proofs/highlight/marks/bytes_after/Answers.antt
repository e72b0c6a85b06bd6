use Rattle.std.proofs.Common.{◌≡◌, ◌+◌, ◌≤◌, length, chars, ap, arith, ℕ}
use Rattle.textarea_highlight.specs.Highlights.{byte_of}
use Rattle.textarea_highlight.proofs.CharacterLemmas.{nth_some, nth_none, nth_bytes, none_always, pair_same}
use Rattle.textarea_highlight.proofs.MarkLemmas.{byte_after, characters_after, mark_boundary, rest_utf8}
use Rattle.textarea_highlight.proofs.highlight.marks.bytes_after.Goals as goal

pub range_from-requires : goal.range_from-requires
range_from-requires c = λ _. mark_boundary c.args.row.now c.args.mark c.utf8.row c.requires

pub returns-in_err-start-clause-none : goal.returns-in_err-start-clause-none
returns-in_err-start-clause-none c =
    let row = c.args.row.now in
    let rest = c.range_from.result.now in
    let utf8 = rest_utf8 row rest c.args.mark c.utf8.row c.requires c.range_from.ensures.value in
    let few = nth_none rest c.char_indices.result c.nth.new.self c.nth.result c.args.count utf8 c.char_indices.ensures.rest c.char_indices.ensures.offset c.nth.ensures.ran c.in_err-start.was in
    none_always (length (chars row) ≤ c.args.mark.characters + c.args.count) c.from_residual.result
    (omega (arith, few, characters_after row rest c.args.mark c.utf8.row c.requires c.range_from.ensures.value))

pub returns-clause-found : goal.returns-clause-found
returns-clause-found c =
    let row = c.args.row.now in
    let rest = c.range_from.result.now in
    let at = byte_after row rest c.args.mark c.utf8.row c.requires c.range_from.ensures.value in
    let utf8 = rest_utf8 row rest c.args.mark c.utf8.row c.requires c.range_from.ensures.value in
    let bytes = nth_bytes rest c.char_indices.result c.nth.new.self c.nth.result c.args.count utf8 c.char_indices.ensures.rest c.char_indices.ensures.offset
    c.nth.ensures.ran (c.in_ok-start.start, c.in_ok-start.c) c.len_utf8.result c.in_ok-start.was c.len_utf8.ensures.len in
    let more : c.args.mark.characters + (c.args.count + 1) ≡ c.args.mark.characters + c.args.count + 1 = omega arith in
    pair_same _ _ _
    (omega (arith, ap (λ (p : ℕ × ℕ). p.0) bytes, at c.args.count))
    (omega (arith, ap (λ (p : ℕ × ℕ). p.1) bytes, at (c.args.count + 1), ap (byte_of row) more))

pub returns-clause-within : goal.returns-clause-within
returns-clause-within c =
    let row = c.args.row.now in
    let rest = c.range_from.result.now in
    let utf8 = rest_utf8 row rest c.args.mark c.utf8.row c.requires c.range_from.ensures.value in
    let found = nth_some rest c.char_indices.result c.nth.new.self c.nth.result c.args.count utf8 c.char_indices.ensures.rest c.char_indices.ensures.offset c.nth.ensures.ran (c.in_ok-start.start, c.in_ok-start.c) c.in_ok-start.was in
    omega (arith, found.within, characters_after row rest c.args.mark c.utf8.row c.requires c.range_from.ensures.value)
