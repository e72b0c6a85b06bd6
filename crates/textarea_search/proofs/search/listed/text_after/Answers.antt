use Rattle.std.proofs.Common.{◌≡◌, ◌+◌, ◌∙◌, None, Some, ap, arith, cond, rules, subst, sym}
use Rattle.memchr.specs.Find.{FindsNeedle}
use Rattle.textarea_search.proofs.ColumnLemmas.{boundary_within, column_within}
use Rattle.textarea_search.proofs.OccurrenceLemmas.{at_or_after, first_column, first_of}
use Rattle.textarea_search.proofs.search.listed.text_after.Goals as goal
use Rattle.textarea_search.proofs.search.listed.text_after.Goals.{then-at_column, else-at_column}

pub returns-then-line-byte-clause-found : goal.returns-then-line-byte-clause-found
returns-then-line-byte-clause-found c =
    let byte = c.byte_of-byte.result in
    first_column c.args.finder.now c.args.line.now c.requires.utf8 c.requires.once c.utf8.line c.args.column byte c.args.at_column
    (record { inside = c.byte_of-byte.ensures.inside; past = c.byte_of-byte.ensures.past }) None
    (λ k low high here. omega (arith, c.if-line-byte.true, at_or_after byte c.args.at_column, low, here.fits, c.requires.once.some))

pub returns-in_err-start-clause-found : goal.returns-in_err-start-clause-found
returns-in_err-start-clause-found c =
    let byte = c.byte_of-byte.result in
    let nothing : c.from_residual.result ≡ None = search rules in
    let from : c.if-at_column.from ≡ first_of byte c.args.at_column =
    elim c.if-at_column.branch [
      | then-at_column w ↦ w.from-is ∙ ap (λ b. cond b byte (byte + 1)) (sym w.if-at_column.true)
      | else-at_column w ↦ w.from-is ∙ ap (λ b. cond b byte (byte + 1)) (sym w.if-at_column.false)
    ] in
    nothing ∙ first_column c.args.finder.now c.args.line.now c.requires.utf8 c.requires.once c.utf8.line c.args.column byte c.args.at_column
    (record { inside = c.byte_of-byte.ensures.inside; past = c.byte_of-byte.ensures.past }) None
    (subst (λ n. FindsNeedle c.args.line.now c.args.finder.now n None) from c.in_err-start.ensures.found)

pub column_from-requires-clause-known_boundary : goal.column_from-requires-clause-known_boundary
column_from-requires-clause-known_boundary c =
    boundary_within c.args.line.now c.args.column c.byte_of-byte.result c.utf8.line (record { inside = c.byte_of-byte.ensures.inside; past = c.byte_of-byte.ensures.past }) (omega (arith, c.if-line-byte.false))

pub column_from-requires-clause-column : goal.column_from-requires-clause-column
column_from-requires-clause-column c =
    column_within c.args.line.now c.args.column c.byte_of-byte.result c.utf8.line (record { inside = c.byte_of-byte.ensures.inside; past = c.byte_of-byte.ensures.past }) (omega (arith, c.if-line-byte.false))

pub returns-clause-found : goal.returns-clause-found
returns-clause-found c =
    let byte = c.byte_of-byte.result in
    let from : c.if-at_column.from ≡ first_of byte c.args.at_column =
    elim c.if-at_column.branch [
      | then-at_column w ↦ w.from-is ∙ ap (λ b. cond b byte (byte + 1)) (sym w.if-at_column.true)
      | else-at_column w ↦ w.from-is ∙ ap (λ b. cond b byte (byte + 1)) (sym w.if-at_column.false)
    ] in
    ap Some c.column_from.ensures.column
    ∙ first_column c.args.finder.now c.args.line.now c.requires.utf8 c.requires.once c.utf8.line c.args.column byte c.args.at_column
    (record { inside = c.byte_of-byte.ensures.inside; past = c.byte_of-byte.ensures.past }) (Some c.in_ok-start.start)
    (subst (λ n. FindsNeedle c.args.line.now c.args.finder.now n (Some c.in_ok-start.start)) from c.in_ok-start.ensures.found)
