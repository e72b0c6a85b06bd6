use Rattle.std.proofs.Common.{◌≡◌, ◌∙◌, ◌+◌, ◌≤◌, ℕ, List, Option, ◌++◌, ap, append-nil, append_assoc, arith, drop, length, sym}
use Rattle.std.proofs.lemmas.List.{drop_all, length-map}
use Rattle.textarea_document.specs.Prelude.{characters_of, chars, line_of, lines_of}
use Rattle.textarea_document.specs.Indenting.{replaced_columns, stretch_from, stretches_from}
use Rattle.textarea_document.proofs.Indenting.{room_for, size_left, stretches_more}
use Rattle.textarea_document.proofs.document.Document.line_stretches.Goals as goal

pub push_stretch-requires : goal.push_stretch-requires
push_stretch-requires c = room_for c.loop-row.before c.replaced_columns-replaced.result (omega (arith, c.loop-row.invariant.0)) c.replaced_columns-replaced.ensures.within

pub overflow_add-before : goal.overflow_add-before
overflow_add-before c =
    let lines = c.lines-lines.result.now in
    omega (arith, c.loop-row.invariant.0, size_left lines c.loop-row.row (omega arith), c.column_count.ensures, ap length c.line_of-line.ensures.characters)

pub overflow_add-before-in-loop-row : goal.overflow_add-before-in-loop-row
overflow_add-before-in-loop-row c =
    let lines = c.lines-lines.result.now in
    omega (arith, c.loop-row.invariant.0, size_left lines c.loop-row.row (omega arith), c.column_count.ensures, ap length c.line_of-line.ensures.characters)

pub loop-row-preserved : goal.loop-row-preserved
loop-row-preserved c =
    let document = c.args.self.now in
    let outdents = c.args.outdents in
    let lines = c.lines-lines.result.now in
    let rows = lines_of lines in
    let row = c.loop-row.row in
    let before = c.loop-row.before in
    let old = c.loop-row.stretches.items in
    let within = length-map lines characters_of in
    let count : c.column_count.result ≡ length (line_of rows row) = c.column_count.ensures ∙ ap length c.line_of-line.ensures.characters in
    let here = stretch_from before (replaced_columns document outdents row (line_of rows row)) in (
      omega (arith, c.loop-row.invariant.0, size_left lines row (omega arith), count),
      ap (λ l. l ++ stretches_from document outdents (row + 1) (before + (c.column_count.result + 1)) (drop (row + 1) rows))
          (c.in_ok-push_stretch.ensures
          ∙ ap (λ (o : Option ℕ). old ++ stretch_from before o) (c.replaced_columns-replaced.ensures.value ∙ ap (replaced_columns document outdents row) c.line_of-line.ensures.characters))
          ∙ append_assoc old here (stretches_from document outdents (row + 1) (before + (c.column_count.result + 1)) (drop (row + 1) rows))
          ∙ ap (λ n. old ++ (here ++ stretches_from document outdents (row + 1) n (drop (row + 1) rows))) (omega (arith, count))
          ∙ sym (stretches_more document outdents row before rows old (omega (arith, within)))
          ∙ c.loop-row.invariant.1,
    )

pub returns : goal.returns
returns c =
    let document = c.args.self.now in
    let outdents = c.args.outdents in
    let rows = lines_of c.lines-lines.result.now in
    let items = c.loop-row.stretches.items in
    let counted = length-map c.lines-lines.result.now characters_of in
    sym (append-nil items)
    ∙ ap (λ (l : List (List ℕ)). items ++ stretches_from document outdents c.loop-row.row c.loop-row.before l) (sym (drop_all c.loop-row.row rows (omega (arith, counted))))
    ∙ c.loop-row.invariant.1
    ∙ ap (stretches_from document outdents 0 0) c.lines-lines.ensures.lines
