use Rattle.std.proofs.Common.{◌≡◌, ◌≤◌, ◌+◌, ◌∙◌, List, ℕ, ◌∷◌, length, drop, ap, refl, subst, sym, arith}
use Rattle.std.specs.List.{concat}
use Rattle.std.specs.Prelude.{string_bytes, chars, encode_utf8_all}
use Rattle.std.proofs.lemmas.List.{length-append}
use Rattle.textarea_text.specs.Size.{size_of}
use Rattle.textarea_text.specs.Text.{lines_of}
use Rattle.textarea_util.specs.Limit.{size_limit}
use Rattle.textarea_c_data.specs.Copied.{ends_of, copied_over, written_at}
use Rattle.textarea_c_data.specs.Lines.{encoded_lines}
use Rattle.textarea_c_data.proofs.Copied.{drop_item}
use Rattle.textarea_c_data.proofs.WrittenLines.{end_out, text_out}
use Rattle.textarea_c_data.proofs.lines.write_lines.Goals as goal

pub loop-row-preserved : goal.loop-row-preserved
loop-row-preserved c =
    let all = c.args.lines.now in let row = c.loop-row.row in let line = c.index-lines-row.result in
    let used = c.loop-row.used in let count = c.copied_text_at-count.result in let copied = c.copied_text_at-count.ensures in
    let text : List ℕ = encode_utf8_all (chars (string_bytes line)) in let rest : List (List ℕ) = encoded_lines (lines_of (drop (row + 1) all)) in
    let left : drop row all ≡ line ∷ drop (row + 1) all = drop_item all row (row + 1) line c.loop-row-test.true refl ∙ ap (λ first. first ∷ drop (row + 1) all) (sym c.index-lines-row.is) in
    let texts : encoded_lines (lines_of (drop row all)) ≡ text ∷ rest = ap (λ lines. encoded_lines (lines_of lines)) left in
    let same : encode_utf8_all (chars c.as_str.result.now) ≡ text = ap (λ (bytes : List ℕ). encode_utf8_all (chars bytes)) c.as_str.ensures.value in
    let counted : count ≡ length text = copied.needed ∙ ap length same in
    let size : used + size_of (line ∷ drop (row + 1) all) ≤ size_limit = subst (λ lines. used + size_of lines ≤ size_limit) left c.loop-row.invariant.size in
    let needed : used + length (concat (text ∷ rest)) ≡ length (concat (encoded_lines (lines_of all))) =
    subst (λ (ts : List (List ℕ)). used + length (concat ts) ≡ length (concat (encoded_lines (lines_of all)))) texts c.loop-row.invariant.needed in
    record {
      size = omega (arith, size, copied.bytes, ap length c.as_str.ensures.value);
      needed = omega (arith, needed, counted, length-append text (concat rest));
      out =
          subst (λ (out : List ℕ). written_at (used + count) out (concat rest) ≡ copied_over c.args.out.now (concat (encoded_lines (lines_of all))))
          (sym (copied.out ∙ ap (λ (t : List ℕ). written_at used c.loop-row.out t) same))
          (text_out used count c.loop-row.out text rest _ counted (subst (λ (ts : List (List ℕ)). written_at used c.loop-row.out (concat ts) ≡ copied_over c.args.out.now
          (concat (encoded_lines (lines_of all)))) texts c.loop-row.invariant.out));
      ends =
          subst (λ (ends : List ℕ). written_at (row + 1) ends (ends_of (used + count) rest) ≡ copied_over c.args.ends.now (ends_of 0 (encoded_lines (lines_of all))))
          (sym c.put.ensures.out)
          (end_out row used count c.loop-row.ends text rest _ counted
          (subst (λ (ts : List (List ℕ)). written_at row c.loop-row.ends (ends_of used ts) ≡ copied_over c.args.ends.now (ends_of 0 (encoded_lines (lines_of all)))) texts c.loop-row.invariant.ends));
    }
