use Rattle.std.proofs.Common.{ap, sym, ◌∙◌, Some, length, ℕ, String, Vec}
use Rattle.std.proofs.lemmas.List.Elements.{length_all_zip}
use Rattle.textarea_text.proofs.Copies.{lines_copied}
use Rattle.textarea_history.specs.Prelude.{Global, joined, lines_of, grows_of, line_count_in, symbols_in}
use Rattle.textarea_history.proofs.edit.ContentClone.clone.Goals as goal

pub returns-in_ok-clone-in-Lines : goal.returns-in_ok-clone-in-Lines
returns-in_ok-clone-in-Lines c =
    let lines = c.in-Lines.lines in
    let copy = c.in_ok-clone-in-Lines.field-0 in
    let same = c.in_ok-clone-in-Lines.ensures.cases in
    record {
      cases = record {
        symbols = λ inserts. ap joined (lines_copied lines.items copy.items same.0) ∙ ap (symbols_in inserts) (sym c.in-Lines.is);
        fragment_lines = ap (λ (n : ℕ). Some n) (sym (length_all_zip _ lines.items copy.items same.0)) ∙ ap line_count_in (sym c.in-Lines.is);
        grows = ap grows_of (sym c.in-Lines.is);
      };
    }

pub returns-in_ok-clone-in-Shared : goal.returns-in_ok-clone-in-Shared
returns-in_ok-clone-in-Shared c =
    let same = c.in_ok-clone-in-Shared.ensures.cases in
    record {
      cases = record {
        symbols = λ inserts. ap (λ (v : Vec (String Global) Global). joined (lines_of v.items)) same ∙ ap (symbols_in inserts) (sym c.in-Shared.is);
        fragment_lines = ap (λ (v : Vec (String Global) Global). Some (length v.items)) same ∙ ap line_count_in (sym c.in-Shared.is);
        grows = ap grows_of (sym c.in-Shared.is);
      };
    }
