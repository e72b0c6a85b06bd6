use Rattle.std.proofs.Common.{◌≡◌, ◌∙◌, ℕ, List, ap, subst, sym}
use Rattle.textarea_text.specs.Text.{lines, lines_of}
use Rattle.textarea_screen_map.specs.Map.{IsRowCount}
use Rattle.textarea_lines.specs.TextLayout.{TextAndLayout}
use Rattle.textarea_lines.proofs.Stores.{lines_stored}
use Rattle.textarea_lines.proofs.text_layout.TextLayout.set_measured.Goals as goal

pub invariant_of-self : goal.invariant_of-self
invariant_of-self c =
    let items = c.self.inside.lines.items in
    let same : lines c.args.self.now.text ≡ lines_of items =
    ap (λ (l : TextAndLayout). lines l.text) (sym c.self.view_is) ∙ lines_stored items c.self.invariant.contents.stored.some in
    record {
      contents = c.self.invariant.contents;
      measured = subst (λ (t : List (List ℕ)). IsRowCount c.args.measured.wrapping t c.args.measured.rows) same c.requires;
      cached = c.self.invariant.cached;
      place = c.self.invariant.place;
      marked = c.self.invariant.marked;
    }
