use Rattle.std.proofs.Common.{◌<◌, ℕ, List, Option, Some, length, ap, sym, subst, ◌∙◌, string_bytes}
use Rattle.textarea_view.specs.Prelude.{lines_of, AreMatchesOf, KnownMatches, matches_in}
use Rattle.textarea_view.proofs.Matches.{matches_of_line, none_without}
use Rattle.textarea_view.proofs.scene.matches.LineMatches.search_line.Goals as goal

pub invariant_of-self : goal.invariant_of-self
invariant_of-self c =
    let inside = c.self.inside in
    let items = c.spans_into.new.spans.items in
    let within = subst (λ (v : KnownMatches). c.args.line < length v.searched.lines) (sym c.self.view_is) c.requires in
    let is = c.in-Ok.ensures.found in
    subst (λ (p : Option (List ℕ)). AreMatchesOf (record { pattern = p; lines = lines_of inside.lines.now }) (Some c.args.line) items) (sym c.in-Ok.ensures.same)
    (record {
      none = none_without inside.matcher c.as_str-text.result.now items is;
      of_line = matches_of_line inside.matcher inside.lines.now c.args.line c.index-self-line.result c.as_str-text.result.now items within c.index-self-line.is
          (c.as_str-text.ensures.value ∙ ap string_bytes (sym c.index-self-line.is)) is;
    })

pub returns-in-Ok-clause-found : goal.returns-in-Ok-clause-found
returns-in-Ok-clause-found c =
    let inside = c.self.inside in
    let within = subst (λ (v : KnownMatches). c.args.line < length v.searched.lines) (sym c.self.view_is) c.requires in
    matches_of_line inside.matcher inside.lines.now c.args.line c.index-self-line.result c.as_str-text.result.now c.spans_into.new.spans.items within c.index-self-line.is
    (c.as_str-text.ensures.value ∙ ap string_bytes (sym c.index-self-line.is)) c.in-Ok.ensures.found
    ∙ ap (λ (v : KnownMatches). matches_in v.searched c.args.line) c.self.view_is
