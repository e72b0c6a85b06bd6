use Rattle.std.proofs.Common.{◌≡◌, ◌-◌, ◌∙◌, ap, length, subst, sym, take}
use Rattle.std.specs.Str.{IsUtf8, chars}
use Rattle.std.specs.Str.Iter.{chars_rest}
use Rattle.textarea_screen_map.proofs.RowColumns.{without_last}
use Rattle.textarea_screen_map.proofs.columns.reachable_text.Goals as goal
use Rattle.textarea_screen_map.proofs.columns.reachable_text.Goals.{then-not-is_last, else-not-is_last}

pub returns-clause-characters : goal.returns-clause-characters
returns-clause-characters c =
    elim c.if-not-is_last.branch [
      | then-not-is_last w ↦
          let rest_is : c.as_str.result.now ≡ chars_rest w.next_back.new.self = c.as_str.ensures ∙ ap chars_rest w.rest-is in
          let shorter =
          without_last _ (chars_rest c.chars-rest.result) (chars_rest w.next_back.new.self) _ (λ e. ap chars_rest e)
          (subst IsUtf8 (sym c.chars-rest.ensures.rest) c.utf8.text) (subst IsUtf8 rest_is c.as_str.utf8) w.next_back.ensures.steps in
          rw w.if-not-is_last.true (ap chars rest_is ∙ shorter ∙ ap (λ t. take (length (chars t) - 1) (chars t)) c.chars-rest.ensures.rest)
      | else-not-is_last w ↦ rw w.if-not-is_last.false (ap chars (c.as_str.ensures ∙ ap chars_rest w.rest-is ∙ c.chars-rest.ensures.rest))
    ]
