use Rattle.std.proofs.Common.{◌∙◌, ◌++◌, ap, length, refl, string_bytes, sym}
use Rattle.std.proofs.lemmas.Bool.{eqb-false}
use Rattle.std.specs.Prelude.{slice_get}
use Rattle.std.specs.Str.{chars}
use Rattle.textarea_search.specs.PlainTexts.{case_flag}
use Rattle.textarea_search.proofs.PlainTextLemmas.{appended}
use Rattle.textarea_search.proofs.search.plain_text.text_pattern.Goals as goal

pub returns : goal.returns
returns c = record {
  pattern = appended c.args.text.now (string_bytes c.new-pattern.result) (string_bytes c.new-pattern.result ++ case_flag c.args.ignore_case) (string_bytes c.push_front.new.pattern)
      (string_bytes c.push_str.new.self) (string_bytes c.push_bound.new.pattern) c.as_str.result.now (slice_get (chars c.args.text.now) 0) c.last_character.result
      c.args.ignore_case c.args.whole_word
      (λ none. eqb-false (length c.args.text.now) 0 (sym c.is_empty.ensures ∙ c.if-is_empty.false) (ap length none))
      c.new-pattern.ensures.bytes refl c.in_ok-push_front.ensures c.in_ok-push_str.ensures.bytes c.in_ok-push_bound.ensures
      refl (c.as_str.ensures.value ∙ c.in_ok-escaped.ensures.value) c.last_character.ensures;
  empty = λ none. refl;
}
