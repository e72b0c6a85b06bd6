use Rattle.std.proofs.Common.{◌∙◌, ◌++◌, ap, string_bytes}
use Rattle.std.proofs.lemmas.Result.{on_ok_weaker}
use Rattle.textarea_search.specs.PlainTexts.{bound_at, case_flag}
use Rattle.textarea_search.proofs.search.plain_text.push_front.Goals as goal

pub returns : goal.returns
returns c =
    on_ok_weaker c.push_bound.result
    (λ is. is
    ∙ ap (λ bytes. bytes ++ bound_at c.args.whole_word c.first_character.result) c.in_ok-push_case_flag.ensures
    ∙ ap (λ first. (string_bytes c.args.pattern.now ++ case_flag c.args.ignore_case) ++ bound_at c.args.whole_word first) c.first_character.ensures)
    c.push_bound.ensures
