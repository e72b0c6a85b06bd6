use Rattle.std.proofs.Common.{◌∙◌, ◌++◌, sym, ap, arith, map, string_bytes}
use Rattle.std.specs.Str.{chars}
use Rattle.std.proofs.lemmas.List.{length-map, nil_from_length, take_all}
use Rattle.std.proofs.lemmas.Str.{IsUtf8-string_bytes, chars-nil}
use Rattle.textarea_text.specs.Text.{characters, characters_of, lines_of, text_of}
use Rattle.textarea_text.proofs.Columns.{chars-push_str}
use Rattle.textarea_text.proofs.StringRows.{line_at}
use Rattle.tui_textarea.specs.Guards.{spaced}
use Rattle.tui_textarea.proofs.Spaced.{chars_space, spaced_done, spaced_more}
use Rattle.tui_textarea.proofs.textarea.guards.join_with_spaces.Goals as goal

pub returns-in_default : goal.returns-in_default
returns-in_default c =
    ap characters (ap chars c.new.ensures.bytes ∙ chars-nil) ∙ ap (λ t. map spaced (text_of t)) (sym (nil_from_length c.args.fragment_lines.now c.in_default.ensures.cases))

pub loop-fragment_line-preserved : goal.loop-fragment_line-preserved
loop-fragment_line-preserved c =
    let line = c.fragment_line-item.result in
    let ended = c.push.new.self in
    let longer = c.push_str.new.self in
    let fed = chars_space (string_bytes c.loop-fragment_line.text) (string_bytes ended) (IsUtf8-string_bytes c.loop-fragment_line.text) c.in_ok-push.ensures.bytes in
    let put = chars-push_str (string_bytes ended) (string_bytes line) (string_bytes longer) (IsUtf8-string_bytes ended) (IsUtf8-string_bytes line) (IsUtf8-string_bytes longer)
    (c.in_ok-push_str.ensures.bytes ∙ ap (λ t. string_bytes ended ++ t) c.as_str-in-loop-fragment_line.ensures.value) in
    spaced_more (characters_of c.in_ok-text.text) _ _ (characters_of line) c.in-Some.rest.now c.loop-fragment_line.fragment_line-index c.loop-fragment_line.invariant (omega arith)
    (put ∙ ap (λ t. t ++ characters_of line) fed) (sym (line_at c.in-Some.rest.now c.loop-fragment_line.fragment_line-index line (omega arith) c.fragment_line-item.is))

pub returns : goal.returns
returns c =
    let components = c.in-Some.ensures.cases in
    spaced_done c.in-Some.first.now c.args.fragment_lines.now c.in-Some.rest.now (characters_of c.in_ok-text.text) (characters_of c.loop-fragment_line.text) c.loop-fragment_line.fragment_line-index c.loop-fragment_line.invariant
    (take_all c.loop-fragment_line.fragment_line-index (lines_of c.in-Some.rest.now) (omega (arith, length-map c.in-Some.rest.now characters_of)))
    (ap chars (c.in_ok-text.ensures.ok ∙ c.as_str.ensures.value)) components.0
