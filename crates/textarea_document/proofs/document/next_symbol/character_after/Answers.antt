use Rattle.std.proofs.Common.{◌∙◌, ap, drop}
use Rattle.std.specs.Str.{chars}
use Rattle.textarea_text.proofs.Columns.{drop_offset}
use Rattle.textarea_document.proofs.SymbolAfters.{symbol_after_is}
use Rattle.textarea_document.proofs.document.next_symbol.character_after.Goals as goal
use Rattle.textarea_text.proofs.Insides.{split_point}

pub range_from-requires : goal.range_from-requires
range_from-requires c = λ _. split_point c.args.line.now c.args.column c.args.offset c.utf8.line c.requires.offset

pub returns : goal.returns
returns c =
    symbol_after_is _ (chars c.args.line.now) _ _ c.args.column c.next.result c.requires.column
    (c.chars.ensures.rest ∙ c.range_from.ensures.value ∙ ap (λ n. drop n c.args.line.now) c.requires.offset ∙ drop_offset c.args.line.now c.args.column c.utf8.line)
    c.next.ensures.steps.0
