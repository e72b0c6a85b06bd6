-- The size of lines that are written.
use Rattle.std.proofs.Common.{◌≡◌, ◌+◌, List, [], ◌∷◌, String, string_bytes, string_len, length, refl, sym, ap, ◌∙◌, arith}
use Rattle.std.specs.List.{concat}
use Rattle.std.specs.Str.{chars}
use Rattle.std.specs.Prelude.{encode_utf8_all}
use Rattle.std.proofs.lemmas.List.{length-append}
use Rattle.std.proofs.lemmas.Str.{IsUtf8-string_bytes, encodes-chars}
use Rattle.textarea_text.specs.Size.{size_of}
use Rattle.textarea_text.specs.Text.{lines_of}
use Rattle.textarea_c_data.specs.Lines.{encoded_lines}

-- the bytes that are written for lines, and the number of these, are their size
pub size_written : {Z : Type 0} (lines : List (String Z)) → length (concat (encoded_lines (lines_of lines))) + length lines ≡ size_of lines
size_written [] = refl
size_written (line ∷ lines) =
    let bytes = string_bytes line in
    let first : length (encode_utf8_all (chars bytes)) ≡ string_len line = ap length (encodes-chars bytes (IsUtf8-string_bytes line)) ∙ sym line.bytes.ok.0 in
    let rest = size_written lines in
    let both = length-append (encode_utf8_all (chars bytes)) (concat (encoded_lines (lines_of lines))) in omega (arith, first, rest, both)
