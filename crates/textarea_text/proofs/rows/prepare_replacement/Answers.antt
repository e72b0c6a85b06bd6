use Rattle.std.proofs.Common.{◌++◌, arith, refl}
use Rattle.std.proofs.lemmas.List.{length-map}
use Rattle.textarea_text.specs.Prelude.{chars, characters, characters_of, following, lines_of}
use Rattle.textarea_text.proofs.StringRows.{rows_in_place}
use Rattle.textarea_text.proofs.Touching.{breaks_of-append, breaks_of-characters, breaks_of-following}
use Rattle.textarea_text.proofs.rows.prepare_replacement.Goals as goal

pub returns : goal.returns
returns c =
    let first = characters (chars c.args.first.now) in
    let rest = lines_of c.args.rest.now in
    record {
      row = refl;
      removed_lines = omega arith;
      coming = omega (arith, c.in_ok-new.ensures.len, breaks_of-append first (following rest), breaks_of-characters (chars c.args.first.now), breaks_of-following rest, length-map c.args.rest.now characters_of);
      within = omega (arith, c.requires.to.0, length-map c.args.lines.now characters_of);
      text = rows_in_place c.args.lines.now _ c.args.from c.args.to _ _ (first ++ following rest) c.requires.from c.requires.to (omega arith) (omega arith) c.in_ok-new.ensures.rows;
    }
