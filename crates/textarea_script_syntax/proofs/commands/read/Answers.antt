use Rattle.std.proofs.Common.{rules, tests, arith, ◌≡◌, ℕ, ◌+◌, ◌-◌, ◌<◌, ◌==◌, [], List, ◌∙◌, ap, sym, subst, length, take, get_or, map, ◌∷◌, ◌++◌, Option, Some, is_some, true}
use Rattle.std.proofs.lemmas.List.{map-append, take_all, length_push, get_or_default}
use Rattle.std.specs.List.{list_all}
use Rattle.std.proofs.lemmas.List.FromFn.{length-enumerate_from}
use Rattle.std.proofs.lemmas.Bool.Decides.{nat_tests}
use Rattle.std.proofs.lemmas.Iterator.Splits.{YieldsList-from_slice_split}
use Rattle.std.proofs.lemmas.Iterator.Consumers.{YieldsList-from_enumerate, YieldsList-turn, YieldsList-end, YieldsList-at}
use Rattle.textarea_script_syntax.specs.Meaning.{Meaning}
use Rattle.textarea_script_syntax.specs.Script.{lines_of_script, filled_lines, meaning_of, meaning_of_line, meanings_of_lines, IsFilledLine, IsUnparsedLine, NamesLine}
use Rattle.textarea_script_syntax.specs.declared.commands.Command.{Command}
use Rattle.textarea_script_syntax.proofs.Lines.{all_meanings, meanings_of_lines-empty, meanings_of_lines-filled}
use Rattle.textarea_script_syntax.proofs.Scripts.{IsTurn, names_line, turn_at, filled_lines-empty, filled_lines-filled}
use Rattle.textarea_script_syntax.proofs.commands.read.Goals as goal
use Rattle.textarea_script_syntax.proofs.commands.read.Goals.{After-is_empty}

-- the line of a turn
line_turn : (c : After-is_empty) → IsTurn (lines_of_script c.args.script.now) (length c.loop-index.yielded) c.in-Some.index c.in-Some.line.now
line_turn c =
    let t = YieldsList-turn (YieldsList-from_enumerate {s = c.into_iter-index-iterator.result}
    (YieldsList-at (cc) (YieldsList-from_slice_split {s = c.split.result} _ (λ byte. byte == 10) c.args.script.now c.split.ensures.rest c.split.ensures.done c.split.ensures.closure
    (λ x r q k. search (rules, tests)))) (cc)) c.loop-index.yielded _ c.loop-index.yielded_by _ _ (c.in-Some.index, c.in-Some.line) c.in-Some.is c.next.ensures.steps in
    turn_at (lines_of_script c.args.script.now) (length c.loop-index.yielded) c.in-Some.index c.in-Some.line.now t.0 t.1

pub loop-index-preserved-then-is_empty : goal.loop-index-preserved-then-is_empty
loop-index-preserved-then-is_empty c =
    let lines = lines_of_script c.args.script.now in
    let count = length c.loop-index.yielded in
    let line = c.in-Some.line.now in
    let turn = line_turn (goal.at.loop-index-preserved-then-is_empty c).After-is_empty in
    let none : length line ≡ 0 = grind (arith, nat_tests) in
    let more = sym (length_push c.loop-index.yielded (c.in-Some.index, c.in-Some.line)) in
    record {
      count = c.loop-index.invariant.count
          ∙ sym (filled_lines-empty lines count c.in-Some.index line turn none)
          ∙ ap (λ k. filled_lines (take k lines)) more;
      means = c.loop-index.invariant.means
          ∙ sym (meanings_of_lines-empty lines count c.in-Some.index line turn none)
          ∙ ap (λ k. meanings_of_lines (take k lines)) more;
    }

pub loop-index-preserved : goal.loop-index-preserved
loop-index-preserved c =
    let lines = lines_of_script c.args.script.now in
    let count = length c.loop-index.yielded in
    let line = c.in-Some.line.now in
    let turn = line_turn (goal.at.loop-index-preserved c).After-is_empty in
    let some : 0 < length line = grind (arith, nat_tests) in
    let more = sym (length_push c.loop-index.yielded (c.in-Some.index, c.in-Some.line)) in
    let viewed : List Command → List (Option Meaning) = λ commands. map (λ (command : Command). Some (meaning_of command.content)) commands in
    record {
      count = c.in_ok-push.ensures.len
          ∙ ap (λ k. k + 1) c.loop-index.invariant.count
          ∙ sym (filled_lines-filled lines count c.in-Some.index line turn some)
          ∙ ap (λ k. filled_lines (take k lines)) more;
      means = ap viewed c.in_ok-push.ensures.items
          ∙ map-append (λ (command : Command). Some (meaning_of command.content)) c.loop-index.commands.items (c.in_ok-read_line.field-0 ∷ [])
          ∙ ap (λ (meaning : List (Option Meaning)). meaning ++ Some (meaning_of c.in_ok-read_line.field-0.content) ∷ []) c.loop-index.invariant.means
          ∙ ap (λ (one : Option Meaning). meanings_of_lines (take count lines) ++ one ∷ []) (sym c.in_ok-read_line.ensures.means)
          ∙ sym (meanings_of_lines-filled lines count c.in-Some.index line turn some)
          ∙ ap (λ k. meanings_of_lines (take k lines)) more;
    }

pub returns-in_err-read_line-clause-err : goal.returns-in_err-read_line-clause-err
returns-in_err-read_line-clause-err c =
    let lines = lines_of_script c.args.script.now in
    let count = length c.loop-index.yielded in
    let line = c.in-Some.line.now in
    let turn = line_turn (goal.at.returns-in_err-read_line-clause-err c).After-is_empty in
    let some : 0 < length line = grind (arith, nat_tests) in
    let here : c.in-Some.index + 1 - 1 ≡ count = omega (arith, turn.index_is) in
    let found : get_or lines (c.in-Some.index + 1 - 1) [] ≡ line =
    ap (λ k. get_or lines k []) here ∙ get_or_default lines count [] line turn.within ∙ turn.line_is in
    let is_filled : IsFilledLine c.args.script.now (c.in-Some.index + 1) = record {
      from_one = omega arith;
      within = omega (arith, turn.index_is, turn.within);
      filled = subst (λ (l : List ℕ). 0 < length l) (sym found) some;
    } in
    let first : list_all (λ meaning. is_some meaning) (meanings_of_lines (take (c.in-Some.index + 1 - 1) lines)) ≡ true =
    ap (λ (k : ℕ). list_all (λ meaning. is_some meaning) (meanings_of_lines (take k lines))) here
    ∙ all_meanings (λ (command : Command). meaning_of command.content) c.loop-index.commands.items _ c.loop-index.invariant.means in
    let unread : IsUnparsedLine (meaning_of_line (get_or lines (c.in-Some.index + 1 - 1) [])) c.in_err-read_line.field-0.0 =
    subst (λ (l : List ℕ). IsUnparsedLine (meaning_of_line l) c.in_err-read_line.field-0.0) (sym found) c.in_err-read_line.ensures.means in
    let named : NamesLine c.args.script.now c.in_err-read_line.field-0.0 =
    names_line c.args.script.now (c.in-Some.index + 1) c.in_err-read_line.field-0.0 is_filled first c.in_err-read_line.ensures.line unread in
    search rules

pub returns-clause-ok : goal.returns-clause-ok
returns-clause-ok c =
    let lines = lines_of_script c.args.script.now in
    let e = YieldsList-end (YieldsList-from_enumerate {s = c.into_iter-index-iterator.result}
    (YieldsList-at (cc) (YieldsList-from_slice_split {s = c.split.result} _ (λ byte. byte == 10) c.args.script.now c.split.ensures.rest c.split.ensures.done c.split.ensures.closure
    (λ x r q k. search (rules, tests)))) (cc)) c.loop-index.yielded _ c.loop-index.yielded_by _ _ c.in-None.is c.next.ensures.steps in
    c.loop-index.invariant.count ∙ ap filled_lines (take_all (length c.loop-index.yielded) lines (omega (arith, e.1, length-enumerate_from 0 lines)))

pub returns-clause-means : goal.returns-clause-means
returns-clause-means c =
    let lines = lines_of_script c.args.script.now in
    let e = YieldsList-end (YieldsList-from_enumerate {s = c.into_iter-index-iterator.result}
    (YieldsList-at (cc) (YieldsList-from_slice_split {s = c.split.result} _ (λ byte. byte == 10) c.args.script.now c.split.ensures.rest c.split.ensures.done c.split.ensures.closure
    (λ x r q k. search (rules, tests)))) (cc)) c.loop-index.yielded _ c.loop-index.yielded_by _ _ c.in-None.is c.next.ensures.steps in
    c.loop-index.invariant.means ∙ ap meanings_of_lines (take_all (length c.loop-index.yielded) lines (omega (arith, e.1, length-enumerate_from 0 lines)))
