-- The lines of a script, one after another with their indices.
use Rattle.std.proofs.Common.{◌≡◌, ℕ, ◌+◌, ◌<◌, List, [], ◌∷◌, ◌++◌, length, map, take, get_or, nat_lt, true, ap, subst, sym, ◌∙◌, arith, zero-add, ◌-◌, slice_index_or, is_some}
use Rattle.std.proofs.lemmas.List.{map-append, take_more}
use Rattle.std.specs.List.{enumerate_from, list_all}
use Rattle.std.proofs.lemmas.List.FromFn.{length-enumerate_from, get_or-enumerate_from}
use Rattle.std.proofs.lemmas.List.Sums.{count_by_more_no, count_by_more_yes}
use Rattle.std.proofs.lemmas.Bool.Decides.{nat_tests}
use Rattle.textarea_script_syntax.specs.Script.{AreCallsOf, IsCallOf, filled_lines, IsAtLine, IsFilledLine, IsFirstUnparsed, IsUnparsedLine, NamesLine, lines_of_script, meaning_of_line, meanings_of_lines}
use Rattle.textarea_calls.specs.declared.call.Call.{Call}
use Rattle.textarea_script_syntax.specs.declared.commands.Command.{Command}
use Rattle.textarea_script_syntax.specs.declared.commands.CommandContent.{CommandContent}
use Rattle.textarea_script_syntax.specs.declared.commands.ReadError.{ReadError}
use Rattle.textarea_script_syntax.specs.declared.commands.ReadError.TheVariants.{Line, Memory}

-- the item at this index of the lines
pub record IsTurn (lines : List (List ℕ)) (count index : ℕ) (line : List ℕ) : Type 0 where
  pub index_is : index ≡ count
  pub within : count < length lines
  pub line_is : get_or lines count line ≡ line

pub turn_at : (lines : List (List ℕ)) (count index : ℕ) (line : List ℕ) → count < length (enumerate_from 0 lines) → (index, line) ≡ get_or (enumerate_from 0 lines) count (index, line) → IsTurn lines count index line
turn_at lines count index line some e =
    let within : count < length lines = omega (arith, length-enumerate_from 0 lines) in
    let pair : (index, line) ≡ (0 + count, get_or lines count line) = e ∙ get_or-enumerate_from 0 lines count (index, line) within in
    record { index_is = ap (λ (p : ℕ × List ℕ). p.0) pair ∙ zero-add count; within = within; line_is = sym (ap (λ (p : ℕ × List ℕ). p.1) pair) }

-- an empty line doesn't change the count
pub filled_lines-empty : (lines : List (List ℕ)) (count index : ℕ) (line : List ℕ) → IsTurn lines count index line → length line ≡ 0 → filled_lines (take (count + 1) lines) ≡ filled_lines (take count lines)
filled_lines-empty lines count index line turn none =
    count_by_more_no (λ l. nat_lt 0 (length l)) lines count line turn.within (ap (λ (l : List ℕ). nat_lt 0 (length l)) turn.line_is ∙ ap (nat_lt 0) none)

-- a line that is not empty adds one to the count
pub filled_lines-filled : (lines : List (List ℕ)) (count index : ℕ) (line : List ℕ) → IsTurn lines count index line → 0 < length line → filled_lines (take (count + 1) lines) ≡ filled_lines (take count lines) + 1
filled_lines-filled lines count index line turn some =
    let test : nat_lt 0 (length line) ≡ true = grind (arith, nat_tests) in
    count_by_more_yes (λ l. nat_lt 0 (length l)) lines count line turn.within (ap (λ (l : List ℕ). nat_lt 0 (length l)) turn.line_is ∙ test)

-- an error at a line names the first unread line, if that line is the first unread one
pub names_line : (script : List ℕ) (number : ℕ) (error : ReadError) → IsFilledLine script number
    → list_all (λ meaning. is_some meaning) (meanings_of_lines (take (number - 1) (lines_of_script script))) ≡ true
    → IsAtLine number error → IsUnparsedLine (meaning_of_line (slice_index_or (lines_of_script script) (number - 1) [])) error → NamesLine script error
names_line script number (Line named) filled first is_there unread =
    subst (λ (n : ℕ). IsFilledLine script n × IsFirstUnparsed script n) (sym is_there) (filled, record { unread = unread; first = first })
names_line script number Memory filled first is_there unread = tt

-- ---- the calls of commands

abbrev contents : List Command → List CommandContent
contents commands = map (λ (command : Command). command.content) commands

AreCallsOf-append : (first : List CommandContent) (calls : List Call) (content : CommandContent) (made : Call)
    → AreCallsOf first calls → IsCallOf content made → AreCallsOf (first ++ content ∷ []) (calls ++ made ∷ [])
AreCallsOf-append [] [] content made all is = (is, tt)
AreCallsOf-append [] (call ∷ calls) content made all is = absurd all
AreCallsOf-append (one ∷ first) [] content made all is = absurd all
AreCallsOf-append (one ∷ first) (call ∷ calls) content made all is = (all.0, AreCallsOf-append first calls content made all.1 is)

-- the calls of the commands up to the index
pub calls_more : (commands : List Command) (calls : List Call) (index : ℕ) (command : Command) (made : Call) → index < length commands
    → command ≡ get_or commands index command → AreCallsOf (contents (take index commands)) calls → IsCallOf command.content made
    → AreCallsOf (contents (take (index + 1) commands)) (calls ++ made ∷ [])
calls_more commands calls index command made within at all is =
    subst (λ (c : List CommandContent). AreCallsOf c (calls ++ made ∷ []))
    (sym (map-append (λ (command : Command). command.content) (take index commands) (command ∷ []))
    ∙ ap contents (ap (λ (this : Command). take index commands ++ this ∷ []) at ∙ sym (take_more commands index command within)))
    (AreCallsOf-append (contents (take index commands)) calls command.content made all is)
