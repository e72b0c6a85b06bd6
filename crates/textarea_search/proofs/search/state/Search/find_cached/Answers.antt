use Rattle.std.proofs.Common.{◌≡◌, ◌≤◌, ◌∙◌, List, Option, ℕ, IfSome, ap, arith, length, subst, sym}
use Rattle.std.specs.List.{find}
use Rattle.std.specs.Str.{chars}
use Rattle.textarea_search.specs.Matches.{match_columns}
use Rattle.textarea_search.specs.Starts.{IsFirstAhead, IsFound, along, bytes_at, is_ahead_in_line}
use Rattle.textarea_search.proofs.StartLemmas.{bytes_of_line}
use Rattle.textarea_search.proofs.search.state.Search.find_cached.Goals as goal
use Rattle.textarea_search.proofs.search.state.Search.find_cached.Goals.{In-Some-known, in-Some-text_ahead, in-None+in_ok-known-in-None}

-- the line's start that is known is the first one ahead of the cursor
first_ahead : (c : In-Some-known) → IsFirstAhead c.in-Some.pattern c.as_str-line.result.now c.args.direction c.args.cursor.1 c.args.match_cursor c.in-Some-known.here
first_ahead c =
    let IsKnown : Option (Option ℕ) → Type 0 = λ known. IfSome known (IsFirstAhead c.in-Some.pattern c.as_str-line.result.now c.args.direction c.args.cursor.1 c.args.match_cursor) in
    let known : IsKnown c.match-text_ahead.known =
    elim c.match-text_ahead.branch [
      | in-Some-text_ahead w ↦ subst IsKnown (w.in-Some-text_ahead.is ∙ sym w.known-is) (c.text_ahead.ensures.found c.in-Some.pattern c.needle-needle.ensures)
      | in-None+in_ok-known-in-None w ↦ subst IsKnown (sym w.known-is) w.in_ok-known-in-None.ensures
    ] in
    subst IsKnown c.in-Some-known.is known

line_is : (c : In-Some-known) → c.as_str-line.result.now ≡ bytes_at c.args.lines.now c.args.cursor.0
line_is c = c.as_str-line.ensures.value ∙ sym (bytes_of_line c.args.lines.now c.args.cursor.0 c.index-lines-row.result (omega arith) c.index-lines-row.is)

pub find_known-requires-clause-within : goal.find_known-requires-clause-within
find_known-requires-clause-within c =
    let here = (goal.at.find_known-requires-clause-within c).In-Some-known in
    subst (λ (bs : List ℕ). IfSome c.in-Some-known.here (λ start. start ≤ length (chars bs))) (line_is here) (first_ahead here).within

pub returns-in-Some-known : goal.returns-in-Some-known
returns-in-Some-known c =
    let here = (goal.at.returns-in-Some-known c).In-Some-known in
    subst (λ p. IsFound c.args.direction p c.args.lines.now c.args.cursor c.args.match_cursor c.find_known.result) (sym c.in-Some.is ∙ c.self.view_is)
    (c.find_known.ensures c.args.cursor.1 c.args.match_cursor
    ((first_ahead here).found
    ∙ ap (λ (bs : List ℕ). find (is_ahead_in_line c.args.direction c.args.cursor.1 c.args.match_cursor) (along c.args.direction (match_columns c.in-Some.pattern bs))) (line_is here)))
