use Rattle.std.proofs.Common.{◌≡◌, ◌∙◌, ℕ, List, [], IfOk, None, OnOk, Option, ap, arith, eq-eqb, length, refl, subst, sym, vec_len}
use Rattle.std.specs.Prelude.{if◌then◌else◌}
use Rattle.std.specs.Str.{chars}
use Rattle.std.proofs.lemmas.Bool.{cond-true, eqb-true, true≢false}
use Rattle.std.proofs.lemmas.List.{nil_from_length}
use Rattle.textarea_data.specs.declared.cursor.CursorUnit.{CursorUnit}
use Rattle.textarea_data.specs.declared.cursor.CursorUnit.TheVariants as unit
use Rattle.textarea_data.specs.declared.range.AtomicCursorBias.TheVariants.{Forward}
use Rattle.textarea_data.specs.declared.range.AtomicRange.{AtomicRange}
use Rattle.textarea_text.specs.Fragment.{fragment_symbols}
use Rattle.textarea_text.specs.Text.{lines}
use Rattle.tui_textarea.specs.Fitting.{fits_each}
use Rattle.tui_textarea.specs.Guards.{admitted}
use Rattle.tui_textarea.specs.Replacing.{matches_replaced, replaceable, replaceable_in, stretches_replaced}
use Rattle.tui_textarea.specs.Units.{settled}
use Rattle.tui_textarea.proofs.Admitted.{fits_none}
use Rattle.tui_textarea.proofs.Replacing.{nothing_replaced}
use Rattle.tui_textarea.proofs.textarea.TextArea.replace_all_unguarded.Goals as goal

pub returns-then-is_empty-clause-ok : goal.returns-then-is_empty-clause-ok
returns-then-is_empty-clause-ok c =
    let state = c.args.self.now in
    let symbols = admitted state (fragment_symbols (chars c.args.text.now)) in
    let stretches = c.in_ok-stretches.stretches in
    let empty : vec_len stretches ≡ 0 = eqb-true (vec_len stretches) 0 (sym c.is_empty.ensures ∙ c.if-is_empty.true) in
    let none : stretches.items ≡ [] = nil_from_length stretches.items (omega (arith, stretches.ok, empty)) in
    let nothing : replaceable state ≡ [] = sym c.in_ok-stretches.ensures.found ∙ none in
    c.settle.ensures.new ∙ ap (settled Forward) (nothing_replaced state symbols (replaceable state) nothing)
    ∙ sym (cond-true (fits_each state (replaceable state) symbols) (settled Forward (matches_replaced state symbols)) state (fits_none state (replaceable state) symbols nothing))

pub returns-then-is_empty-clause-count : goal.returns-then-is_empty-clause-count
returns-then-is_empty-clause-count c =
    let state = c.args.self.now in
    let symbols = admitted state (fragment_symbols (chars c.args.text.now)) in
    let stretches = c.in_ok-stretches.stretches in
    let empty : vec_len stretches ≡ 0 = eqb-true (vec_len stretches) 0 (sym c.is_empty.ensures ∙ c.if-is_empty.true) in
    let none : stretches.items ≡ [] = nil_from_length stretches.items (omega (arith, stretches.ok, empty)) in
    let nothing : replaceable state ≡ [] = sym c.in_ok-stretches.ensures.found ∙ none in
    sym (cond-true (fits_each state (replaceable state) symbols) (length (replaceable state)) 0 (fits_none state (replaceable state) symbols nothing) ∙ ap length nothing)

pub returns-clause-count : goal.returns-clause-count
returns-clause-count c =
    let state = c.args.self.now in
    let symbols = admitted state (fragment_symbols (chars c.args.text.now)) in
    subst (λ (found : List (ℕ × ℕ)). IfOk c.replace_stretches.result (λ count. count ≡ (if fits_each state found symbols then length found else 0)))
    (c.as_slice.ensures.value ∙ c.in_ok-stretches.ensures.found) c.replace_stretches.ensures.count

pub returns-clause-ok : goal.returns-clause-ok
returns-clause-ok c =
    let state = c.args.self.now in
    let symbols = admitted state (fragment_symbols (chars c.args.text.now)) in
    subst (λ (found : List (ℕ × ℕ)). OnOk c.replace_stretches.result
    (c.replace_stretches.new.self ≡ (if fits_each state found symbols then settled Forward (stretches_replaced state found symbols) else state)))
    (c.as_slice.ensures.value ∙ c.in_ok-stretches.ensures.found) c.replace_stretches.ensures.ok

-- without a pattern there is nothing to replace
none_without_pattern : (by : CursorUnit) (ranges : List AtomicRange) (rows : List (List ℕ)) → replaceable_in by ranges None rows ≡ []
none_without_pattern unit.Character ranges rows = refl
none_without_pattern unit.Cluster ranges rows = refl

pub returns-clause-no_pattern : goal.returns-clause-no_pattern
returns-clause-no_pattern c = λ none.
    let state = c.args.self.now in
    let stretches = c.in_ok-stretches.stretches in
    let nothing : replaceable state ≡ [] =
    ap (λ (pattern : Option (List ℕ)). replaceable_in state.settings.cursor_unit state.document.ranges pattern (lines state.document.text)) none
    ∙ none_without_pattern state.settings.cursor_unit state.document.ranges (lines state.document.text) in
    let empty : vec_len stretches ≡ 0 = omega (arith, stretches.ok, ap length (c.in_ok-stretches.ensures.found ∙ nothing)) in
    absurd (true≢false (sym (eq-eqb (vec_len stretches) 0 empty) ∙ sym c.is_empty.ensures ∙ c.if-is_empty.false))
