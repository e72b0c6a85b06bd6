use Rattle.std.proofs.Common.{rules, false, sym, ◌≡◌, ℕ, ◌<◌, List, [], ◌∷◌, ◌++◌, map, length, ap, ◌∙◌, inl, inr, arith, Bor}
use Rattle.std.proofs.lemmas.Bool.{false≢true}
use Rattle.textarea_wrap.specs.Prelude.{flat_map, units_of, rows_of, ranges_from, line_units, TakesOneRow}
use Rattle.textarea_wrap.specs.declared.wrap.WrapMode.TheVariants as mode
use Rattle.textarea_wrap.proofs.OneRowLemmas.{IsWrapped-one_row, nonempty_unless_fits}
use Rattle.textarea_wrap.proofs.RowLemmas.{AreNonempty-word_segments, AreSegments-line_units, concat-line_units, IsWrapped-glyphs, IsWrapped-units}
use Rattle.textarea_wrap.proofs.wrap.wrap_line.Goals as goal
use Rattle.textarea_wrap.proofs.wrap.wrap_line.Goals.{then-eq, else-eq, then-fits_width+in_ok-push, else-fits_width+then-is_glyph+in_ok-push_glyph_rows, else-fits_width+else-is_glyph+in_ok-units+in_ok-push_word_rows}

pub push_word_rows-requires-clause-nonempty : goal.push_word_rows-requires-clause-nonempty
push_word_rows-requires-clause-nonempty c =
    rw (c.as_slice.ensures.value, c.in_ok-units.ensures) (AreNonempty-word_segments _ (AreSegments-line_units c.args.line.now c.utf8.line))

pub push_word_rows-requires-clause-short : goal.push_word_rows-requires-clause-short
push_word_rows-requires-clause-short c =
    rw (c.as_slice.ensures.value, c.in_ok-units.ensures, concat-line_units c.args.line.now c.utf8.line) (omega arith)

pub returns-clause-rows : goal.returns-clause-rows
returns-clause-rows c =
    let none = c.new-ranges.ensures.items in
    let apart : c.if-eq.value ≡ false → (c.args.mode ≡ mode.None → ⊥) × (0 < length c.args.line.now) = λ no.
    elim c.if-eq.branch [
      | then-eq v ↦ absurd (false≢true (sym no ∙ v.value-is ∙ v.if-eq.true))
      | else-eq v ↦ (
        search (rules, v.if-eq.ensures),
        nonempty_unless_fits c.args.tab_len c.args.width c.args.line.now (λ h. false≢true (sym no ∙ v.value-is ∙ v.fits_width.ensures.1 h)),
      )
    ] in
    elim c.if-fits_width.branch [
      | then-fits_width+in_ok-push w ↦
          let one : TakesOneRow c.args.mode c.args.tab_len c.args.width c.args.line.now =
          elim c.if-eq.branch [
            | then-eq v ↦ inl (search (rules, v.if-eq.ensures))
            | else-eq v ↦ inr (v.fits_width.ensures.0 (sym v.value-is ∙ w.if-fits_width.true))
          ] in
          rw w.ranges-is (IsWrapped-one_row _ _ _ _ _ c.utf8.line one (w.in_ok-push.ensures.ok ∙ ap (λ t. t ++ (0, length c.args.line.now) ∷ []) none))
      | else-fits_width+then-is_glyph+in_ok-push_glyph_rows w ↦
          let is : c.args.mode ≡ mode.Glyph = search (rules, c.eq-is_glyph.ensures) in
          let wrapped = w.in_ok-push_glyph_rows.ensures in
          rw (w.ranges-is, is) (IsWrapped-glyphs _ _ _ _ c.utf8.line (apart w.if-fits_width.false).1 wrapped.0 wrapped.1 (wrapped.3 ∙ ap (λ t. t ++ ranges_from 0 wrapped.0) none))
      | else-fits_width+else-is_glyph+in_ok-units+in_ok-push_word_rows w ↦
          let wrapped = w.in_ok-push_word_rows.ensures in
          let all : flat_map units_of wrapped.0 ≡ line_units c.args.line.now =
          wrapped.1 ∙ ap (map (λ (unit : Bor (List ℕ)). unit.now)) w.as_slice.ensures.value ∙ w.in_ok-units.ensures in
          let rows = wrapped.3 ∙ ap (λ t. t ++ ranges_from 0 (flat_map rows_of wrapped.0)) none in
          let not_glyph : c.args.mode ≡ mode.Glyph → ⊥ = search (rules, c.eq-is_glyph.ensures) in
          rw w.ranges-is (IsWrapped-units _ _ _ _ c.utf8.line (apart w.if-fits_width.false).1 wrapped.0 all wrapped.2 rows c.args.mode (apart w.if-fits_width.false).0 not_glyph)
    ]
