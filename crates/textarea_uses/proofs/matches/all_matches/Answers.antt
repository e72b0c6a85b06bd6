use Rattle.std.proofs.Common.{◌≡◌, ◌∙◌, ◌<◌, ◌≤◌, ◌+◌, ◌-◌, ℕ, Bool, true, false, cond, List, length, ap, arith, refl, subst, sym}
use Rattle.textarea_text.specs.Place.{IsPlace, Place, index_of}
use Rattle.textarea_text.specs.Text.{Symbol}
use Rattle.textarea_text.proofs.TextPlaces.{index_within}
use Rattle.tui_textarea.specs.Matches.{HasPassed, StaysAtStarts}
use Rattle.tui_textarea.specs.Moves.{gone_to}
use Rattle.tui_textarea.specs.Search.{match_starts, next_match}
use Rattle.tui_textarea.specs.State.{State}
use Rattle.tui_textarea.proofs.MatchWalk.{searched_text, stays_after, stays_searched}
use Rattle.tui_textarea.proofs.Settling.{settled_text}
use Rattle.textarea_data.specs.declared.range.AtomicCursorBias.TheVariants.{Forward}
use Rattle.textarea_uses.proofs.matches.all_matches.Goals as goal

pub steps-init : goal.steps-init
steps-init c =
    let old = c.args.area.now in
    let gone = c.go_to.new.self in
    let new = c.search_forward.new.self in
    let went : gone.document.text ≡ old.document.text = ap (λ (s : State). s.document.text) c.go_to.ensures ∙ settled_text Forward (gone_to old (0, 0)) in (
      ap (λ (s : State). s.document.text) c.in_ok-goes_on.ensures.ok ∙ searched_text gone (next_match gone true) ∙ went,
      c.is_sound.ensures.cursor,
      λ stays. (
        subst StaysAtStarts (sym c.in_ok-goes_on.ensures.ok) (stays_searched gone (next_match gone true) (subst StaysAtStarts (sym c.go_to.ensures) (stays_after old stays))),
        subst (λ (places : List Place). HasPassed (match_starts old) places c.in_ok-goes_on.goes_on new) (sym c.new-places.ensures.items)
            (c.matches_in_order.ensures.begin gone new c.in_ok-goes_on.goes_on stays c.go_to.ensures c.in_ok-goes_on.ensures.found c.in_ok-goes_on.ensures.ok),
      ),
    )

pub steps-preserved : goal.steps-preserved
steps-preserved c =
    let starts = match_starts c.args.area.now in (
      c.in_ok-after.ensures.text ∙ c.steps.invariant.0,
      c.in_ok-after.ensures.within,
      λ stays.
          let so_far = c.steps.invariant.2 stays in (
            c.in_ok-after.ensures.stays so_far.0,
            c.in_ok-after.ensures.passed starts so_far.0 (subst (λ (b : Bool). HasPassed starts c.steps.places.items b c.steps.area) c.steps-test.true so_far.1),
          ),
    )

-- the index of the cursor grows, or the walk ends
smaller : (goes : Bool) (symbols old new : ℕ) → (goes ≡ true → old < new) → new ≤ symbols → cond goes (symbols - new + 1) 0 < symbols - old + 1
smaller true symbols old new ahead within = omega (arith, ahead refl, within)
smaller false symbols old new ahead within = omega arith

pub steps-smaller : goal.steps-smaller
steps-smaller c =
    let text = c.args.area.now.document.text in
    let old = c.steps.area.document.cursor in
    let new = c.step.new.area.document.cursor in
    subst (λ (b : Bool). cond c.in_ok-after.after (length text - index_of text new + 1) 0 < cond b (length text - index_of text old + 1) 0) (sym c.steps-test.true)
    (smaller c.in_ok-after.after (length text) (index_of text old) (index_of text new)
    (λ goes. subst (λ (t : List Symbol). index_of t old < index_of t new) c.steps.invariant.0 (c.in_ok-after.ensures.ahead goes))
    (index_within text new (subst (λ (t : List Symbol). IsPlace t new) (c.in_ok-after.ensures.text ∙ c.steps.invariant.0) c.in_ok-after.ensures.within)))
