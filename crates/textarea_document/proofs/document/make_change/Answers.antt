use Rattle.std.proofs.Common.{◌≤◌, ◌∙◌, List, ap, filter_map, subst, sym}
use Rattle.textarea_document.specs.ChangeLog.{changes_of}
use Rattle.textarea_document.specs.Prelude.{size_limit, ChangeView, LoggedChanges, Fits, Symbol, Place, lines, place_before, moved_by, moved_ranges, splice_changes, text_of, with_more}
use Rattle.textarea_ranges.proofs.Searching.{AreApart-valid}
use Rattle.textarea_document.proofs.Ranges.{movable}
use Rattle.textarea_document.proofs.document.make_change.Goals as goal

pub move_ranges-requires-clause-apart : goal.move_ranges-requires-clause-apart
move_ranges-requires-clause-apart c = AreApart-valid (lines c.args.text_layout.now.text) c.args.ranges.now.items c.requires.valid c.requires.in_order

pub move_ranges-requires-clause-movable : goal.move_ranges-requires-clause-movable
move_ranges-requires-clause-movable c = movable c.args.text_layout.now.text c.args.ranges.now.items c.places_are_small.ensures c.requires.valid

pub move_ranges-requires-clause-small : goal.move_ranges-requires-clause-small
move_ranges-requires-clause-small c =
    subst (λ (p : Place). (p.0 ≤ size_limit) × (p.1 ≤ size_limit)) (sym c.cursor_after-new.ensures) c.in_ok-change_lines.ensures.small

pub returns-clause-ranges : goal.returns-clause-ranges
unfolding moved_ranges
returns-clause-ranges c =
    let ranges = c.args.ranges.now.items in
    let splice = c.args.change in
    c.move_ranges.ensures
    ∙ ap (λ (p : Place). filter_map (moved_by p c.cursor_before-old.result c.cursor_after-new.result) ranges) c.start-start.ensures
    ∙ ap (λ (p : Place). filter_map (moved_by splice.place p c.cursor_after-new.result) ranges) c.cursor_before-old.ensures
    ∙ ap (λ (p : Place). filter_map (moved_by splice.place (place_before splice) p) ranges) c.cursor_after-new.ensures

pub prepare-requires-clause-fits : goal.prepare-requires-clause-fits
prepare-requires-clause-fits c = subst (λ (t : List Symbol). Fits t c.args.change) (sym c.lines.ensures.value) c.requires.fits

pub returns-clause-changes : goal.returns-clause-changes
returns-clause-changes c =
    let old = changes_of c.args.changes.now in
    let splice = c.args.change in
    c.put.ensures
    ∙ ap (λ (made : List ChangeView). with_more (changes_of c.prepare.new.self) made) c.in_ok-kept.ensures.kept
    ∙ ap (λ (log : LoggedChanges). with_more log (splice_changes old.unit (text_of c.lines.result.now) splice)) c.prepare.ensures.same
    ∙ ap (λ (t : List Symbol). with_more old (splice_changes old.unit t splice)) c.lines.ensures.value
