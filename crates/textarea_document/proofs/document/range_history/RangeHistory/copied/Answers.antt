use Rattle.std.proofs.Common.{◌≡◌, ◌∙◌, List, [], ◌∷◌, Vec, ap, map, refl}
use Rattle.std.specs.List.{AllZip, each_same}
use Rattle.std.specs.declared.alloc.Global.{Global}
use Rattle.textarea_document.specs.Prelude.{AtomicRange}
use Rattle.textarea_document.proofs.document.range_history.RangeHistory.copied.Goals as goal

-- a copy of each list has its ranges
copied_lists : (lists copies : List (Vec AtomicRange Global)) → AllZip (λ (ranges copy : Vec AtomicRange Global). AllZip (λ x y. y ≡ x) ranges.items copy.items × (copy.len ≡ ranges.len)) lists copies →
    map (λ (ranges : Vec AtomicRange Global). ranges.items) copies ≡ map (λ (ranges : Vec AtomicRange Global). ranges.items) lists
copied_lists [] [] h = refl
copied_lists [] (copy ∷ copies) h = absurd h
copied_lists (ranges ∷ lists) [] h = absurd h
copied_lists (ranges ∷ lists) (copy ∷ copies) h =
    ap (λ (first : List AtomicRange). first ∷ map (λ (ranges : Vec AtomicRange Global). ranges.items) copies) (each_same ranges.items copy.items h.0.0)
    ∙ ap (λ (rest : List (List AtomicRange)). ranges.items ∷ rest) (copied_lists lists copies h.1)

pub returns : goal.returns
returns c =
    let past = c.args.self.now in
    ap (λ (before : List (List AtomicRange)). record { on = past.on; before = before }) (copied_lists past.before.items c.in_ok-clone.field-0.items c.in_ok-clone.ensures.cases.0)
