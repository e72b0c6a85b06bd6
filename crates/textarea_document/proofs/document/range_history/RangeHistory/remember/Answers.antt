use Rattle.std.proofs.Common.{◌≡◌, ◌∙◌, List, Option, ◌∷◌, Vec, ap, arith, drop, map, sym, take}
use Rattle.std.proofs.lemmas.List.{drop-map, take-map}
use Rattle.std.specs.declared.alloc.Global.{Global}
use Rattle.textarea_document.specs.Prelude.{AtomicRange, with_newest}
use Rattle.textarea_document.specs.RangeHistory.{past_of, ranges_of}
use Rattle.textarea_document.proofs.document.range_history.RangeHistory.remember.Goals as goal

pub push_front_reserved-requires : goal.push_front_reserved-requires
push_front_reserved-requires c = omega (arith, rw c.in-Some.is at c.requires, c.drop_newest.ensures.fewer, c.drop_newest.ensures.capacity)

pub returns-in-Some : goal.returns-in-Some
returns-in-Some c =
    let past = c.args.self.now in
    let undone = c.args.undone in
    let done = c.args.done in
    let ranges = c.in-Some.ranges in
    let items = λ (list : Vec AtomicRange Global). list.items in
    let lists : map items c.truncate.new.self.items ≡ take done (ranges.items ∷ drop undone (map items past.before.items)) =
    ap (map items) (c.truncate.ensures.items ∙ ap (take done) (c.push_front_reserved.ensures.items ∙ ap (λ (rest : List (Vec AtomicRange Global)). ranges ∷ rest) c.drop_newest.ensures.items))
    ∙ sym (take-map items done (ranges ∷ drop undone past.before.items))
    ∙ ap (λ (rest : List (List AtomicRange)). take done (ranges.items ∷ rest)) (sym (drop-map items undone past.before.items)) in
    ap (λ (before : List (List AtomicRange)). record { on = past.on; before = before }) lists
    ∙ ap (λ (kept : Option (Vec AtomicRange Global)). with_newest (past_of past) (ranges_of kept) undone done) (sym c.in-Some.is)
