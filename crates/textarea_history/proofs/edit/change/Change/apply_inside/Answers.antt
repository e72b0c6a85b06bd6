use Rattle.std.proofs.Common.{◌∙◌, ◌≡◌, ◌+◌, [], Bool, false, ap, arith, length, refl, subst, sym}
use Rattle.textarea_history.specs.Prelude.{offset_at, Splice, OccursAt, index_of, symbols_in, weight, Allows, lines_of, text_of}
use Rattle.textarea_text.proofs.StringRows.{rows_place, occurs_until}
use Rattle.textarea_history.proofs.Changes.{Removing, characters_of_one, ends_inside, has_break, removing, symbols_of_change}
use Rattle.textarea_history.proofs.Offsets.{offset_after, offset_bound}
use Rattle.textarea_history.proofs.edit.change.Change.apply_inside.Goals as goal
use Rattle.textarea_history.proofs.edit.change.Change.apply_inside.Goals.{After-weight}

-- ---- a removal

removes : (c : After-weight) → c.args.self.now.inserts ≡ false
removes c = sym (ap (λ (s : Splice). s.inserts) c.self.view_is) ∙ c.if-not-self.true

known : (c : After-weight) → Removing c.args.lines.now.items c.args.self.now c.start-start.result (c.start-start.result.0, c.end-end.result.1)
known c =
    removing c.args.lines.now.items c.args.self.now c.start-start.result (c.start-start.result.0, c.end-end.result.1) (omega (arith, c.requires.nonempty, c.args.lines.now.ok.0)) c.requires.fits (removes c) c.start-start.ensures
    (ends_inside c.args.self.now c.start-start.result c.end-end.result c.requires.inside c.start-start.ensures c.end-end.ensures).0

-- the byte offset at which the symbols end
after : (c : After-weight) → offset_at (lines_of c.args.lines.now.items) (c.start-start.result.0, c.end-end.result.1) ≡ c.args.offset + weight c.args.self.now.symbols
after c =
    let rows = lines_of c.args.lines.now.items in
    let text = text_of c.args.lines.now.items in
    let splice = c.args.self.now in
    let start = c.start-start.result in
    let ends = ends_inside splice start c.end-end.result c.requires.inside c.start-start.ensures c.end-end.ensures in
    let occurs : OccursAt text splice.place splice.symbols = subst (λ (b : Bool). Allows b text splice.place splice.symbols) (removes c) c.requires.fits.allowed in
    let until = occurs_until text splice.place splice.symbols c.requires.fits.is_place occurs in
    let index : index_of text (start.0, c.end-end.result.1) ≡ index_of text start + length splice.symbols =
    ap (index_of text) ends.0 ∙ until.1 ∙ ap (λ p. index_of text p + length splice.symbols) (sym c.start-start.ensures) in
    offset_after rows start (start.0, c.end-end.result.1) splice.symbols (known c).from (known c).end_place refl
    (subst (λ p. OccursAt text p splice.symbols) (sym c.start-start.ensures) occurs) index
    ∙ ap (λ n. n + weight splice.symbols) (ap (offset_at rows) c.start-start.ensures ∙ sym c.requires.offset)

pub overflow_add-offset : goal.overflow_add-offset
overflow_add-offset c =
    omega (arith, after (goal.at.overflow_add-offset c).After-weight, c.weight.ensures, offset_bound c.args.lines.now.items (c.start-start.result.0, c.end-end.result.1))

pub remove_inside-requires-clause-start : goal.remove_inside-requires-clause-start
remove_inside-requires-clause-start c = (known (goal.at.remove_inside-requires-clause-start c).After-weight).from

pub remove_inside-requires-clause-end : goal.remove_inside-requires-clause-end
remove_inside-requires-clause-end c = (known (goal.at.remove_inside-requires-clause-end c).After-weight).end_place

pub remove_inside-requires-clause-end_offset : goal.remove_inside-requires-clause-end_offset
remove_inside-requires-clause-end_offset c =
    omega (arith, after (goal.at.remove_inside-requires-clause-end_offset c).After-weight, c.weight.ensures, offset_bound c.args.lines.now.items (c.start-start.result.0, c.end-end.result.1))

pub remove_inside-requires-clause-ordered : goal.remove_inside-requires-clause-ordered
remove_inside-requires-clause-ordered c = (ends_inside c.args.self.now c.start-start.result c.end-end.result c.requires.inside c.start-start.ensures c.end-end.ensures).1

pub returns-then-not-self-clause-ok : goal.returns-then-not-self-clause-ok
returns-then-not-self-clause-ok c =
    let splice = c.args.self.now in
    let start = c.start-start.result in
    let to = c.end-end.result in
    let ends = ends_inside splice start to c.requires.inside c.start-start.ensures c.end-end.ensures in
    let gone =
    removing c.args.lines.now.items splice start (start.0, to.1) (omega (arith, c.requires.nonempty, c.args.lines.now.ok.0)) c.requires.fits (removes (goal.at.returns-then-not-self-clause-ok c).After-weight) c.start-start.ensures ends.0 in
    c.remove_inside.ensures.text ∙ gone.text [] refl

-- ---- an insertion

pub unreachable-requires : goal.unreachable-requires
unreachable-requires c =
    let inside = c.edit.inside in
    has_break inside.content inside.inserts c.self.inside.inserts inside.start inside.end c.self.inside.edit.now c.args.self.now c.edit.view_is c.self.view_is c.self.invariant c.requires.inside c.in-Break.is

pub insert_inside-requires-clause-symbols : goal.insert_inside-requires-clause-symbols
insert_inside-requires-clause-symbols c =
    let inside = c.edit.inside in
    characters_of_one c.encode_utf8.result.now c.in-Character.c c.encode_utf8.utf8 c.encode_utf8.ensures.value
    ∙ ap (symbols_in inside.inserts) (sym c.in-Character.is)
    ∙ symbols_of_change inside.content inside.inserts c.self.inside.inserts inside.start inside.end c.self.inside.edit.now c.args.self.now c.edit.view_is c.self.view_is

pub returns-in_err-restored-in-Typed-clause-start : goal.returns-in_err-restored-in-Typed-clause-start
returns-in_err-restored-in-Typed-clause-start c =
    rows_place c.args.lines.now.items c.args.self.now.place (omega (arith, c.requires.nonempty, c.args.lines.now.ok.0)) c.requires.fits.is_place
