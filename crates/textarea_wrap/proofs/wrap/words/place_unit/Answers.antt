use Rattle.std.proofs.Common.{ℕ, ◌<◌, ◌≤◌, ◌⊎◌, le_refl, List, ◌∷◌, map, inl, inr, sym, ◌∙◌, Ok, Bor}
use Rattle.std.proofs.lemmas.Bool.{false≢true}
use Rattle.textarea_wrap.proofs.GlyphLemmas.{nonempty_pushed}
use Rattle.textarea_wrap.specs.Prelude.{HangsOver, Stretch, IsWordWalk}
use Rattle.textarea_wrap.proofs.WordLemmas.{IsWordWalk-join, IsWordWalk-close, IsWordWalk-empty, IsWordWalk-split}
use Rattle.textarea_wrap.proofs.wrap.words.place_unit.Goals as goal
use Rattle.textarea_wrap.proofs.wrap.words.place_unit.Goals.{After-column_after_text-single, then-joined-width-via-then-joined-width}
use Rattle.textarea_wrap.proofs.wrap.words.place_unit.Goals.{then-joined-width-via-else-joined-width+then-hangs_over}

pub returns-then-joined-width-clause-placed : goal.returns-then-joined-width-clause-placed
returns-then-joined-width-clause-placed c = λ units before walk.
    let left = map (λ (unit : Bor (List ℕ)). unit.now) c.args.later.now in
    let start = c.args.row.start in
    let end = c.args.row.end in
    let joined = c.column_after_text-joined in
    let room : (joined.result ≤ c.args.width) ⊎ ((start < end) × HangsOver c.args.width joined.result c.args.unit.now left) =
    elim c.then-joined-width.branch [
      | then-joined-width-via-then-joined-width w ↦ inl w.if-joined-width.true
      | then-joined-width-via-else-joined-width+then-hangs_over w ↦ inr (w.hangs_over.ensures.0 w.if-hangs_over.true)
    ] in
    IsWordWalk-join _ _ units before _ _ left _ _ _ _ walk joined.ensures.value room

abbrev IsBeforeUnit : After-column_after_text-single → Stretch → List (ℕ × ℕ) → ℕ → ℕ → ℕ → List (ℕ × ℕ) → Type 0
IsBeforeUnit c units before start end column rows =
    IsWordWalk c.args.tab_len c.args.width units before rows (c.args.unit.now ∷ map (λ (unit : Bor (List ℕ)). unit.now) c.args.later.now) start end column

-- after the open row, if there is one, the unit is before an empty row
empty : (c : After-column_after_text-single) (units : Stretch) (before : List (ℕ × ℕ)) →
    IsBeforeUnit c units before c.args.row.start c.args.row.end c.args.row.column c.args.rows.now.items →
    IsBeforeUnit c units before c.args.row.end c.args.row.end 0 c.push_nonempty.new.rows.items
empty c units before walk =
    let row = c.args.row in
    let pushed = c.in_ok-push_nonempty.ensures in
    nonempty_pushed {T = ℕ} {E = ℕ} (IsBeforeUnit c units before row.end row.end 0) _ _ row.start row.end (Ok 0)
    (λ some. IsWordWalk-close _ _ units before _ _ _ _ _ _ _ walk c.column_after_text-joined.ensures.value some c.if-joined-width.false
    (λ h. false≢true (sym c.if-hangs_over.false ∙ c.hangs_over.ensures.1 (some, h))))
    (λ none. IsWordWalk-empty _ _ units before _ _ _ _ _ _ walk none) pushed.some pushed.none

pub returns-then-single-width-clause-placed : goal.returns-then-single-width-clause-placed
returns-then-single-width-clause-placed c = λ units before walk.
    let nothing = empty (goal.at.returns-then-single-width-clause-placed c).After-column_after_text-single units before walk in
    IsWordWalk-join _ _ units before _ _ _ _ _ _ _ nothing c.column_after_text-single.ensures.value (inl c.if-single-width.true)

pub returns-clause-placed : goal.returns-clause-placed
returns-clause-placed c = λ units before walk.
    let nothing = empty (goal.at.returns-clause-placed c).After-column_after_text-single units before walk in
    let wrapped = c.in_ok-push_glyph_rows.ensures in
    let over = rw c.column_after_text-single.ensures.value at c.if-single-width.false in
    rw wrapped.3 (IsWordWalk-split _ _ units before _ _ _ _ _ _ nothing wrapped.0 (le_refl c.args.row.end) over wrapped.1 wrapped.2)
