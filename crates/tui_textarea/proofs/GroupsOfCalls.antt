-- The edits of a group, and the undo that takes them back.
use Rattle.std.proofs.Common.{◌≡◌, ◌∙◌, ◌+◌, ◌-◌, ◌<◌, ◌≤◌, ◌&&◌, ◌||◌}
use Rattle.std.proofs.Common.{ℕ, zero, suc, Bool, true, false, cond, List, [], ◌∷◌, ◌++◌, length, take, drop, get_or, ap, arith, refl, replicate, subst, sym}
use Rattle.std.proofs.Math.Bool.{and-false}
use Rattle.std.proofs.Math.Seq.{drop-append_seam}
use Rattle.std.proofs.lemmas.Bool.{eqb-true}
use Rattle.std.proofs.lemmas.List.{append_assoc, drop-append-le, get_or-append-add, get_or-replicate, length-append, length-drop, length-replicate, replicate-append-replicate, take_all}
use Rattle.textarea_text.specs.Splice.{IsTextBefore, Splice, applied, inverse}
use Rattle.textarea_text.specs.Text.{Symbol}
use Rattle.textarea_text.proofs.TextPlaces.{takes_back}
use Rattle.textarea_history.specs.Groups.{group_count, grouped_before, grouped_first, is_filled, is_forgotten, with_edit}
use Rattle.textarea_history.specs.Log.{Log, appended_log, done_groups, is_empty, is_full, is_outgrown, newest_group, oldest_group, recorded, remaining_done, remaining_marks}
use Rattle.textarea_history.specs.declared.history.groups.Group.{Group}
use Rattle.textarea_history.specs.declared.history.groups.Group.TheVariants.{Empty, Filled}
use Rattle.textarea_history.proofs.Groups.{before_more, before_none, remaining_same, some_group}
use Rattle.textarea_document.specs.DocumentState.{DocumentState}
use Rattle.textarea_document.specs.Outcomes.{after_undo}
use Rattle.textarea_document.specs.Sound.{IsSound}
use Rattle.textarea_document.proofs.UndoGroups.{AreUndone, group_undone}
use Rattle.textarea_document.proofs.UndoLaw.{gives_back}
use Rattle.tui_textarea.proofs.UndoneAtOnce.{HasEdits, separate}

-- ---- the newest group of a log

-- the marks of the edits of a group, the first one and as many as these
abbrev pub own_marks : List Splice → List Bool
own_marks rest = false ∷ replicate (length rest) true

own_size : (rest : List Splice) → length (own_marks rest) ≡ suc (length rest)
own_size rest = ap suc (length-replicate (length rest) true)

-- The newest edits of the log, `first` and those after it, are one group, which is open, and
-- nothing is undone.
pub record EndsWith (maximum : ℕ) (log : Log) (first : Splice) (rest : List Splice) : Type 0 where
  pub front : List Splice
  pub before : List Bool
  pub same : length front ≡ length before
  pub done : log.done ≡ front ++ first ∷ rest
  pub marks : log.marks ≡ before ++ own_marks rest
  pub none : length log.undone ≡ 0
  pub filled : log.group ≡ Filled
  pub most : log.maximum ≡ maximum

-- the first edit of a group
pub first_recorded : (log : Log) (splice : Splice) (now : ℕ) → log.group ≡ Empty → length log.done ≤ length log.marks → 0 < log.maximum
    → EndsWith log.maximum (recorded log splice false now) splice []
first_recorded log splice now empty marked some =
    let grows : is_outgrown log ≡ false = ap (λ (g : Group). is_forgotten g || (is_filled g && (is_full log && is_empty (remaining_done log)))) empty in
    let is : recorded log splice false now ≡ appended_log log splice false now = separate log splice false now some refl grows in
    subst (λ (l : Log). EndsWith log.maximum l splice []) (sym is)
    (record {
      front = remaining_done log;
      before = remaining_marks log;
      same = sym (remaining_same log marked);
      done = refl;
      marks = ap (λ (g : Group). remaining_marks log ++ is_filled g ∷ []) empty;
      none = refl;
      filled = ap with_edit empty;
      most = refl;
    })

-- ---- one edit more

-- edits that are in one group with the one before them end before one that isn't
first_before : (before after : List Bool) → grouped_first (before ++ false ∷ after) ≤ length before
first_before [] after = omega arith
first_before (false ∷ before) after = omega arith
first_before (true ∷ before) after = omega (arith, first_before before after)

-- the part of the log before the group that stays when one more edit is recorded
record Stays (log : Log) (first : Splice) (rest : List Splice) : Type 0 where
  front : List Splice
  before : List Bool
  same : length front ≡ length before
  done : remaining_done log ≡ front ++ first ∷ rest
  marks : remaining_marks log ≡ before ++ own_marks rest

stays : (maximum : ℕ) (log : Log) (first : Splice) (rest : List Splice) → EndsWith maximum log first rest → suc (length rest) < maximum → Stays log first rest
stays maximum log first rest h room = by (is_full log) refl
  where
    sizes : length log.done ≡ length h.front + suc (length rest)
    sizes = ap length h.done ∙ length-append h.front (first ∷ rest)

    kept_marks : take (length log.done) log.marks ≡ h.before ++ own_marks rest
    kept_marks =
        ap (take (length log.done)) h.marks
        ∙ take_all (length log.done) (h.before ++ own_marks rest) (omega (arith, sizes, h.same, length-append h.before (own_marks rest), own_size rest))

    within : is_full log ≡ true → oldest_group log ≤ length h.front
    within full =
        let size : length log.done + length log.undone ≡ log.maximum = eqb-true (length log.done + length log.undone) log.maximum full in
        let some : 1 ≤ length h.before = omega (arith, size, h.none, h.most, room, h.same, sizes) in
        let after : drop 1 log.marks ≡ drop 1 h.before ++ own_marks rest = ap (drop 1) h.marks ∙ drop-append-le 1 h.before (own_marks rest) some in
        omega (arith, ap grouped_first after, first_before (drop 1 h.before) (replicate (length rest) true), length-drop 1 h.before, some, h.same)

    by : (full : Bool) → is_full log ≡ full → Stays log first rest
    by true e =
        let inside = within e in
        let whole : is_full log ≡ true = e in
        record {
          front = drop (oldest_group log) h.front;
          before = drop (oldest_group log) h.before;
          same = omega (arith, length-drop (oldest_group log) h.front, length-drop (oldest_group log) h.before, h.same);
          done = ap (λ b. cond b (drop (oldest_group log) log.done) log.done) whole ∙ ap (drop (oldest_group log)) h.done ∙ drop-append-le (oldest_group log) h.front (first ∷ rest) inside;
          marks = ap (λ b. cond b (drop (oldest_group log) (take (length log.done) log.marks)) (take (length log.done) log.marks)) whole
              ∙ ap (drop (oldest_group log)) kept_marks ∙ drop-append-le (oldest_group log) h.before (own_marks rest) (omega (arith, inside, h.same));
        }
    by false e =
        record {
          front = h.front;
          before = h.before;
          same = h.same;
          done = ap (λ b. cond b (drop (oldest_group log) log.done) log.done) e ∙ h.done;
          marks = ap (λ b. cond b (drop (oldest_group log) (take (length log.done) log.marks)) (take (length log.done) log.marks)) e ∙ kept_marks;
        }

not_empty : (front rest : List Splice) (splice : Splice) → is_empty (front ++ splice ∷ rest) ≡ false
not_empty [] rest splice = refl
not_empty (first ∷ front) rest splice = refl

pub more_recorded : (maximum : ℕ) (log : Log) (first : Splice) (rest : List Splice) (splice : Splice) (now : ℕ) → EndsWith maximum log first rest → suc (length rest) < maximum
    → EndsWith maximum (recorded log splice false now) first (rest ++ splice ∷ [])
more_recorded maximum log first rest splice now h room =
    let left = stays maximum log first rest h room in
    let grows : is_outgrown log ≡ false =
    ap (λ (g : Group). is_forgotten g || (is_filled g && (is_full log && is_empty (remaining_done log)))) h.filled
    ∙ ap (λ (d : List Splice). is_full log && is_empty d) left.done
    ∙ ap (λ b. is_full log && b) (not_empty left.front rest first)
    ∙ and-false (is_full log) in
    let is : recorded log splice false now ≡ appended_log log splice false now = separate log splice false now (omega (arith, room, h.most)) refl grows in
    let longer : replicate (length rest) true ++ true ∷ [] ≡ replicate (length (rest ++ splice ∷ [])) true =
    replicate-append-replicate (length rest) 1 true ∙ ap (λ n. replicate n true) (sym (length-append rest (splice ∷ []))) in
    subst (λ (l : Log). EndsWith maximum l first (rest ++ splice ∷ [])) (sym is)
    (record {
      front = left.front;
      before = left.before;
      same = left.same;
      done = ap (λ (d : List Splice). d ++ splice ∷ []) left.done ∙ append_assoc left.front (first ∷ rest) (splice ∷ []);
      marks = ap (λ (g : Group). remaining_marks log ++ is_filled g ∷ []) h.filled
          ∙ ap (λ (m : List Bool). m ++ true ∷ []) left.marks
          ∙ append_assoc left.before (own_marks rest) (true ∷ [])
          ∙ ap (λ (m : List Bool). left.before ++ false ∷ m) longer;
      none = refl;
      filled = ap with_edit h.filled;
      most = h.most;
    })

-- ---- the undo of the group

grouped_in : (before : List Bool) (size count : ℕ) → count ≤ size → grouped_before (before ++ false ∷ replicate size true) (length before + count) ≡ count
grouped_in before size zero within =
    before_none (before ++ false ∷ replicate size true) (length before + 0) (get_or-append-add before (false ∷ replicate size true) 0 false)
grouped_in before size (suc count) within =
    let marks = before ++ false ∷ replicate size true in
    let mark : get_or marks (length before + suc count) false ≡ true =
    get_or-append-add before (false ∷ replicate size true) (suc count) false ∙ get_or-replicate size count true false (omega (arith, within)) in
    let less : (length before + suc count) - 1 ≡ length before + count = omega arith in
    before_more marks (length before + suc count) (omega arith) mark ∙ ap (λ n. suc (grouped_before marks n)) less ∙ ap suc (grouped_in before size count (omega (arith, within)))

-- from one text at most splices lead to another one
one_before : (splices : List Splice) (one other text : List Symbol) → IsTextBefore one text splices → IsTextBefore other text splices → one ≡ other
one_before [] one other text h k = h.leads ∙ sym k.leads
one_before (splice ∷ splices) one other text h k =
    let same : applied one splice ≡ applied other splice =
    one_before splices (applied one splice) (applied other splice) text (record { can = h.can.1; leads = h.leads }) (record { can = k.can.1; leads = k.leads }) in
    sym ((takes_back one splice h.can.0).back) ∙ ap (λ t. applied t (inverse splice)) same ∙ (takes_back other splice k.can.0).back

pub group_taken_back : (maximum : ℕ) (before : List Symbol) (document new : DocumentState) (first : Splice) (rest : List Splice) → IsSound new
    → HasEdits new document.text document.log → IsTextBefore before document.text (first ∷ rest) → EndsWith maximum document.log first rest
    → (after_undo new).text ≡ before
group_taken_back maximum before document new first rest sound edits leads h =
    let done_is : new.log.done ≡ h.front ++ first ∷ rest = edits.done ∙ h.done in
    let marks_is : new.log.marks ≡ h.before ++ own_marks rest = edits.marks ∙ h.marks in
    let sizes : length new.log.done ≡ length h.front + suc (length rest) = ap length done_is ∙ length-append h.front (first ∷ rest) in
    let at : (length new.log.done - 1) ≡ length h.before + length rest = omega (arith, sizes, h.same) in
    let last : suc (length new.log.done - 1) ≡ length new.log.done = omega (arith, sizes) in
    let size : newest_group new.log ≡ suc (length rest) =
    ap (λ n. suc (grouped_before new.log.marks n)) at
    ∙ ap (λ (m : List Bool). suc (grouped_before m (length h.before + length rest))) marks_is
    ∙ ap suc (grouped_in h.before (length rest) (length rest) (omega arith)) in
    let some : 1 ≤ done_groups new.log = subst (λ n. 1 ≤ group_count new.log.marks n) last (some_group new.log.marks (length new.log.done - 1)) in
    let restored = gives_back 1 new sound some in
    let undone : AreUndone (newest_group new.log) new (after_undo new) = group_undone new (omega (arith, size, sizes)) in
    let left : length (after_undo new).log.done ≡ length h.front = omega (arith, undone.done, size, sizes) in
    let own : drop (length (after_undo new).log.done) new.log.done ≡ first ∷ rest =
    ap (λ n. drop n new.log.done) left ∙ ap (drop (length h.front)) done_is ∙ drop-append_seam h.front (first ∷ rest) in
    let by_undo : IsTextBefore (after_undo new).text document.text (first ∷ rest) =
    subst (λ t. IsTextBefore (after_undo new).text t (first ∷ rest)) edits.text_is (subst (IsTextBefore (after_undo new).text new.text) own restored.before) in
    one_before (first ∷ rest) (after_undo new).text before document.text by_undo leads
