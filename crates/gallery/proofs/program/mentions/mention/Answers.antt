use Rattle.std.proofs.Common.{◌≡◌, ◌∙◌, ◌++◌, [], ◌∷◌, ℕ, List, ap, refl, subst, sym}
use Rattle.std.specs.Prelude.{Contains}
use Rattle.textarea_data.specs.declared.range.AtomicRange.{AtomicRange}
use Rattle.textarea_calls.specs.declared.call.Call.TheVariants as call
use Rattle.tui_textarea.specs.Calls.{result_of_call}
use Rattle.tui_textarea.specs.Ranges.{ranges_accepted}
use Rattle.gallery.specs.Mentions.{AreWhole, names}
use Rattle.gallery.proofs.Tokens.{name_characters, whole_if_set, whole_over, whole_with}
use Rattle.gallery.proofs.program.mentions.mention.Goals as goal

pub returns-in_err-insert_str : goal.returns-in_err-insert_str
returns-in_err-insert_str c whole =
    let old = c.args.area.now in
    let new = c.insert_str.new.self in
    whole_over old new (c.ranges_cover_no_more.ensures.out_of_memory old new (call.InsertStr c.args.name) c.is_sound.ensures c.in_err-insert_str.ensures.err) whole

pub returns-in_err-is_whole : goal.returns-in_err-is_whole
returns-in_err-is_whole c whole =
    let old = c.args.area.now in
    let made = call.InsertStr c.args.name in
    whole_over old c.insert_str.new.self
    (c.ranges_cover_no_more.ensures.made old c.insert_str.new.self made (result_of_call old made) c.is_sound.ensures (λ sets. sets) refl c.in_ok-insert_str.ensures.ok) whole

pub returns-then-not-is_whole : goal.returns-then-not-is_whole
returns-then-not-is_whole c whole =
    let old = c.args.area.now in
    let made = call.InsertStr c.args.name in
    whole_over old c.insert_str.new.self
    (c.ranges_cover_no_more.ensures.made old c.insert_str.new.self made (result_of_call old made) c.is_sound.ensures (λ sets. sets) refl c.in_ok-insert_str.ensures.ok) whole

pub returns-in_err-ranges : goal.returns-in_err-ranges
returns-in_err-ranges c whole =
    let old = c.args.area.now in
    let made = call.InsertStr c.args.name in
    whole_over old c.insert_str.new.self
    (c.ranges_cover_no_more.ensures.made old c.insert_str.new.self made (result_of_call old made) c.is_sound.ensures (λ sets. sets) refl c.in_ok-insert_str.ensures.ok) whole

pub returns-in_err-push : goal.returns-in_err-push
returns-in_err-push c whole =
    let old = c.args.area.now in
    let made = call.InsertStr c.args.name in
    whole_over old c.insert_str.new.self
    (c.ranges_cover_no_more.ensures.made old c.insert_str.new.self made (result_of_call old made) c.is_sound.ensures (λ sets. sets) refl c.in_ok-insert_str.ensures.ok) whole

pub returns : goal.returns
returns c whole =
    let old = c.args.area.now in
    let mid = c.insert_str.new.self in
    let made = call.InsertStr c.args.name in
    let mid_whole =
    whole_over old mid (c.ranges_cover_no_more.ensures.made old mid made (result_of_call old made) c.is_sound.ensures (λ sets. sets) refl c.in_ok-insert_str.ensures.ok) whole in
    let range = c.before_cursor-range.result in
    let named = subst (λ (characters : List ℕ). Contains names characters) (sym (c.in_ok-is_whole.ensures c.if-not-is_whole.false ∙ name_characters c.args.name.now c.requires)) c.requires in
    let items : c.push.new.self.items ≡ mid.document.ranges ++ range ∷ [] =
    c.in_ok-push.ensures.items ∙ ap (λ (ranges : List AtomicRange). ranges ++ range ∷ []) (c.in_ok-ranges.ensures.items ∙ c.atomic_ranges.ensures.value) in
    whole_if_set c.try_set_atomic_ranges.result mid c.try_set_atomic_ranges.new.self c.push.new.self.items c.try_set_atomic_ranges.ensures.set
    c.try_set_atomic_ranges.ensures.unchanged_if_rejected c.try_set_atomic_ranges.ensures.err mid_whole
    (subst (λ (ranges : List AtomicRange). AreWhole (ranges_accepted mid ranges)) (sym items) (whole_with mid range mid_whole named))
