use Rattle.std.proofs.Common.{length, sym, ap, ◌∙◌, arith}
use Rattle.textarea_screen.specs.Buffer.{area_of}
use Rattle.textarea_paint.specs.Clusters.{in_style, letter_clusters}
use Rattle.textarea_paint.proofs.LetterPutLemmas.{fewer-put, letters-put, room-at, some_columns, walk-put}
use Rattle.textarea_paint.proofs.WalkLemmas.{first-columns, head-short, later-letters, next_clusters, walk-next, walk-start}
use Rattle.textarea_paint.proofs.paint.cells.draw_first_letters.Goals as goal

pub put_characters-put-requires : goal.put_characters-put-requires
put_characters-put-requires c =
    let room = room-at (area_of c.args.buffer.now) c.args.cells c.args.pen c.args.columns (sym c.is_room_at.ensures ∙ c.if-is_room_at.true) in
    let some = some_columns c.args.columns c.args.letters.now c.utf8.letters c.requires.some c.requires.letters in
    record {
      columns = some;
      start = room.inside;
      end = (omega (arith, some, room.room, c.visible_end-end.ensures), omega (arith, c.visible_end-end.ensures));
    }

pub returns-then-is_room_at-clause-walk : goal.returns-then-is_room_at-clause-walk
returns-then-is_room_at-clause-walk c =
    let room = room-at (area_of c.args.buffer.now) c.args.cells c.args.pen c.args.columns (sym c.is_room_at.ensures ∙ c.if-is_room_at.true) in
    walk-put c.utf8.letters c.requires.letters room.hidden c.requires.within (omega (arith, c.visible_end-end.ensures)) c.put_characters-put.ensures.put

pub returns-then-is_room_at-clause-fewer : goal.returns-then-is_room_at-clause-fewer
returns-then-is_room_at-clause-fewer c =
    let room = room-at (area_of c.args.buffer.now) c.args.cells c.args.pen c.args.columns (sym c.is_room_at.ensures ∙ c.if-is_room_at.true) in
    let some = some_columns c.args.columns c.args.letters.now c.utf8.letters c.requires.some c.requires.letters in
    fewer-put c.utf8.letters c.requires.some (omega (arith, some, room.room, c.visible_end-end.ensures)) c.put_characters-put.ensures.put

pub returns-clause-walk : goal.returns-clause-walk
returns-clause-walk c =
    walk-next (in_style c.args.style c.split_letter.result.0.now)
    (walk-start c.args.cells c.args.pen (letter_clusters c.args.style c.args.letters.now) c.args.buffer.now c.requires.within) (next_clusters c.args.style c.split_letter.ensures)
    (λ left column at. c.in_ok-moved.ensures.moved left column at) (λ left column at. c.in_ok-moved.ensures.drawn left column at) c.in_ok-moved.ensures.within

pub returns-then-is_room_at-clause-letters : goal.returns-then-is_room_at-clause-letters
returns-then-is_room_at-clause-letters c = letters-put c.requires.letters c.put_characters-put.ensures.put

pub returns-clause-letters : goal.returns-clause-letters
returns-clause-letters c = later-letters c.args.columns c.requires.letters c.split_letter.ensures

pub returns-clause-fewer : goal.returns-clause-fewer
returns-clause-fewer c = omega (arith, ap length c.split_letter.ensures.chars_are)

pub returns-in_err-moved-clause-inline : goal.returns-in_err-moved-clause-inline
returns-in_err-moved-clause-inline c = λ short. cc (c.in_err-moved.ensures.inline (head-short (in_style c.args.style c.split_letter.result.0.now) (next_clusters c.args.style c.split_letter.ensures) short))

pub draw_cluster-requires : goal.draw_cluster-requires
draw_cluster-requires c = record {
  edge = c.requires.edge;
  columns = first-columns c.requires.letters c.split_letter.ensures;
  within = c.requires.within;
}
