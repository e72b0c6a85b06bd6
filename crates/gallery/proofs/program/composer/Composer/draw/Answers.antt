use Rattle.std.proofs.Common.{sym, subst}
use Rattle.gallery.specs.Mentions.{AreWhole}
use Rattle.gallery.proofs.Tokens.{by_result, whole_drawn, whole_same}
use Rattle.gallery.proofs.program.composer.Composer.draw.Goals as goal

pub returns-in_err-light_all : goal.returns-in_err-light_all
returns-in_err-light_all c =
    record { whole = whole_same c.args.self.now.area c.light_all.new.area c.light_all.ensures }

pub returns : goal.returns
returns c =
    let lit = c.light_all.new.area in
    let new = c.render.new.self in
    record {
      whole = λ whole.
          let stays = whole_same c.args.self.now.area lit c.light_all.ensures whole in
          by_result c.render.result _ _ (AreWhole new) c.render.ensures.ok c.render.ensures.err
          (λ rendered. whole_drawn lit new _ rendered stays)
          (λ same. subst AreWhole (sym same) stays);
    }
