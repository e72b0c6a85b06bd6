use Rattle.std.proofs.Common.{◌≡◌, arith, length, string_bytes}
use Rattle.std.proofs.lemmas.Bool.Decides.{nat_tests}
use Rattle.textarea_files.proofs.Views.{all_shown, none_before}
use Rattle.textarea_files.proofs.viewed.viewed.Goals as goal

pub loop-rest-init : goal.loop-rest-init
loop-rest-init c = none_before c.args.bytes.now (string_bytes c.new-text.result) c.new-text.ensures.bytes

pub loop-rest-smaller : goal.loop-rest-smaller
loop-rest-smaller c = c.in_ok-rest.ensures.shorter

pub loop-rest-preserved : goal.loop-rest-preserved
loop-rest-preserved c = c.in_ok-rest.ensures.shown c.args.bytes.now c.loop-rest.invariant

pub returns : goal.returns
returns c =
    let none : length c.loop-rest.rest.now ≡ 0 = grind (arith, nat_tests) in
    all_shown c.args.bytes.now c.loop-rest.rest.now (string_bytes c.loop-rest.text) none c.loop-rest.invariant
