use Rattle.tui_textarea.proofs.CallWraps.{Never, call_grows, left_grows}
use Rattle.tui_textarea.proofs.outcomes.laws.count_never_falls.Goals as goal

pub returns : goal.returns
returns c =
    let never : Never = record {
      at_once = c.count_never_falls.ensures.at_once;
      splices = c.count_never_falls.ensures.splices;
      width = c.count_never_falls.ensures.width;
      settings = c.count_never_falls.ensures.settings;
      lines = c.count_never_falls.ensures.lines;
    } in
    record {
      made = λ old new call returned sound h. call_grows never old new call (c.each_call_wraps.ensures.made old new call returned sound h);
      out_of_memory = λ old new call sound h. left_grows never old new (c.each_call_wraps.ensures.out_of_memory old new call sound h);
    }
