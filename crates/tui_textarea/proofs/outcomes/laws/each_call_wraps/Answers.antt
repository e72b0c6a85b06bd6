use Rattle.tui_textarea.proofs.CallWraps.{TheLaws, call_wraps, out_of_memory_wraps}
use Rattle.tui_textarea.proofs.outcomes.laws.each_call_wraps.Goals as goal

pub returns : goal.returns
returns c =
    let laws : TheLaws = record {
      edited = c.edits_wrap.ensures.edited;
      undone = c.edits_wrap.ensures.undone;
      redone = c.edits_wrap.ensures.redone;
      replaced = c.edits_wrap.ensures.replaced;
      width = c.layout_changes_wrap.ensures.width;
      settings = c.layout_changes_wrap.ensures.settings;
      lines = c.layout_changes_wrap.ensures.lines;
    } in
    record { made = call_wraps laws; out_of_memory = out_of_memory_wraps laws }
