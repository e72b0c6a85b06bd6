use Rattle.std.proofs.Common.{append_assoc}
use Rattle.textarea_terminal.specs.Title.{title_bytes}
use Rattle.textarea_terminal.proofs.output.title.set_title.Goals as goal

pub returns-clause-ok : goal.returns-clause-ok
unfolding title_bytes
returns-clause-ok c =
    rw (c.in_ok-extend_from_slice.ensures.items, c.as_bytes.ensures.value, c.in_ok-push_str.ensures.bytes, c.in_ok-push_printable.ensures, c.in_ok-text.ensures.ok) (simp append_assoc)
