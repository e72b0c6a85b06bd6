use Rattle.textarea_files.proofs.FileLines.{after_feed}
use Rattle.textarea_files.proofs.file_text.split_at_feed.Goals as goal

pub range_from-requires : goal.range_from-requires
range_from-requires c = λ _. after_feed c.as_bytes.result.now c.args.text.now c.in_ok-at.at c.as_bytes.ensures.value c.utf8.text c.in_ok-at.ensures
