-- The messages of the status row.
use Rattle.std.specs.Prelude.{ℕ, List, [], ◌++◌, codes, decimal, if◌then◌else◌, length, nat_le}
use Rattle.textarea_editor.specs.declared.message.Message.{Message}
use Rattle.textarea_editor.specs.declared.message.Message.TheVariants as message
use Rattle.textarea_files.specs.Troubles.{full_reason, short_reason}
use Rattle.textarea_files.specs.declared.trouble.Trouble.{Trouble}

-- that a save failed, and why. Where the room is too narrow, first "not saved" goes, and then the reason is shorter
abbrev pub not_saved_words : Trouble → ℕ → List ℕ
not_saved_words trouble room =
    if nat_le (length (codes "not saved: " ++ full_reason trouble)) room then codes "not saved: " ++ full_reason trouble
    else (if nat_le (length (full_reason trouble)) room then full_reason trouble else short_reason trouble)

-- a message, but for the number or the reason that follows it
abbrev pub message_start : Message → List ℕ
message_start message.Nothing = []
message_start message.Exists = []
message_start message.NewFile = codes "new file"
message_start message.NotUtf8 = codes "not UTF-8: read-only, other bytes are shown as \\xE9"
message_start message.ReadOnly = codes "read-only"
message_start (message.ControlCharacters count) = codes "control characters: "
message_start message.Saved = codes "saved"
message_start message.SavedAnew = codes "it was deleted; saved anew"
message_start message.Unsynced = codes "saved, but the disk failed to make sure of it"
message_start (message.Unwritable failed) = codes "it can't be written: "
message_start message.OpenElsewhere = codes "another editor has it open"
message_start message.NoJournal = codes "no journal can be written"
message_start (message.NotSaved failed) = codes "not saved: "
message_start message.NoMatch = codes "no match"
message_start message.FromStart = codes "went on from the start"
message_start message.FromEnd = codes "went on from the end"
message_start message.BrokenPattern = codes "broken pattern"
message_start (message.Replaced count) = codes "replaced: "
message_start message.NoLine = codes "not a line number"
message_start message.Memory = codes "out of memory"

-- a whole message, in a room of so many columns
abbrev pub message_words : Message → ℕ → List ℕ
message_words (message.ControlCharacters count) room = codes "control characters: " ++ decimal count
message_words (message.Replaced count) room = codes "replaced: " ++ decimal count
message_words (message.Unwritable failed) room = codes "it can't be written: " ++ full_reason failed
message_words (message.NotSaved failed) room = not_saved_words failed room
message_words other room = message_start other
