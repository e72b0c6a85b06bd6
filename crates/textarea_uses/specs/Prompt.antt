-- What is typed into a prompt, and what it sends.
use Rattle.std.specs.Prelude.{ℕ, ◌-◌, List, [], ◌∷◌, ◌++◌, take, length, if◌then◌else◌, Option, None, Some}
use Rattle.std.specs.Option.{option_to_list}
use Rattle.textarea_data.specs.declared.input.Key.{Key}
use Rattle.textarea_data.specs.declared.input.Key.TheVariants as key
use Rattle.tui_textarea.specs.Edits.{breaks_line}

-- what is typed since the last send, after one more key
abbrev pub typed_after : Key → List ℕ → List ℕ
typed_after (key.Char c) typed = if breaks_line c then typed else typed ++ c ∷ []
typed_after key.Backspace typed = take (length typed - 1) typed
typed_after key.Enter typed = []
typed_after other typed = typed

-- what the key sends
abbrev pub sent_by : Key → List ℕ → Option (List ℕ)
sent_by key.Enter typed = Some typed
sent_by other typed = None

-- the texts that are sent after the keys, one after another, if this was typed and these were sent
-- before them
abbrev pub sent_after : List Key → List ℕ → List (List ℕ) → List (List ℕ)
sent_after [] typed texts = texts
sent_after (first ∷ keys) typed texts = sent_after keys (typed_after first typed) (texts ++ option_to_list (sent_by first typed))
