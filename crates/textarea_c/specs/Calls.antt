-- What exports return, and what is behind the handle after them. A status is 0 for ok, 1 for false,
-- 2 for out of memory, 3 for a rejected pattern, 4 for rejected ranges, 5 for an empty handle, 6 for
-- an invalid argument.
use Rattle.std.specs.Prelude.{ℕ, ◌≡◌, ◌≢◌, ◌<◌, ◌≤◌, ◌||◌, List, [], Bool, true, false, not, Option, Some, None, IsSomeAnd, MatchOption, if◌then◌else◌}
use Rattle.std.specs.Str.{chars}
use Rattle.textarea_data.specs.declared.range.AtomicRange.{AtomicRange}
use Rattle.textarea_ranges.specs.Rejected.{AreRejected}
use Rattle.textarea_ranges.specs.Valid.{AreValid}
use Rattle.textarea_text.specs.Fragment.{fragment_symbols}
use Rattle.textarea_text.specs.Text.{lines}
use Rattle.textarea_calls.specs.declared.call.Call.{Call}
use Rattle.textarea_screen.specs.declared.screen.style.Style.{Style}
use Rattle.tui_textarea.specs.CallResults as reported
use Rattle.tui_textarea.specs.CallResults.{CallResult}
use Rattle.tui_textarea.specs.Calls.{NeedsMemory, result_of_call, state_after}
use Rattle.tui_textarea.specs.Edits.{char_inserted}
use Rattle.tui_textarea.specs.Fitting.{fits_each}
use Rattle.tui_textarea.specs.Guards.{admitted, bars_character}
use Rattle.tui_textarea.specs.Input.{flag_of}
use Rattle.tui_textarea.specs.Patterns.{IsNewPattern, MayRejectPattern}
use Rattle.tui_textarea.specs.Ranges.{ranges_accepted}
use Rattle.tui_textarea.specs.Replacing.{replaceable}
use Rattle.textarea_search.specs.PlainTexts.{text_pattern}
use Rattle.tui_textarea.specs.Search.{with_pattern, with_search_text}
use Rattle.tui_textarea.specs.State.{State}
use Rattle.tui_textarea.specs.Selection.{IsInsertOutOfMemory}
use Rattle.textarea_data.specs.declared.range.AtomicCursorBias.TheVariants.{Forward}
use Rattle.tui_textarea.specs.Units.{settled}
use Rattle.tui_textarea.specs.Measure.{with_surround}
use Rattle.textarea_screen.specs.Block.{BlockView}
use Rattle.textarea_screen.specs.Text.{TextView}
use Rattle.textarea_c.specs.declared.editor.Editor.{Editor}

-- an empty handle stays empty, and the status says so; otherwise something is behind the handle
-- before and after the call, and `P` relates the two
abbrev pub Calls : {A : Type 0} → Option A → ℕ → Option A → (A → A → Type 0) → Type 0
Calls before status after P = MatchOption before ((status ≡ 5) × (after ≡ None)) (λ a. IsSomeAnd after (P a))

abbrev pub with_area : Editor → State → Editor
with_area editor area = record editor { area = area }

-- a call that changes nothing
abbrev pub OnlyReads : {A : Type 0} → ℕ → A → A → Type 0
OnlyReads status a b = (status ≡ 0) × (b ≡ a)

-- a call that changes nothing, of something that may not be there
abbrev pub Asks : ℕ → Editor → Editor → Type 0
Asks status a b = (status < 2) × (b ≡ a)

-- a call that returns whether something is so, and changes nothing
abbrev pub Answers : Bool → ℕ → Editor → Editor → Type 0
Answers truth status a b = (status ≡ (if truth then 0 else 1)) × (b ≡ a)

-- a call without a result that leaves this text area
abbrev pub Sets : State → ℕ → Editor → Editor → Type 0
Sets area status a b = (status ≡ 0) × (b ≡ with_area a area)

-- the same with an argument that may be invalid
abbrev pub SetsBy : {A : Type 0} → Option A → (A → State) → ℕ → Editor → Editor → Type 0
SetsBy argument area status a b = MatchOption argument ((status ≡ 6) × (b ≡ a)) (λ x. Sets (area x) status a b)

-- a call without a result that leaves a text area of which `P` holds
abbrev pub Goes : (State → Type 0) → ℕ → Editor → Editor → Type 0
Goes P status a b = (status ≡ 0) × P b.area × (b ≡ with_area a b.area)

-- the same with an argument that may be invalid
abbrev pub GoesBy : {A : Type 0} → Option A → (A → State → Type 0) → ℕ → Editor → Editor → Type 0
GoesBy argument P status a b = MatchOption argument ((status ≡ 6) × (b ≡ a)) (λ x. Goes (P x) status a b)

-- a call without a result that may run out of memory
abbrev pub ChangesArea : State → ℕ → Editor → Editor → Type 0
ChangesArea area status a b = (status ≡ 0 → b ≡ with_area a area) × (status ≢ 0 → (status ≡ 2) × (b ≡ a))

-- a call with an argument that may be invalid
abbrev pub Given : {A B : Type 0} → Option A → (A → ℕ → B → B → Type 0) → ℕ → B → B → Type 0
Given argument P status a b = MatchOption argument ((status ≡ 6) × (b ≡ a)) (λ x. P x status a b)

-- a call that only needs memory
abbrev pub Copies : ℕ → Editor → Editor → Type 0
Copies status a b = (b ≡ a) × (status ≢ 0 → status ≡ 2)

-- the same with an argument that may be invalid
abbrev pub ChangesBy : {A : Type 0} → Option A → (A → State) → ℕ → Editor → Editor → Type 0
ChangesBy argument area status a b = MatchOption argument ((status ≡ 6) × (b ≡ a)) (λ x. ChangesArea (area x) status a b)

-- a call that needs memory to read its argument, which may be invalid
abbrev pub ChangesIf : {A : Type 0} → Option A → (A → State) → ℕ → Editor → Editor → Type 0
ChangesIf argument area status a b =
    (status ≡ 0 → IsSomeAnd argument (λ x. b ≡ with_area a (area x))) × (status ≡ 6 → argument ≡ None) × (status ≢ 0 → b ≡ a)
    × (status ≢ 0 → status ≢ 6 → status ≡ 2)

-- the block, and the placeholder, of a text area replaced
abbrev pub with_block : State → BlockView → State
with_block state block = with_surround state (record state.surround { block = Some block })

abbrev pub with_placeholder_view : State → TextView → State
with_placeholder_view state placeholder = with_surround state (record state.surround { placeholder = placeholder })

-- the status says whether there was something to do; without it no memory is needed
abbrev pub Tells : Bool → ℕ → Type 0
Tells found status = (status ≡ 0 → found ≡ true) × (status ≡ 1 → found ≡ false) × (found ≡ false → status ≢ 2)

-- a call that returns whether there was something to do, and that may run out of memory
abbrev pub Tries : Bool → State → ℕ → Editor → Editor → Type 0
Tries found area status a b = (status < 2 → b ≡ with_area a area) × (2 ≤ status → (status ≡ 2) × (b ≡ a)) × Tells found status

-- the same with an argument that may be invalid
abbrev pub TriesBy : {A : Type 0} → Option A → (A → Bool) → (A → State) → ℕ → Editor → Editor → Type 0
TriesBy argument found area status a b = MatchOption argument ((status ≡ 6) × (b ≡ a)) (λ x. Tries (found x) (area x) status a b)

-- exports that only make a call: one that returns whether there was something to do; one without a
-- result, which runs out of memory only where the call may need some; and one that needs no memory
abbrev pub MakesAttempt : Call → ℕ → Editor → Editor → Type 0
MakesAttempt call status a b = Tries (flag_of (result_of_call a.area call)) (state_after a.area call) status a b

abbrev pub MakesChange : Call → ℕ → Editor → Editor → Type 0
MakesChange call status a b = ChangesArea (state_after a.area call) status a b × (status ≡ 2 → NeedsMemory a.area call)

abbrev pub MakesSetting : Call → ℕ → Editor → Editor → Type 0
MakesSetting call status a b = Sets (state_after a.area call) status a b

-- the last two with an argument that may be invalid
abbrev pub MakesChangeBy : {A : Type 0} → Option A → (A → Call) → ℕ → Editor → Editor → Type 0
MakesChangeBy argument call status a b = Given argument (λ x. MakesChange (call x)) status a b

abbrev pub MakesSettingBy : {A : Type 0} → Option A → (A → Call) → ℕ → Editor → Editor → Type 0
MakesSettingBy argument call status a b = SetsBy argument (λ x. state_after a.area (call x)) status a b

-- the number, and the style, that a call returns
abbrev pub number_in : CallResult → ℕ
number_in (reported.Number number) = number
number_in result = 0

abbrev pub style_in : CallResult → Option Style
style_in (reported.Style style) = Some style
style_in result = None

-- an insertion; out of memory the selected text may have been removed
abbrev pub Inserts : State → ℕ → Editor → Editor → Type 0
Inserts area status a b =
    (status ≡ 0 → b ≡ with_area a area) × (status ≢ 0 → (status ≡ 2) × IsInsertOutOfMemory a.area b.area × (b ≡ with_area a b.area))

-- the insertion of this character, or of the break that it means, as typed
unfoldable pub InsertsCharacter : ℕ → ℕ → Editor → Editor → Type 0
InsertsCharacter c status a b = Inserts (if bars_character a.area c then a.area else settled Forward (char_inserted a.area c)) status a b

-- one that returns whether there was something to insert, and needs no memory where it does nothing
abbrev pub TriesToInsert : Bool → Bool → State → ℕ → Editor → Editor → Type 0
TriesToInsert found does area status a b =
    (status < 2 → b ≡ with_area a area) × (2 ≤ status → (status ≡ 2) × IsInsertOutOfMemory a.area b.area × (b ≡ with_area a b.area))
    × (status ≡ 0 → found ≡ true) × (status ≡ 1 → found ≡ false) × (does ≡ false → status ≢ 2)

-- a search: out of memory nothing changes, and without a pattern no memory is needed
abbrev pub Searches : Bool → State → ℕ → Editor → Editor → Type 0
Searches found area status a b =
    (status < 2 → b ≡ with_area a area) × (2 ≤ status → (status ≡ 2) × (b ≡ a) × (a.area.pattern ≢ None))
    × (status ≡ 0 → found ≡ true) × (status ≡ 1 → found ≡ false)

-- a replacement: the status says whether there was something to do; out of memory nothing changes
abbrev pub Replaces : Bool → State → ℕ → Editor → Editor → Type 0
Replaces found area status a b =
    (status < 2 → b ≡ with_area a area) × (2 ≤ status → (status ≡ 2) × (b ≡ a))
    × (status ≡ 0 → found ≡ true) × (status ≡ 1 → found ≡ false)

-- the replacement of each match by this text is left out: what is inserted doesn't fit, or the text
-- area is read only
abbrev pub bars_replacement : State → List ℕ → Bool
bars_replacement state text = not (fits_each state (replaceable state) (admitted state (fragment_symbols (chars text)))) || state.settings.read_only

-- setting a pattern: a rejected one leaves the text area, and its error is stored; the empty and the
-- present one are always set
abbrev pub Patterns : List ℕ → ℕ → Editor → Editor → Type 0
Patterns text status a b =
    (status ≡ 0 → b ≡ with_area a (with_pattern a.area text))
    × (status ≡ 3 → MayRejectPattern a.area text × (b ≡ record a { pattern_error = b.pattern_error }))
    × (status ≢ 0 → status ≢ 3 → (status ≡ 2) × (b ≡ a)) × (status ≢ 0 → IsNewPattern a.area text)

-- setting the pattern of a plain text: as setting a pattern, but the present one needs memory too
abbrev pub FindsText : List ℕ → Bool → Bool → ℕ → Editor → Editor → Type 0
FindsText text ignore_case whole_word status a b =
    (status ≡ 0 → b ≡ with_area a (with_search_text a.area text ignore_case whole_word))
    × (status ≡ 3 → MayRejectPattern a.area (text_pattern text ignore_case whole_word) × (b ≡ record a { pattern_error = b.pattern_error }))
    × (status ≢ 0 → status ≢ 3 → (status ≡ 2) × (b ≡ a)) × (status ≢ 0 → text ≢ [])

-- setting ranges: only valid ones are set; the rejected ones of others are stored
abbrev pub SetsValidRanges : List AtomicRange → ℕ → Editor → Editor → Type 0
SetsValidRanges ranges status a b =
    (status ≡ 0 → AreValid (lines a.area.document.text) ranges × (b ≡ with_area a (settled Forward (ranges_accepted a.area ranges))))
    × (status ≡ 4 → AreRejected (lines a.area.document.text) ranges b.rejected.items × (b ≡ record a { rejected = b.rejected }))
    × (status ≢ 0 → status ≢ 4 → (status ≡ 2) × (b ≡ a))

-- a call that changes the screen only
abbrev pub ChangesScreen : (Editor → Editor → Type 0) → ℕ → Editor → Editor → Type 0
ChangesScreen P status a b = (b ≡ record a { screen = b.screen }) × (status ≡ 0 → P a b) × (status ≢ 0 → (status ≡ 2) × (b ≡ a))

-- one that needs no memory
abbrev pub Restyles : (Editor → Editor → Type 0) → ℕ → Editor → Editor → Type 0
Restyles P status a b = (status ≡ 0) × P a b × (b ≡ record a { screen = b.screen })
