-- A run of calls: the states and buffers after them, up to the first call that runs out of memory.
use Rattle.std.specs.Prelude.{◌≡◌, ◌<◌, ◌⊎◌, ℕ, List, [], ◌∷◌, length, map, take, slice_get, Option, Some, None}
use Rattle.textarea_screen.specs.Buffer.{area_of, cell_at}
use Rattle.textarea_screen.specs.declared.screen.buffer.Buffer.{Buffer}
use Rattle.tui_textarea.specs.State.{State}
use Rattle.textarea_calls.specs.declared.call.Call.{Call}
use Rattle.textarea_calls.specs.declared.answer.Answer.{Answer}
use Rattle.tui_textarea.specs.CallResults.{CallResult, call_result}
use Rattle.tui_textarea.specs.Outcomes.{IsResultOf, IsAfterCall, IsBufferAfter, IsBufferOutOfMemory, RanOutOfMemory}

-- the call may have this result in the old state and over the old buffer, and leave the new ones
pub record CallLeads (old : State) (buffer : Buffer) (call : Call) (returned : CallResult) (new : State) (displayed : Buffer) : Type 0 where
  pub answered : IsResultOf old call returned
  pub after : IsAfterCall old call returned new
  pub drawn : IsBufferAfter call new buffer displayed

-- the calls lead with these results, one for each call, from the old state and buffer to the new
-- ones: each call starts from the state and buffer after the one before it
abbrev pub Leads : State → Buffer → List Call → List CallResult → State → Buffer → Type 0
Leads old buffer [] [] new displayed = (new ≡ old) × (displayed ≡ buffer)
Leads old buffer (call ∷ calls) (returned ∷ results) new displayed =
    (between : State) × (screen : Buffer) × CallLeads old buffer call returned between screen × Leads between screen calls results new displayed
Leads old buffer calls results new displayed = ⊥

-- all calls were made
abbrev pub Completes : State → Buffer → List Call → List Answer → State → Buffer → Type 0
Completes old buffer calls results new displayed = Leads old buffer calls (map call_result results) new displayed

-- the calls before this index were made, and the one at it ran out of memory, in the state and over
-- the buffer after them
pub record StopsAt (old : State) (buffer : Buffer) (calls : List Call) (results : List Answer) (index : ℕ) (new : State) (displayed : Buffer) : Type 0 where
  pub call : Call
  pub here : slice_get calls index ≡ Some call
  pub before : State
  pub screen : Buffer
  pub led : Leads old buffer (take index calls) (map call_result results) before screen
  pub ran_out : RanOutOfMemory before call new
  pub buffer_left : IsBufferOutOfMemory call screen displayed

-- there is a call, but memory runs out for the list of results, so none was made
pub record NeverBegins (old : State) (buffer : Buffer) (calls : List Call) (results : List Answer) (index : ℕ) (new : State) (displayed : Buffer) : Type 0 where
  pub some : 0 < length calls
  pub first : index ≡ 0
  pub answered : results ≡ []
  pub state : new ≡ old
  pub screen : displayed ≡ buffer

-- the run of the calls has these results, state and buffer; it ran out of memory at the index, if
-- any
abbrev pub Run : State → Buffer → List Call → List Answer → Option ℕ → State → Buffer → Type 0
Run old buffer calls results None new displayed = Completes old buffer calls results new displayed
Run old buffer calls results (Some index) new displayed = NeverBegins old buffer calls results index new displayed ⊎ StopsAt old buffer calls results index new displayed

-- the buffers show the same: their areas are equal, and so is each visible cell
pub record ShowsSame (buffer other : Buffer) : Type 0 where
  pub area : area_of buffer ≡ area_of other
  pub cells : (x y : ℕ) → cell_at buffer x y ≡ cell_at other x y
