-- No run leaves the cursor or the anchor inside a cluster, if the cursor goes by clusters.
use Rattle.std.proofs.Common.{ℕ, List, [], ◌∷◌, map, take, Option, None, Some, subst, sym, inl, inr}
use Rattle.std.specs.Prelude.{All}
use Rattle.std.proofs.lemmas.List.Elements.{All-head, All-tail, All-take}
use Rattle.textarea_calls.specs.Possible.{CanBeMade}
use Rattle.textarea_calls.specs.declared.answer.Answer.{Answer}
use Rattle.textarea_calls.specs.declared.call.Call.{Call}
use Rattle.textarea_screen.specs.declared.screen.buffer.Buffer.{Buffer}
use Rattle.textarea_document.specs.Sound.{IsSound}
use Rattle.tui_textarea.specs.CallResults.{CallResult, call_result}
use Rattle.tui_textarea.specs.Outcomes.{IsAfterCall, IsAfterOutOfMemory}
use Rattle.tui_textarea.specs.Run.{Leads, Run}
use Rattle.tui_textarea.specs.State.{State}
use Rattle.tui_textarea.specs.Units.{IsSettled}

-- the laws of each call
pub record TheLaws : Type 0 where
  pub settled : (old new : State) (made : Call) (returned : CallResult) → IsSound old.document → IsSettled old → CanBeMade made → IsAfterCall old made returned new → IsSettled new
  pub left : (old new : State) (made : Call) → IsSound old.document → IsSettled old → IsAfterOutOfMemory old made new → IsSettled new
  pub sound : (old new : State) (made : Call) (returned : CallResult) → IsSound old.document → CanBeMade made → IsAfterCall old made returned new → IsSound new.document

-- the state is sound, and cursor and anchor are outside of clusters
record Stays (state : State) : Type 0 where
  sound : IsSound state.document
  settled : IsSettled state

module _ (laws : TheLaws) where
  calls_settle : (old new : State) (buffer displayed : Buffer) (calls : List Call) (results : List CallResult) → Stays old → All CanBeMade calls
      → Leads old buffer calls results new displayed → Stays new
  calls_settle old new buffer displayed [] [] h can led = subst Stays (sym led.0) h
  calls_settle old new buffer displayed [] (returned ∷ results) h can led = absurd led
  calls_settle old new buffer displayed (made ∷ calls) [] h can led = absurd led
  calls_settle old new buffer displayed (made ∷ calls) (returned ∷ results) h can led =
      let between = led.0 in
      let first = All-head CanBeMade made calls can in
      let next : Stays between = record {
        sound = laws.sound old between made returned h.sound first led.2.after;
        settled = laws.settled old between made returned h.sound h.settled first led.2.after;
      } in
      calls_settle between new led.1 displayed calls results next (All-tail CanBeMade made calls can) led.3

  pub run_settles : (calls : List Call) (results : List Answer) (refused : Option ℕ) (old new : State) (buffer displayed : Buffer) → IsSound old.document → IsSettled old
      → All CanBeMade calls → Run old buffer calls results refused new displayed → IsSettled new
  run_settles calls results None old new buffer displayed sound h can led =
      (calls_settle old new buffer displayed calls (map call_result results) (record { sound = sound; settled = h }) can led).settled
  run_settles calls results (Some index) old new buffer displayed sound h can ran =
      elim ran [
        | inl never ↦ subst IsSettled (sym never.state) h
        | inr stops ↦
            let so_far = calls_settle old stops.before buffer stops.screen (take index calls) (map call_result results) (record { sound = sound; settled = h }) (All-take CanBeMade index calls can) stops.led in
            laws.left stops.before new stops.call so_far.sound so_far.settled stops.ran_out.left
      ]
