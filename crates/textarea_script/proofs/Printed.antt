-- The printed text of equal sessions; it is written, and all bytes are read.
use Rattle.std.proofs.Common.{◌≡◌, ◌∙◌, ◌++◌, ℕ, List, [], Ok, Err, ap, false, subst, sym}
use Rattle.std.proofs.lemmas.Bool.{true≢false}
use Rattle.std.proofs.lemmas.Option.{IfSome_then}
use Rattle.std.proofs.lemmas.Result.{on_ok_weaker}
use Rattle.std.specs.Io.KnownBytes.{Appends}
use Rattle.std.specs.Prelude.{IfOk, IfSome, IsUtf8, OnOk, Option, Result, is_err}
use Rattle.textarea_data.specs.declared.input.Input.{Input}
use Rattle.tui_textarea.specs.State.{State, new_state}
use Rattle.textarea_script.specs.Session.{IsPrinted, IsSessionWritten, inputs_of_text}

-- equal states and equal inputs have the same printed text
pub printed_same : {T E : Type 0} {old new : State} {inputs others : List Input} (r : Result T E) (bytes : T → List ℕ) → old ≡ new → inputs ≡ others
    → IfOk r (λ printed. IsPrinted old inputs (bytes printed)) → IfOk r (λ printed. IsPrinted new others (bytes printed))
printed_same {T} {E} {old} {new} {inputs} {others} r bytes same_state same_inputs printed =
    subst (λ (state : State). IfOk r (λ text. IsPrinted state others (bytes text))) same_state
    (subst (λ (all : List Input). IfOk r (λ text. IsPrinted old all (bytes text))) same_inputs printed)

-- the printed text of all the bytes is written
pub session_written : {T E : Type 0} (r : Result T E) (all old new : Option (List ℕ)) (bytes read printed text : List ℕ)
    → bytes ≡ read → IfSome all (λ whole. read ≡ whole) → IsUtf8 bytes → text ≡ printed → IsPrinted (new_state []) (inputs_of_text bytes) printed
    → OnOk r (Appends old new text) → OnOk r (IfSome all (IsSessionWritten old new))
session_written r all old new bytes read printed text borrowed read_is valid displayed session written =
    on_ok_weaker r
    (λ appended. IfSome_then all read_is (λ whole same. subst (IsSessionWritten old new) (borrowed ∙ same)
    (record { text = valid; printed = text; session = subst (IsPrinted (new_state []) (inputs_of_text bytes)) (sym displayed) session; written = appended })))
    written

-- bytes that are appended to no bytes are all the bytes
pub all_read : {T E : Type 0} (r : Result T E) (all : Option (List ℕ)) (before bytes : List ℕ) → is_err r ≡ false → before ≡ []
    → OnOk r (IfSome all (λ whole. bytes ≡ before ++ whole)) → IfSome all (λ whole. bytes ≡ whole)
all_read (Ok count) all before bytes succeeds none read = IfSome_then all read (λ whole same. same ∙ ap (λ (l : List ℕ). l ++ whole) none)
all_read (Err error) all before bytes succeeds none read = absurd (true≢false succeeds)
