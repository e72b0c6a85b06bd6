use Rattle.std.proofs.Common.{◌≡◌, ◌≤◌, ◌++◌, ℕ, Bool, true, false, List, arith, if◌then◌else◌, length, refl}
use Rattle.std.proofs.lemmas.Bool.{leb-true}
use Rattle.std.specs.Prelude.{codes, nat_le}
use Rattle.textarea_editor.proofs.message.reasons_fit_into_18_columns.Goals as goal
use Rattle.textarea_files.specs.Troubles.{full_reason, short_reason}
use Rattle.textarea_files.specs.declared.trouble.Trouble.{Trouble}
use Rattle.textarea_files.specs.declared.trouble.Trouble.TheVariants as trouble

short : (failed : Trouble) → length (short_reason failed) ≤ 18
short trouble.NotText = omega arith
short trouble.Folder = omega arith
short trouble.NotFile = omega arith
short trouble.Rights = omega arith
short trouble.DiskFull = omega arith
short trouble.NoFolder = omega arith
short trouble.ReadOnly = omega arith
short trouble.Memory = omega arith
short trouble.InPart = omega arith
short trouble.Other = omega arith

either : (test : Bool) (words others : List ℕ) (room : ℕ) → (test ≡ true → length words ≤ room) → length others ≤ room → length (if test then words else others) ≤ room
either true words others room fits other = fits refl
either false words others room fits other = other

pub returns : goal.returns
returns c = λ failed room h.
    let whole = codes "not saved: " ++ full_reason failed in
    either (nat_le (length whole) room) whole _ room (leb-true (length whole) room)
    (either (nat_le (length (full_reason failed)) room) (full_reason failed) (short_reason failed) room (leb-true (length (full_reason failed)) room) (omega (arith, short failed)))
