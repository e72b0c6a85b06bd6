use Rattle.std.proofs.Common.{◌++◌, ◌∷◌, [], ap, append_assoc, arith, decimal, ◌+◌, ◌/◌, ◌%◌}
use Rattle.std.proofs.lemmas.Fmt.{decimal_digit, decimal_step}
use Rattle.textarea_terminal.proofs.output.controls.+write_number.Goals.{then-number-ge10+in_ok-write_number, else-number-ge10}
use Rattle.textarea_terminal.proofs.output.controls.+write_number.Goals as goal

pub returns : goal.returns
returns t c =
    let last = (48 + c.args.number % 10) ∷ [] in
    elim c.if-number-ge10.branch [
      | then-number-ge10+in_ok-write_number w ↦
          rw (c.in_ok-push.ensures.items, w.bytes-is, w.in_ok-write_number.ensures, decimal_step c.args.number (omega arith) c.ranges.number.fits)
          (append_assoc c.args.bytes.now.items (decimal (c.args.number / 10)) last)
      | else-number-ge10 w ↦
          rw (c.in_ok-push.ensures.items, w.bytes-is, decimal_digit c.args.number (omega arith))
          (ap (λ digit. c.args.bytes.now.items ++ (48 + digit) ∷ []) (omega arith))
    ]
