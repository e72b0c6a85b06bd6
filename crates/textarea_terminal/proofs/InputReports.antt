-- Reports with numbers are read back.
use Rattle.std.proofs.Common.{◌≡◌, ◌≢◌, ℕ, ◌+◌, ◌-◌, ◌<◌, min, Bool, true, false, cond, not, eqb, leb, List, [], ◌∷◌, ◌++◌, Option, None, Some, refl, sym, ap, ◌∙◌, arith}
use Rattle.std.specs.Prelude.{◌==◌, ◌||◌, bit_and}
use Rattle.std.specs.Int.{is_in_range}
use Rattle.std.proofs.lemmas.List.{append_assoc}
use Rattle.std.proofs.lemmas.Bool.{ne_eqb}
use Rattle.std.proofs.lemmas.Bool.Decides.{nat_tests}
use Rattle.textarea_data.specs.declared.input.Key.{Key}
use Rattle.textarea_data.specs.declared.input.Key.TheVariants as key
use Rattle.textarea_terminal.specs.declared.input.event.Mouse.{Mouse}
use Rattle.textarea_terminal.specs.declared.input.event.MouseKind.{MouseKind}
use Rattle.textarea_terminal.specs.declared.input.event.MouseKind.TheVariants as kind
use Rattle.textarea_terminal.specs.declared.input.event.MouseButton.{MouseButton}
use Rattle.textarea_terminal.specs.declared.input.event.MouseButton.TheVariants as button
use Rattle.textarea_terminal.specs.InputEvent.{EventValue, input, mouse, size, cursor, unknown}
use Rattle.textarea_terminal.specs.InputMouse.{at_cell, has, button_of, mouse_kind, mouse_at, mouse_event}
use Rattle.textarea_terminal.specs.InputParameter.{parameters_of}
use Rattle.textarea_terminal.specs.InputSequence.{sequence_event, event_of, event_of_three, mouse_event_of, reply_event_of}
use Rattle.textarea_terminal.specs.InputUnit.{unit_at}
use Rattle.textarea_terminal.specs.InputRow.{IsGeneral, IsButton, left, middle, right, eighth, ninth, tenth, eleventh, IsReported, press, release, drag, move, wheel_left, wheel_right, bracket}
use Rattle.textarea_terminal.specs.InputRow.{decimal, code_of_kind, last_of_kind, with_modifiers, mouse_report, size_report, cursor_report}
use Rattle.textarea_terminal.proofs.InputSequences.{two_numbers, numbers_of_three, two_numbers-inner, numbers_of_three-inner, length-two, length-three, two_parameters, three_parameters}
use Rattle.textarea_terminal.proofs.InputSequences.{parameters-two, parameters-three, general-read, same_head}

-- ---- a mouse

-- what a code and a last byte say
record Report : Type 0 where
  is_mouse : Bool
  is_down : Bool
  is_great : Bool
  is_wheel : Bool
  low : ℕ
  what : Option MouseKind
  ctrl : Bool
  alt : Bool
  shift : Bool

abbrev report_of : ℕ → ℕ → Report
report_of code last = record {
  is_mouse = last == 77 || last == 109;
  is_down = last == 77;
  is_great = leb 192 code;
  is_wheel = has code 64;
  low = bit_and code 3;
  what = mouse_kind (button_of code) (has code 32) (last == 77);
  ctrl = has code 16;
  alt = has code 8;
  shift = has code 4;
}

-- its event, in a column and a row from 0
abbrev at_report : Report → ℕ → ℕ → Option MouseKind → EventValue
at_report r column row None = unknown
at_report r column row (Some k) = mouse (record { kind = k; column = column; row = row; ctrl = r.ctrl; alt = r.alt; shift = r.shift })

abbrev key_report : Report → Key → EventValue
key_report r k = input (record { key = k; ctrl = r.ctrl; alt = r.alt; shift = r.shift })

abbrev wheel_of_report : Report → ℕ → ℕ → EventValue
wheel_of_report r column row =
    cond (not r.is_down) unknown
    (cond (r.low == 0) (key_report r key.MouseScrollUp)
    (cond (r.low == 1) (key_report r key.MouseScrollDown)
    (cond (r.low == 2) (at_report r column row (Some kind.WheelLeft)) (at_report r column row (Some kind.WheelRight)))))

abbrev event_of_report : Report → ℕ → ℕ → EventValue
event_of_report r column row = cond r.is_mouse (cond r.is_wheel (wheel_of_report r column row) (at_report r column row r.what)) unknown

more-eqb : (n : ℕ) → eqb (n + 1) 0 ≡ false
more-eqb n = ne_eqb (n + 1) 0 (λ e. omega arith)

back_one : (n : ℕ) → n + 1 < 65536 → min 65535 (n + 1) - 1 ≡ n
back_one n h = omega arith

at_cell-report : (code last column row : ℕ) (k : Option MouseKind) → column + 1 < 65536 → row + 1 < 65536 →
    at_cell code (column + 1) (row + 1) k ≡ at_report (report_of code last) column row k
at_cell-report code last column row None h l = refl
at_cell-report code last column row (Some k) h l = rw (back_one column h, back_one row l) refl

mouse_event-report : (code column row last : ℕ) → leb 192 code ≡ false → column + 1 < 65536 → row + 1 < 65536 →
    mouse_event code (column + 1) (row + 1) last ≡ event_of_report (report_of code last) column row
unfolding mouse_event mouse_at
mouse_event-report code column row last small h l =
    let r = report_of code last in
    rw (small, more-eqb column, more-eqb row, back_one column h, back_one row l)
    (ap (λ e. cond r.is_mouse (cond r.is_wheel (wheel_of_report r column row) e) unknown) (at_cell-report code last column row r.what h l))

-- ---- the reports that are sent

each : {A : Type 0} → (Bool → Bool → Bool → A) → List A
each f =
    f true true true ∷ f true true false ∷ f true false true ∷ f true false false ∷ f false true true ∷ f false true false ∷ f false false true ∷ f false false false ∷ []

by_modifiers : {A : Type 0} (f g : Bool → Bool → Bool → A) → each f ≡ each g → (ctrl alt shift : Bool) → f ctrl alt shift ≡ g ctrl alt shift
unfolding each
by_modifiers f g same true true true = cc same
by_modifiers f g same true true false = cc same
by_modifiers f g same true false true = cc same
by_modifiers f g same true false false = cc same
by_modifiers f g same false true true = cc same
by_modifiers f g same false true false = cc same
by_modifiers f g same false false true = cc same
by_modifiers f g same false false false = cc same

abbrev sent : MouseKind → Bool → Bool → Bool → Report
sent k ctrl alt shift = report_of (with_modifiers (code_of_kind k) ctrl alt shift) (last_of_kind k)

abbrev button_report : MouseKind → Bool → Bool → Bool → Report
button_report k ctrl alt shift =
    record (sent k ctrl alt shift) { is_mouse = true; is_great = false; is_wheel = false; what = Some k; ctrl = ctrl; alt = alt; shift = shift }

-- what a button does
abbrev of_button : (MouseKind → Bool → Bool → Bool → Report) → MouseButton → Bool → Bool → Bool → List Report
of_button f b ctrl alt shift = f (kind.Press b) ctrl alt shift ∷ f (kind.Release b) ctrl alt shift ∷ f (kind.Drag b) ctrl alt shift ∷ []

button-sent : (b : MouseButton) → IsButton b → (ctrl alt shift : Bool) → of_button sent b ctrl alt shift ≡ of_button button_report b ctrl alt shift
unfolding each
button-sent _ left = by_modifiers (of_button sent button.Left) (of_button button_report button.Left) refl
button-sent _ middle = by_modifiers (of_button sent button.Middle) (of_button button_report button.Middle) refl
button-sent _ right = by_modifiers (of_button sent button.Right) (of_button button_report button.Right) refl
button-sent _ eighth = by_modifiers (of_button sent (button.Other 8)) (of_button button_report (button.Other 8)) refl
button-sent _ ninth = by_modifiers (of_button sent (button.Other 9)) (of_button button_report (button.Other 9)) refl
button-sent _ tenth = by_modifiers (of_button sent (button.Other 10)) (of_button button_report (button.Other 10)) refl
button-sent _ eleventh = by_modifiers (of_button sent (button.Other 11)) (of_button button_report (button.Other 11)) refl

move-sent : (ctrl alt shift : Bool) → sent kind.Move ctrl alt shift ≡ button_report kind.Move ctrl alt shift
unfolding each
move-sent = by_modifiers (sent kind.Move) (button_report kind.Move) refl

-- the wheel, by its code
abbrev wheel_sent : ℕ → Bool → Bool → Bool → Report
wheel_sent code ctrl alt shift = report_of (with_modifiers code ctrl alt shift) 77

abbrev wheel_report : ℕ → Bool → Bool → Bool → Report
wheel_report code ctrl alt shift =
    record (wheel_sent code ctrl alt shift) { is_mouse = true; is_down = true; is_great = false; is_wheel = true; low = code - 64; ctrl = ctrl; alt = alt; shift = shift }

abbrev of_wheel : (ℕ → Bool → Bool → Bool → Report) → Bool → Bool → Bool → List Report
of_wheel f ctrl alt shift = f 64 ctrl alt shift ∷ f 65 ctrl alt shift ∷ f 66 ctrl alt shift ∷ f 67 ctrl alt shift ∷ []

wheel-sent : (ctrl alt shift : Bool) → of_wheel wheel_sent ctrl alt shift ≡ of_wheel wheel_report ctrl alt shift
unfolding each
wheel-sent = by_modifiers (of_wheel wheel_sent) (of_wheel wheel_report) refl

-- ---- reports are read

regroup_two : (x y tail : List ℕ) → (x ++ 59 ∷ y) ++ tail ≡ x ++ 59 ∷ (y ++ tail)
regroup_two x y tail = append_assoc x (59 ∷ y) tail

regroup_three : (x y z tail : List ℕ) → (x ++ 59 ∷ (y ++ 59 ∷ z)) ++ tail ≡ x ++ 59 ∷ (y ++ 59 ∷ (z ++ tail))
regroup_three x y z tail = append_assoc x (59 ∷ (y ++ 59 ∷ z)) tail ∙ ap (λ w. x ++ 59 ∷ w) (append_assoc y (59 ∷ z) tail)

sequence-mouse : (bytes : List ℕ) (last : ℕ) → sequence_event (60 ∷ bytes) last ≡ mouse_event_of (parameters_of bytes) last
unfolding sequence_event
sequence-mouse bytes last = refl

sequence-reply : (bytes : List ℕ) (last : ℕ) → sequence_event (63 ∷ bytes) last ≡ reply_event_of (parameters_of bytes) last
unfolding sequence_event
sequence-reply bytes last = refl

sequence-other : (b : ℕ) (bytes : List ℕ) (last : ℕ) → b ≢ 60 → b ≢ 63 → sequence_event (b ∷ bytes) last ≡ event_of (parameters_of (b ∷ bytes)) last
unfolding sequence_event
sequence-other b bytes last h k = rw (ne_eqb b 60 h, ne_eqb b 63 k) refl

-- a report of a mouse, whatever its code
mouse_report-read : (code column row last : ℕ) → code < 65536 → column + 1 < 65536 → row + 1 < 65536 → is_in_range 64 126 last ≡ true → last ≢ 91 →
    unit_at (mouse_report code column row last) ≡ Some (mouse_event code (column + 1) (row + 1) last, [])
mouse_report-read code column row last h k l f no_bracket =
    let numbers = numbers_of_three code (column + 1) (row + 1) in
    let general : IsGeneral (60 ∷ numbers) last = record {
      inner_bytes = ((refl, λ e. omega (arith, e)), numbers_of_three-inner code (column + 1) (row + 1));
      short = omega (arith, length-three code (column + 1) (row + 1));
      last_byte = f;
      no_paste = λ e same. let head = same_head 60 50 numbers (48 ∷ 48 ∷ []) same in omega (arith, head);
      no_console = λ e. absurd (no_bracket e);
      no_mouse = λ e none. (cc);
    } in
    ap (λ xs. unit_at (bracket (60 ∷ xs))) (sym (regroup_three (decimal code) (decimal (column + 1)) (decimal (row + 1)) (last ∷ [])))
    ∙ general-read (60 ∷ numbers) last [] general
    ∙ ap (λ (v : EventValue). Some (v, [])) (sequence-mouse numbers last ∙ ap (λ p. mouse_event_of p last) (parameters-three code (column + 1) (row + 1) h k l))

small_code : (code : ℕ) → leb 192 code ≡ false → code < 192
small_code code h = grind (arith, nat_tests)

-- a report by what its code and its last byte say
report-read : (code last column row : ℕ) (r : Report) → report_of code last ≡ r → r.is_great ≡ false → is_in_range 64 126 last ≡ true → last ≢ 91 →
    column + 1 < 65536 → row + 1 < 65536 → unit_at (mouse_report code column row last) ≡ Some (event_of_report r column row, [])
report-read code last column row r is small in_range other h l =
    let not_great : leb 192 code ≡ false = ap (λ (s : Report). s.is_great) is ∙ small in
    let below = small_code code not_great in
    mouse_report-read code column row last (omega arith) h l in_range other
    ∙ ap (λ (v : EventValue). Some (v, [])) (mouse_event-report code column row last not_great h l ∙ ap (λ s. event_of_report s column row) is)

button-read : (k : MouseKind) (column row : ℕ) (ctrl alt shift : Bool) → is_in_range 64 126 (last_of_kind k) ≡ true → last_of_kind k ≢ 91 →
    sent k ctrl alt shift ≡ button_report k ctrl alt shift → column + 1 < 65536 → row + 1 < 65536 →
    unit_at (mouse_report (with_modifiers (code_of_kind k) ctrl alt shift) column row (last_of_kind k))
    ≡ Some (mouse (record { kind = k; column = column; row = row; ctrl = ctrl; alt = alt; shift = shift }), [])
button-read k column row ctrl alt shift in_range other is =
    report-read (with_modifiers (code_of_kind k) ctrl alt shift) (last_of_kind k) column row (button_report k ctrl alt shift) is refl in_range other

wheel-read : (code column row : ℕ) (ctrl alt shift : Bool) → wheel_sent code ctrl alt shift ≡ wheel_report code ctrl alt shift → column + 1 < 65536 → row + 1 < 65536 →
    unit_at (mouse_report (with_modifiers code ctrl alt shift) column row 77) ≡ Some (event_of_report (wheel_report code ctrl alt shift) column row, [])
wheel-read code column row ctrl alt shift is =
    report-read (with_modifiers code ctrl alt shift) 77 column row (wheel_report code ctrl alt shift) is refl refl (λ e. omega (arith, e))

reported-read : (k : MouseKind) → IsReported k → (column row : ℕ) (ctrl alt shift : Bool) → column + 1 < 65536 → row + 1 < 65536 →
    unit_at (mouse_report (with_modifiers (code_of_kind k) ctrl alt shift) column row (last_of_kind k))
    ≡ Some (mouse (record { kind = k; column = column; row = row; ctrl = ctrl; alt = alt; shift = shift }), [])
reported-read _ (press b is) column row ctrl alt shift = button-read (kind.Press b) column row ctrl alt shift refl (λ e. omega (arith, e)) (cc (button-sent b is ctrl alt shift))
reported-read _ (release b is) column row ctrl alt shift = button-read (kind.Release b) column row ctrl alt shift refl (λ e. omega (arith, e)) (cc (button-sent b is ctrl alt shift))
reported-read _ (drag b is) column row ctrl alt shift = button-read (kind.Drag b) column row ctrl alt shift refl (λ e. omega (arith, e)) (cc (button-sent b is ctrl alt shift))
reported-read _ move column row ctrl alt shift = button-read kind.Move column row ctrl alt shift refl (λ e. omega (arith, e)) (move-sent ctrl alt shift)
reported-read _ wheel_left column row ctrl alt shift = wheel-read 66 column row ctrl alt shift (cc (wheel-sent ctrl alt shift))
reported-read _ wheel_right column row ctrl alt shift = wheel-read 67 column row ctrl alt shift (cc (wheel-sent ctrl alt shift))

pub mouse-read : (m : Mouse) → IsReported m.kind → m.column + 1 < 65536 → m.row + 1 < 65536 →
    unit_at (mouse_report (with_modifiers (code_of_kind m.kind) m.ctrl m.alt m.shift) m.column m.row (last_of_kind m.kind)) ≡ Some (mouse m, [])
mouse-read m is h k = reported-read m.kind is m.column m.row m.ctrl m.alt m.shift h k

pub wheel_up-read : (column row : ℕ) (ctrl alt shift : Bool) → column + 1 < 65536 → row + 1 < 65536 →
    unit_at (mouse_report (with_modifiers 64 ctrl alt shift) column row 77) ≡ Some (input (record { key = key.MouseScrollUp; ctrl = ctrl; alt = alt; shift = shift }), [])
wheel_up-read column row ctrl alt shift = wheel-read 64 column row ctrl alt shift (cc (wheel-sent ctrl alt shift))

pub wheel_down-read : (column row : ℕ) (ctrl alt shift : Bool) → column + 1 < 65536 → row + 1 < 65536 →
    unit_at (mouse_report (with_modifiers 65 ctrl alt shift) column row 77) ≡ Some (input (record { key = key.MouseScrollDown; ctrl = ctrl; alt = alt; shift = shift }), [])
wheel_down-read column row ctrl alt shift = wheel-read 65 column row ctrl alt shift (cc (wheel-sent ctrl alt shift))

-- ---- replies to queries

within-clamp : (n : ℕ) → n < 65536 → min 65535 n ≡ n
within-clamp n h = omega arith

size-three : (columns rows : ℕ) → columns < 65536 → rows < 65536 → event_of (three_parameters 8 rows columns) 116 ≡ size columns rows
unfolding event_of event_of_three
size-three columns rows h k = rw (within-clamp columns h, within-clamp rows k) refl

pub size-read : (columns rows : ℕ) → columns < 65536 → rows < 65536 → unit_at (size_report columns rows) ≡ Some (size columns rows, [])
size-read columns rows h k =
    let numbers = numbers_of_three 8 rows columns in
    let general : IsGeneral numbers 116 = record {
      inner_bytes = numbers_of_three-inner 8 rows columns;
      short = omega (arith, length-three 8 rows columns);
      last_byte = refl;
      no_paste = λ e. absurd (omega (arith, e));
      no_console = λ e. absurd (omega (arith, e));
      no_mouse = λ e. absurd (omega (arith, e));
    } in
    ap (λ xs. unit_at (bracket xs)) (sym (regroup_three (decimal 8) (decimal rows) (decimal columns) (116 ∷ [])))
    ∙ general-read numbers 116 [] general
    ∙ ap (λ (v : EventValue). Some (v, []))
    (sequence-other 56 (59 ∷ two_numbers rows columns) 116 (λ e. omega (arith, e)) (λ e. omega (arith, e))
    ∙ ap (λ p. event_of p 116) (parameters-three 8 rows columns (omega arith) k h) ∙ size-three columns rows h k)

cursor-two : (column row : ℕ) → column + 1 < 65536 → row + 1 < 65536 → reply_event_of (two_parameters (row + 1) (column + 1)) 82 ≡ cursor column row
cursor-two column row h k = rw (more-eqb row, more-eqb column, back_one column h, back_one row k) refl

pub cursor-read : (column row : ℕ) → column + 1 < 65536 → row + 1 < 65536 → unit_at (cursor_report column row) ≡ Some (cursor column row, [])
cursor-read column row h k =
    let numbers = two_numbers (row + 1) (column + 1) in
    let general : IsGeneral (63 ∷ numbers) 82 = record {
      inner_bytes = ((refl, λ e. omega (arith, e)), two_numbers-inner (row + 1) (column + 1));
      short = omega (arith, length-two (row + 1) (column + 1));
      last_byte = refl;
      no_paste = λ e. absurd (omega (arith, e));
      no_console = λ e. absurd (omega (arith, e));
      no_mouse = λ e. absurd (omega (arith, e));
    } in
    ap (λ xs. unit_at (bracket (63 ∷ xs))) (sym (regroup_two (decimal (row + 1)) (decimal (column + 1)) (82 ∷ [])))
    ∙ general-read (63 ∷ numbers) 82 [] general
    ∙ ap (λ (v : EventValue). Some (v, []))
    (sequence-reply numbers 82 ∙ ap (λ p. reply_event_of p 82) (parameters-two (row + 1) (column + 1) k h) ∙ cursor-two column row h k)
