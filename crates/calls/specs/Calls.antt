-- Document 01, Calls: "Fresh start; take a byte; tick a port; give the next reply byte; press a key."
-- Assumes nothing.
use Rattle.std.specs.Prelude.{Bool, ℕ, ◌*◌, eqb, replicate}
use Rattle.base.specs.Choice.{choose, or}
use Rattle.console.specs.Group.{fresh_group, pressed_of}
use Rattle.blocks.specs.Opening.{area_length}
use Rattle.wire.specs.Messages.{room_length}
use Rattle.layout.specs.Stick.{Stick, fresh_stick, Lent, lent, port_at, other_at, with_port, with_console}
use Rattle.devices.specs.declared.Group.TheVariants as group
use Rattle.devices.specs.Groups.{held_of, clash}
use Rattle.calls.specs.Port.{tick_port, take_port, give_port}
use Rattle.calls.specs.Stick.{Outcome, outcome, refused, lengths_fit, refusal_of, room_at, with_room, reach_at, with_reach, lent_reach}

-- "areas zero, paper used 0 (its bytes as lent)", the bytes of tape and images as lent too, "screen as after opening E with cells past 960 zero"; the rooms, which are no word of 01,
-- are zero too
abbrev pub fresh_lent : Lent → Lent
fresh_lent l = lent (replicate (2 * room_length) 0) (replicate (2 * area_length) 0) fresh_group.screen l.paper l.tape l.images

-- "fresh start gives 0 or 2 only"
unfoldable pub fresh_call : Stick → Lent → Outcome
fresh_call s l = choose (lengths_fit l) (λ u. outcome 0 0 fresh_stick (fresh_lent l)) (λ u. refused 2 s l)

-- "Order: 2, 3, 1, the rest"
abbrev pub guarded : ℕ → Stick → Lent → (Unit {0} → Outcome) → Outcome
guarded refusal s l call = choose (eqb refusal 0) call (λ u. refused refusal s l)

unfoldable pub take_at : (port : ℕ) → Stick → Lent → (byte : ℕ) → Outcome
take_at port s l byte =
    let t = take_port (port_at port s).phase (port_at port s) (room_at port l) byte in
    outcome t.answer t.byte (with_port port t.port s) (with_room port t.room l)

unfoldable pub take_call : Stick → Lent → (port byte : ℕ) → Outcome
take_call s l port byte = guarded (refusal_of s l port) s l (λ u. take_at port s l byte)

unfoldable pub tick_at : (port : ℕ) → Stick → Lent → Outcome
tick_at port s l =
    let t = tick_port port (port_at port s).phase (held_of (other_at port s).phase) (reach_at port s l) in
    outcome t.answer 0 (with_reach port t.reach s) (lent_reach port t.reach l)

unfoldable pub tick_call : Stick → Lent → (port : ℕ) → Outcome
tick_call s l port = guarded (refusal_of s l port) s l (λ u. tick_at port s l)

unfoldable pub give_at : (port : ℕ) → Stick → Lent → Outcome
give_at port s l =
    let g = give_port (port_at port s).phase (port_at port s) (room_at port l) in
    outcome g.answer g.byte (with_port port g.port s) l

unfoldable pub give_call : Stick → Lent → (port : ℕ) → Outcome
give_call s l port = guarded (refusal_of s l port) s l (λ u. give_at port s l)

abbrev pub console_held : Stick → Bool
console_held s = or (clash group.Console (held_of s.port0.phase)) (clash group.Console (held_of s.port1.phase))

abbrev pub with_key : ℕ → Stick → Stick
with_key code s = with_console (pressed_of code s.devices.console) s

-- "6 key pressed while a request holds the console"
unfoldable pub press_at : Stick → Lent → (code : ℕ) → Outcome
press_at s l code = choose (console_held s) (λ u. refused 6 s l) (λ u. outcome 0 0 (with_key code s) l)

unfoldable pub press_call : Stick → Lent → (code : ℕ) → Outcome
press_call s l code = guarded (refusal_of s l 0) s l (λ u. press_at s l code)
