-- Wrong cores of document 01's own machine, code and promise wrong alike: of each, the statement that document 01 names for it is
-- false, by a computed run from a fresh start. The cores are those of `serial`, its own core with one call done otherwise, and two
-- that only this machine can have.
-- Assumes nothing.
use mathlib.Core.Path.{◌≡◌, refl, sym, ◌∙◌, ap, subst}
use mathlib.Core.Bool.{false, true≢false}
use mathlib.Core.List.{List, [], ◌∷◌, ◌++◌}
use Prim.Native.Nat.{ℕ, zero, suc, ◌+◌}
use native.Mathlib.Omega.{arith}
use lib.ListN.{length, get_or, replicate}
use Rattle.keys.specs.Table as keys
use Rattle.keys.specs.Translation as keys_to
use Rattle.keys.specs.Keyboard as keyboard
use Rattle.cells.specs.Modes.{modes, row_of, shape_of, count_of}
use Rattle.cells.specs.Cells.{cell_of, with_cell, filled, reduced, scrolled}
use Rattle.controls.specs.Decide as controls_acts
use Rattle.editor.specs.Text as editor
use Rattle.controls.specs.Put as controls
use Rattle.editor.specs.Get as editor_get
use Rattle.printer.specs.Printer as printer
use Rattle.console.specs.Handlers.{open_e, open_of, prepare_e, prepare_of, read_e, read_k, read_of, write_e, write_of}
use Rattle.blocks.specs.declared.Device.TheVariants.{P}
use Rattle.blocks.specs.declared.Kind.TheVariants.{Put}
use Rattle.blocks.specs.declared.Run.{Run}
use Rattle.blocks.specs.declared.Way.TheVariants.{Characters}
use Rattle.blocks.specs.Opening.{device_of, number_of, named_of, specification_of, offers_of}
use Rattle.wire.specs.Messages.{good_field, sense_of, bad_status, message_of}
use Rattle.replies.specs.Replies.{bytes_at, fetch_status, fetch_reply, call_reply}
use Rattle.transfer.specs.Transfer.{onward_of, record_of, got_character, got_of, sent_byte, sent_record, sent_next, sent_of}
use Rattle.devices.specs.declared.Group.{Group}
use Rattle.devices.specs.declared.Group.TheVariants as groups
use Rattle.commands.specs.Commands.{command_of, way_of}
use Rattle.plan.specs.Plan.{name_of, named_for, area_plan, transfer_plan, block_plan, call_plan, plan_in, plan_of}
use Rattle.moves.specs.Move as moves
use Rattle.cio.specs.Start.{loaded_of, load_status, then_of, opened_of, opening_of, transfer_of, work_of}
use Rattle.alone.specs.Transfer.{get_one, put_one, get_characters, drop_line, get_record, put_characters, put_record, getting, putting, transferred}
use Rattle.alone.specs.Left.{left_e, left_k, console_left}
use Rattle.alone.specs.Alone.{Said, call, load, fetch, alone_opening, alone_transfer, alone_work, loaded, alone_errand, alone_plan, alone_of}
use Rattle.alone.specs.Moves.{most_moves}
use Rattle.alone.specs.Alone as request
use Rattle.serial.specs.Machine.{PortName, port-0, port-1, ReplyBytes}
use Rattle.serial.specs.Core.{Phase, gathering, ready, running, replying, Runs, View, phase_at, local_at, CoreCall, take, tick, give, press, done, number, Effect, Core}
use Rattle.serial.specs.Calls.{start_if, tick_act, on_port, call_of}
use Rattle.serial.specs.Run.{OkCalls, no_call, one_more_case, after}
use Rattle.serial.specs.Reading.{Spelled}
use Rattle.serial.specs.Demand1.{Demand1}
use Rattle.serial.specs.Demand2.{WaitingRule, OneCharacter, Along, Bound, AloneRule, ticks, ticked}
use Rattle.serial.specs.Demand3.{Whole, serial, SerialRule, requests_of, TakenRule, GivenRule, bytes_of_all, Demand3}
use Rattle.serial.proofs.WrongCores.{Calls, with_call, replied, at_running, when_ticked, when_ready, when_running, idles, presses_through, never_starts, pretends, one_lock, moves_nothing, all_at_once, first_only, one_buffer, crossed, wrong_host}
use Rattle.serial.proofs.NeverStarting.{never_starting_serial, pretending_serial}
use Rattle.machine.specs.Spells.{SoFar, nothing_yet, feed, fed_of, GatheredSoFar, none_taken, tag_taken, low_taken, value_taken}
use Rattle.machine.specs.Real.{reply_by, need_by, errand_step, plan_step, move_by, real}
use Rattle.machine.proofs.Lawful.{lawful}
use Rattle.machine.proofs.Plugged.{first, led, begun, ok_by, leads, says, does, loads, calls, opens}

-- what is seen: a status and a count's low byte in a CALL's reply, and the characters on the paper
abbrev pub byte_in : ℕ → Phase real → ℕ
byte_in n (gathering x) = 0
byte_in n (ready m) = 0
byte_in n (running g k) = 0
byte_in n (replying r) = get_or r.rest n 0

abbrev status : View real → ℕ
status v = byte_in 2 (phase_at real port-0 v)

abbrev count : View real → ℕ
count v = byte_in 3 (phase_at real port-0 v)

abbrev pub printed : View real → ℕ
printed v = v.devs.printer.used

-- a port whose tick leaves all as it is stays so
pub stays : (C : Core real) (p : PortName) (w : C.World) → (C.call (tick p) w).world ≡ w → (n : ℕ) → ticked real C n p w ≡ w
unfolding ticked
stays C p w e zero = refl
stays C p w e (suc n) = ap (ticked real C n p) e ∙ stays C p w e n

-- so does a port that replies, where a core does another thing only with others
quiet_tick : (v : View real) (r : ReplyBytes ℕ) → phase_at real port-0 v ≡ replying r → (call_of real (tick port-0) v).world ≡ v
quiet_tick v r e =
    ap (λ (x : Phase real). (on_port real port-0 (tick_act real x (local_at real port-0 v) (phase_at real port-1 v) v.devs) v).world) e
    ∙ ap (λ (x : Phase real). record { ports = record { zeroth = record { local = local_at real port-0 v; phase = x }; first = v.ports.first }; devs = v.devs }) (sym e)

module _ (f : Phase real → PortName → View real → Effect real (View real)) (same : (r : ReplyBytes ℕ) (v : View real) → f (replying r) port-0 v ≡ call_of real (tick port-0) v) where
  abbrev pub by_phase : Core real
  by_phase = with_call real (when_ticked real (λ p v. f (phase_at real p v) p v))

  pub replied_stays : (v : View real) (r : ReplyBytes ℕ) → phase_at real port-0 v ≡ replying r → (n : ℕ) → ticked real by_phase n port-0 v ≡ v
  replied_stays v r e n =
      stays by_phase port-0 v (ap (λ (x : Phase real). (f x port-0 v).world) e ∙ ap (λ (y : Effect real (View real)). y.world) (same r v) ∙ quiet_tick v r e) n

-- "Never starting a request: demand 2's waiting rule"
abbrev pub asks_load : List (CoreCall real)
asks_load = says port-0 (0x11 ∷ 5 ∷ 0 ∷ 0 ∷ 0 ∷ 0x45 ∷ 0x3A ∷ 0x9B ∷ [])

abbrev pub load_e : Said
load_e = load 0 (0x45 ∷ 0x3A ∷ 0x9B ∷ [])

pub never_starting_wrong : WaitingRule real (with_call real (never_starts real)) → ⊥
unfolding after feed fed_of good_field sense_of bad_status message_of errand_step plan_step move_by keys.keys keys_to.entry_of keys_to.key_answer keys_to.translate_of keyboard.obeyed keyboard.struck_by keyboard.get_of printer.put_of open_e open_of prepare_e prepare_of read_e read_k read_of write_e write_of device_of number_of named_of specification_of offers_of bytes_at fetch_status fetch_reply moves.get_of moves.put_of moves.go_of moves.advance_of command_of way_of area_plan transfer_plan block_plan name_of named_for call_plan plan_in plan_of loaded_of load_status then_of opened_of opening_of transfer_of work_of onward_of record_of got_character got_of sent_byte sent_record sent_next sent_of loaded
never_starting_wrong w = (w.waits (led (never_starts real) asks_load) (leads (never_starts real) asks_load tt) port-0 load_e refl).0 refl

pub pretending_wrong : WaitingRule real (with_call real (pretends real)) → ⊥
unfolding after feed fed_of good_field sense_of bad_status message_of errand_step plan_step move_by keys.keys keys_to.entry_of keys_to.key_answer keys_to.translate_of keyboard.obeyed keyboard.struck_by keyboard.get_of printer.put_of open_e open_of prepare_e prepare_of read_e read_k read_of write_e write_of device_of number_of named_of specification_of offers_of bytes_at fetch_status fetch_reply moves.get_of moves.put_of moves.go_of moves.advance_of command_of way_of area_plan transfer_plan block_plan name_of named_for call_plan plan_in plan_of loaded_of load_status then_of opened_of opening_of transfer_of work_of onward_of record_of got_character got_of sent_byte sent_record sent_next sent_of loaded
pretending_wrong w = (w.starts (led (pretends real) asks_load) (leads (pretends real) asks_load tt) port-0 load_e refl (λ h. h)).1

-- "though demand 3 is met"
pub never_starting_met : Demand3 real (with_call real (never_starts real))
never_starting_met = never_starting_serial real lawful

pub pretending_met : Demand3 real (with_call real (pretends real))
pretending_met = pretending_serial real lawful

-- "One lock over both groups: the same": port 1 is to open E, and port 0 prints
abbrev pub opens_e : Said
opens_e = call (record { iocb = 0; command = 0x03; address = 0; length = 0; aux1 = 0x0D; aux2 = 0; a = 0 })

abbrev prints_two : List ℕ
prints_two = calls 0 0x0B 0 2 0

abbrev both_busy : List (CoreCall real)
both_busy = loads port-1 4 (0x45 ∷ 0x3A ∷ []) ++ says port-1 (calls 0 0x03 0 0 0x0D) ++ opens port-0 0x50 0 8 ++ does port-0 prints_two 1 0

pub one_lock_wrong : WaitingRule real (with_call real (one_lock real)) → ⊥
unfolding after feed fed_of good_field sense_of bad_status message_of errand_step plan_step move_by keys.keys keys_to.entry_of keys_to.key_answer keys_to.translate_of keyboard.obeyed keyboard.struck_by keyboard.get_of printer.put_of open_e open_of prepare_e prepare_of read_e read_k read_of write_e write_of device_of number_of named_of specification_of offers_of bytes_at fetch_status fetch_reply moves.get_of moves.put_of moves.go_of moves.advance_of command_of way_of area_plan transfer_plan block_plan name_of named_for call_plan plan_in plan_of loaded_of load_status then_of opened_of opening_of transfer_of work_of onward_of record_of got_character got_of sent_byte sent_record sent_next sent_of loaded
one_lock_wrong w = true≢false (sym ((w.waits (led (one_lock real) both_busy) (leads (one_lock real) both_busy tt) port-1 opens_e refl).0 refl))

-- "Always refusing, or always status 1: demand 2 and cases 2, 3": every CALL is answered so
abbrev pub answers_at : ℕ → Phase real → PortName → View real → Effect real (View real)
answers_at s (gathering x) p v = call_of real (tick p) v
answers_at s (ready (call c)) p v = record { world = replied real p (reply_by (call_reply s 0 c.a)) v; answer = done }
answers_at s (ready (load address bytes)) p v = call_of real (tick p) v
answers_at s (ready (fetch address count)) p v = call_of real (tick p) v
answers_at s (ready (request.bad status)) p v = call_of real (tick p) v
answers_at s (running g k) p v = call_of real (tick p) v
answers_at s (replying r) p v = call_of real (tick p) v

abbrev pub always_status : ℕ → Calls real
always_status s = when_ticked real (λ p v. answers_at s (phase_at real p v) p v)

abbrev pub case_2 : List (CoreCall real)
case_2 = loads port-0 5 (0x45 ∷ 0x3A ∷ 0x9B ∷ []) ++ says port-0 (calls 0 0x03 0 0 0x0D)

pub always_refusing_wrong : AloneRule real (with_call real (always_status 0x84)) → ⊥
unfolding after feed fed_of good_field sense_of bad_status message_of errand_step plan_step move_by keys.keys keys_to.entry_of keys_to.key_answer keys_to.translate_of keyboard.obeyed keyboard.struck_by keyboard.get_of printer.put_of open_e open_of prepare_e prepare_of read_e read_k read_of write_e write_of device_of number_of named_of specification_of offers_of bytes_at fetch_status fetch_reply moves.get_of moves.put_of moves.go_of moves.advance_of command_of way_of area_plan transfer_plan block_plan name_of named_for call_plan plan_in plan_of loaded_of load_status then_of opened_of opening_of transfer_of work_of onward_of record_of got_character got_of sent_byte sent_record sent_next sent_of loaded ticked alone_of alone_plan alone_errand alone_work alone_transfer alone_opening transferred getting putting get_one put_one get_characters put_characters get_record put_record drop_line
always_refusing_wrong a =
    let f = always_status 0x84 in
    let w = led f case_2 in
    let e = sym (stays (with_call real f) port-0 (f (tick port-0) w).world refl most_moves) ∙ a w (leads f case_2 tt) port-0 opens_e refl (λ h. h) in
    let z : ◌≡◌ {A = ℕ} 0x84 0x01 = ap status e in omega arith

abbrev pub case_3 : List (CoreCall real)
case_3 = says port-0 (calls 8 0x0C 0 0 0)

abbrev pub closes_eight : Said
closes_eight = call (record { iocb = 8; command = 0x0C; address = 0; length = 0; aux1 = 0; aux2 = 0; a = 0 })

pub always_one_wrong : AloneRule real (with_call real (always_status 0x01)) → ⊥
unfolding after feed fed_of good_field sense_of bad_status message_of errand_step plan_step move_by keys.keys keys_to.entry_of keys_to.key_answer keys_to.translate_of keyboard.obeyed keyboard.struck_by keyboard.get_of printer.put_of open_e open_of prepare_e prepare_of read_e read_k read_of write_e write_of device_of number_of named_of specification_of offers_of bytes_at fetch_status fetch_reply moves.get_of moves.put_of moves.go_of moves.advance_of command_of way_of area_plan transfer_plan block_plan name_of named_for call_plan plan_in plan_of loaded_of load_status then_of opened_of opening_of transfer_of work_of onward_of record_of got_character got_of sent_byte sent_record sent_next sent_of loaded ticked alone_of alone_plan alone_errand alone_work alone_transfer alone_opening transferred getting putting get_one put_one get_characters put_characters get_record put_record drop_line
always_one_wrong a =
    let f = always_status 0x01 in
    let w = led f case_3 in
    let e = sym (stays (with_call real f) port-0 (f (tick port-0) w).world refl most_moves) ∙ a w (leads f case_3 tt) port-0 closes_eight refl (λ h. h) in
    let z : ◌≡◌ {A = ℕ} 0x01 0x86 = ap status e in omega arith

-- "Doing the first character and claiming the rest: areas, screen and paper of demand 2": of two characters one is printed
abbrev pub asks_print : List (CoreCall real)
asks_print = opens port-0 0x50 0 8 ++ says port-0 prints_two

abbrev pub print_two : Said
print_two = call (record { iocb = 0; command = 0x0B; address = 0; length = 2; aux1 = 0; aux2 = 0; a = 0 })

abbrev claimed : PortName → View real → Effect real (View real)
claimed p v = record { world = replied real p (reply_by (call_reply 0x01 2 0)) (call_of real (tick p) v).world; answer = done }

abbrev pub claims : Calls real
claims = first_only real (reply_by (call_reply 0x01 2 0))

pub first_only_wrong : AloneRule real (with_call real claims) → ⊥
unfolding after feed fed_of good_field sense_of bad_status message_of errand_step plan_step move_by keys.keys keys_to.entry_of keys_to.key_answer keys_to.translate_of keyboard.obeyed keyboard.struck_by keyboard.get_of printer.put_of open_e open_of prepare_e prepare_of read_e read_k read_of write_e write_of device_of number_of named_of specification_of offers_of bytes_at fetch_status fetch_reply moves.get_of moves.put_of moves.go_of moves.advance_of command_of way_of area_plan transfer_plan block_plan name_of named_for call_plan plan_in plan_of loaded_of load_status then_of opened_of opening_of transfer_of work_of onward_of record_of got_character got_of sent_byte sent_record sent_next sent_of loaded ticked alone_of alone_plan alone_errand alone_work alone_transfer alone_opening transferred getting putting get_one put_one get_characters put_characters get_record put_record drop_line
first_only_wrong a =
    let w = led claims asks_print in
    let s = (claims (tick port-0) (claims (tick port-0) w).world).world in
    let q = replied_stays (λ x p v. at_running real x claimed p v) (λ r v. refl) s (reply_by (call_reply 0x01 2 0)) refl 89875 in
    let e = sym q ∙ a w (leads claims asks_print tt) port-0 print_two refl (λ h. h) in
    let z : ◌≡◌ {A = ℕ} 1 2 = ap printed e in omega arith

-- "Moving all in the start tick: one character a tick"
pub all_at_once_wrong : OneCharacter real (with_call real (all_at_once real 3)) → ⊥
unfolding after feed fed_of good_field sense_of bad_status message_of errand_step plan_step move_by keys.keys keys_to.entry_of keys_to.key_answer keys_to.translate_of keyboard.obeyed keyboard.struck_by keyboard.get_of printer.put_of open_e open_of prepare_e prepare_of read_e read_k read_of write_e write_of device_of number_of named_of specification_of offers_of bytes_at fetch_status fetch_reply moves.get_of moves.put_of moves.go_of moves.advance_of command_of way_of area_plan transfer_plan block_plan name_of named_for call_plan plan_in plan_of loaded_of load_status then_of opened_of opening_of transfer_of work_of onward_of record_of got_character got_of sent_byte sent_record sent_next sent_of loaded ticked
all_at_once_wrong o =
    let f = all_at_once real 3 in
    let e = o.start_tick (led f asks_print) (leads f asks_print tt) port-0 print_two refl (λ h. h) in
    let z : ◌≡◌ {A = ℕ} 2 0 = ap printed e in omega arith

-- a tick that moves nothing and answers 0
abbrev pub prints : List (CoreCall real)
prints = opens port-0 0x50 0 8 ++ does port-0 prints_two 1 0

abbrev pub printing : Run
printing = record { kind = Put Characters; device = P; iocb = 0; left = 2; place = 0; count = 0; a = 0 }

pub moving_nothing_wrong : OneCharacter real (with_call real (moves_nothing real)) → ⊥
unfolding after feed fed_of good_field sense_of bad_status message_of errand_step plan_step move_by keys.keys keys_to.entry_of keys_to.key_answer keys_to.translate_of keyboard.obeyed keyboard.struck_by keyboard.get_of printer.put_of open_e open_of prepare_e prepare_of read_e read_k read_of write_e write_of device_of number_of named_of specification_of offers_of bytes_at fetch_status fetch_reply moves.get_of moves.put_of moves.go_of moves.advance_of command_of way_of area_plan transfer_plan block_plan name_of named_for call_plan plan_in plan_of loaded_of load_status then_of opened_of opening_of transfer_of work_of onward_of record_of got_character got_of sent_byte sent_record sent_next sent_of loaded
moving_nothing_wrong o =
    let f = moves_nothing real in
    let e = (o.move_tick (led f prints) (leads f prints tt) port-0 groups.Printer printing refl).1 in
    let z : ◌≡◌ {A = ℕ} 0 1 = ap printed e in omega arith

-- "A made-up count: case 7": one more than there were
abbrev one_more : Phase real → PortName → Effect real (View real) → Effect real (View real)
one_more (gathering x) p e = e
one_more (ready m) p e = e
one_more (running g k) p e = e
one_more (replying r) p e = record { world = replied real p (reply_by (call_reply (get_or r.rest 2 0) (get_or r.rest 3 0 + 1) (get_or r.rest 5 0))) e.world; answer = e.answer }

abbrev counts_up : PortName → View real → Effect real (View real)
counts_up p v = let e = call_of real (tick p) v in one_more (phase_at real p e.world) p e

abbrev made_up : Calls real
made_up = when_running real counts_up

-- cases 2, 6 and 7: E is opened, "AB" is put as a record, $1C is put, and the record is asked for
abbrev case_7 : List (CoreCall real)
case_7 =
    opens port-0 0x45 0 0x0D ++ loads port-0 5 (0x41 ∷ 0x42 ∷ 0x1C ∷ [])
    ++ does port-0 (calls 0 0x09 0 2 0) 4 7 ++ does port-0 (calls 0 0x0B 2 1 0) 2 7 ++ says port-0 (calls 0 0x05 32 10 0)

abbrev record_back : Said
record_back = call (record { iocb = 0; command = 0x05; address = 32; length = 10; aux1 = 0; aux2 = 0; a = 0 })

pub made_up_wrong : AloneRule real (with_call real made_up) → ⊥
unfolding after feed fed_of good_field sense_of bad_status message_of errand_step plan_step move_by keys.keys keys_to.entry_of keys_to.key_answer keys_to.translate_of keyboard.obeyed keyboard.struck_by keyboard.get_of printer.put_of open_e open_of prepare_e prepare_of read_e read_k read_of write_e write_of device_of number_of named_of specification_of offers_of bytes_at fetch_status fetch_reply moves.get_of moves.put_of moves.go_of moves.advance_of command_of way_of area_plan transfer_plan block_plan name_of named_for call_plan plan_in plan_of loaded_of load_status then_of opened_of opening_of transfer_of work_of onward_of record_of got_character got_of sent_byte sent_record sent_next sent_of loaded ticked alone_of alone_plan alone_errand alone_work alone_transfer alone_opening transferred getting putting get_one put_one get_characters put_characters get_record put_record drop_line modes row_of shape_of count_of cell_of with_cell filled reduced scrolled controls_acts.plain_of controls_acts.act_of editor.new_row editor.open_of controls.less_of controls.more_of controls.clear_of controls.back_of controls.onward controls.data_of controls.doing controls.put_of editor_get.cells_held editor_get.end_of editor_get.get_at editor_get.get_of left_e left_k console_left
made_up_wrong a =
    let w = led made_up case_7 in
    let s = ticked real (with_call real made_up) 4 port-0 w in
    let q = replied_stays (λ x p v. at_running real x counts_up p v) (λ r v. refl) s (reply_by (call_reply 0x01 4 0)) refl 89873 in
    let e = sym q ∙ a w (leads made_up case_7 tt) port-0 record_back refl (λ h. h) in
    let z : ◌≡◌ {A = ℕ} 4 3 = ap count e in omega arith

-- "Mixing two ports' bytes on the way in or out: the last sentence of demand 3"
nothing_gathered : (bs : List ℕ) (x : SoFar) → x.numbers.taken ≡ 0 → GatheredSoFar bs x → bs ≡ []
nothing_gathered bs x z (none_taken e q) = e
nothing_gathered bs x z (tag_taken tag e q) = let y : ◌≡◌ {A = ℕ} 1 0 = sym (ap (λ (g : SoFar). g.numbers.taken) q) ∙ z in absurd (omega (arith, y))
nothing_gathered bs x z (low_taken tag low a e q) = let y : ◌≡◌ {A = ℕ} 2 0 = sym (ap (λ (g : SoFar). g.numbers.taken) q) ∙ z in absurd (omega (arith, y))
nothing_gathered bs x z (value_taken tag low high value a b e l q) = let y : 3 + length value ≡ 0 = sym (ap (λ (g : SoFar). g.numbers.taken) q) ∙ z in absurd (omega (arith, y))

pub mixed_in_wrong : TakenRule real (with_call real (one_buffer real)) → ⊥
unfolding after requests_of Spelled feed good_field
mixed_in_wrong r =
    let cs : List (CoreCall real) = take port-1 0x11 ∷ [] in
    let t = r first (begun (one_buffer real)) cs (ok_by cs tt) port-1 in
    let e : ◌≡◌ {A = List ℕ} (0x11 ∷ []) [] = t.all ∙ ap (λ (z : List ℕ). z ++ t.behind) t.spelled ∙ nothing_gathered t.behind nothing_yet refl t.still in
    let z : ◌≡◌ {A = ℕ} 1 0 = ap length e in omega arith

-- port 0's LOAD is done, and port 1 is asked for a byte
abbrev given_across : List (CoreCall real)
given_across = asks_load ++ (tick port-0 ∷ give port-1 ∷ [])

pub mixed_out_wrong : GivenRule real (with_call real (crossed real)) → ⊥
unfolding after feed fed_of good_field sense_of bad_status message_of errand_step plan_step move_by keys.keys keys_to.entry_of keys_to.key_answer keys_to.translate_of keyboard.obeyed keyboard.struck_by keyboard.get_of printer.put_of open_e open_of prepare_e prepare_of read_e read_k read_of write_e write_of device_of number_of named_of specification_of offers_of bytes_at fetch_status fetch_reply moves.get_of moves.put_of moves.go_of moves.advance_of command_of way_of area_plan transfer_plan block_plan name_of named_for call_plan plan_in plan_of loaded_of load_status then_of opened_of opening_of transfer_of work_of onward_of record_of got_character got_of sent_byte sent_record sent_next sent_of loaded bytes_of_all
mixed_out_wrong r =
    let e : ◌≡◌ {A = List ℕ} (0x91 ∷ []) [] = r first (begun (crossed real)) given_across (ok_by given_across tt) port-1 in
    let z : ◌≡◌ {A = ℕ} 1 0 = ap length e in omega arith

-- "Choosing the reply port when the request ends"
pub wrong_host_wrong : GivenRule real (with_call real (wrong_host real)) → ⊥
unfolding after feed fed_of good_field sense_of bad_status message_of errand_step plan_step move_by keys.keys keys_to.entry_of keys_to.key_answer keys_to.translate_of keyboard.obeyed keyboard.struck_by keyboard.get_of printer.put_of open_e open_of prepare_e prepare_of read_e read_k read_of write_e write_of device_of number_of named_of specification_of offers_of bytes_at fetch_status fetch_reply moves.get_of moves.put_of moves.go_of moves.advance_of command_of way_of area_plan transfer_plan block_plan name_of named_for call_plan plan_in plan_of loaded_of load_status then_of opened_of opening_of transfer_of work_of onward_of record_of got_character got_of sent_byte sent_record sent_next sent_of loaded bytes_of_all
wrong_host_wrong r =
    let e : ◌≡◌ {A = List ℕ} (0x91 ∷ 1 ∷ 0 ∷ 1 ∷ []) [] = r first (begun (wrong_host real)) given_across (ok_by given_across tt) port-1 in
    let z : ◌≡◌ {A = ℕ} 4 0 = ap length e in omega arith

-- "an idle core earns nothing"
pub idling_wrong : Demand1 real (with_call real (idles real)) → ⊥
unfolding after
idling_wrong d =
    let e = d.takes first (leads (idles real) [] tt) port-0 0 (omega arith) in
    let z : ◌≡◌ {A = ℕ} 4 0 = ap (number real) e in omega arith

-- "Freeing a group before its last character": a ready port starts while the other still holds the group it needs
abbrev starts_at : Phase real → PortName → View real → Effect real (View real)
starts_at (gathering x) p v = call_of real (tick p) v
starts_at (ready m) p v =
    let l = local_at real p v in
    let g = need_by l m in
    on_port real p (start_if real false g m l v.devs) v
starts_at (running g k) p v = call_of real (tick p) v
starts_at (replying r) p v = call_of real (tick p) v

abbrev never_waits : Calls real
never_waits = when_ready real (λ p v. starts_at (phase_at real p v) p v)

abbrev both_print : List (CoreCall real)
both_print = opens port-0 0x50 0 8 ++ opens port-1 0x50 0 8 ++ does port-0 prints_two 1 0 ++ says port-1 prints_two

pub never_waiting_wrong : WaitingRule real (with_call real never_waits) → ⊥
unfolding after feed fed_of good_field sense_of bad_status message_of errand_step plan_step move_by keys.keys keys_to.entry_of keys_to.key_answer keys_to.translate_of keyboard.obeyed keyboard.struck_by keyboard.get_of printer.put_of open_e open_of prepare_e prepare_of read_e read_k read_of write_e write_of device_of number_of named_of specification_of offers_of bytes_at fetch_status fetch_reply moves.get_of moves.put_of moves.go_of moves.advance_of command_of way_of area_plan transfer_plan block_plan name_of named_for call_plan plan_in plan_of loaded_of load_status then_of opened_of opening_of transfer_of work_of onward_of record_of got_character got_of sent_byte sent_record sent_next sent_of loaded
never_waiting_wrong w =
    let e = (w.waits (led never_waits both_print) (leads never_waits both_print tt) port-1 print_two refl).1 refl in
    let z : ◌≡◌ {A = ℕ} 0 8 = ap (number real) e in omega arith

-- a key that is taken while a request holds the console: the serial run
abbrev reads_late : List (CoreCall real)
reads_late = opens port-0 0x4B 0 4 ++ does port-0 (calls 0 0x07 0 0 0) 1 0 ++ (press 0x3F ∷ tick port-0 ∷ [])

abbrev statuses : List (ReplyBytes ℕ) → ℕ
statuses [] = 0
statuses (r ∷ []) = get_or r.rest 2 0
statuses (r ∷ q ∷ rs) = statuses (q ∷ rs)

pub pressing_through_wrong : SerialRule real (with_call real (presses_through real)) → ⊥
unfolding after feed fed_of good_field sense_of bad_status message_of errand_step plan_step move_by keys.keys keys_to.entry_of keys_to.key_answer keys_to.translate_of keyboard.obeyed keyboard.struck_by keyboard.get_of printer.put_of open_e open_of prepare_e prepare_of read_e read_k read_of write_e write_of device_of number_of named_of specification_of offers_of bytes_at fetch_status fetch_reply moves.get_of moves.put_of moves.go_of moves.advance_of command_of way_of area_plan transfer_plan block_plan name_of named_for call_plan plan_in plan_of loaded_of load_status then_of opened_of opening_of transfer_of work_of onward_of record_of got_character got_of sent_byte sent_record sent_next sent_of loaded serial alone_of alone_plan alone_errand alone_work alone_transfer alone_opening transferred getting putting get_one put_one get_characters put_characters get_record put_record drop_line
pressing_through_wrong r =
    let e = r first (begun (presses_through real)) reads_late (ok_by reads_late tt) (tt, tt) in
    let z : ◌≡◌ {A = ℕ} 0x01 0x88 = ap (λ (y : Whole real). statuses y.made.zeroth) e in omega arith

-- a tick that moves nothing: the bound
along_still : (v : View real) → Runs real (phase_at real port-0 v) → (moves_nothing real (tick port-0) v).world ≡ v → (n : ℕ) → Along real (with_call real (moves_nothing real)) port-0 (replicate n (tick port-0)) v
along_still v r e zero = r
along_still v r e (suc n) = (r, subst (λ (u : View real). Along real (with_call real (moves_nothing real)) port-0 (replicate n (tick port-0)) u) (sym e) (along_still v r e n))

pub so_many : (n : ℕ) → ticks real port-0 (replicate n (tick port-0)) ≡ n
unfolding ticks
so_many zero = refl
so_many (suc n) = ap suc (so_many n)

pub ok_ticks : (n : ℕ) → OkCalls real (replicate n (tick port-0))
ok_ticks zero = no_call
ok_ticks (suc n) = one_more_case tt (ok_ticks n)

pub runs_still : (v : View real) (g : Group) (k : Run) → phase_at real port-0 v ≡ running g k → (moves_nothing real (tick port-0) v).world ≡ v
runs_still v g k e = ap (λ (x : Phase real). (at_running real x (λ p u. record { world = u; answer = done }) port-0 v).world) e

running_still : (v : View real) (g : Group) (k : Run) → phase_at real port-0 v ≡ running g k → Runs real (phase_at real port-0 v)
running_still v g k e = subst (Runs real) (sym e) tt

pub never_ending_wrong : Bound real (with_call real (moves_nothing real)) → ⊥
unfolding after feed fed_of good_field sense_of bad_status message_of errand_step plan_step move_by keys.keys keys_to.entry_of keys_to.key_answer keys_to.translate_of keyboard.obeyed keyboard.struck_by keyboard.get_of printer.put_of open_e open_of prepare_e prepare_of read_e read_k read_of write_e write_of device_of number_of named_of specification_of offers_of bytes_at fetch_status fetch_reply moves.get_of moves.put_of moves.go_of moves.advance_of command_of way_of area_plan transfer_plan block_plan name_of named_for call_plan plan_in plan_of loaded_of load_status then_of opened_of opening_of transfer_of work_of onward_of record_of got_character got_of sent_byte sent_record sent_next sent_of loaded
never_ending_wrong b =
    let f = moves_nothing real in
    let w = led f prints in
    let e : phase_at real port-0 w ≡ running groups.Printer printing = refl in
    let cs : List (CoreCall real) = replicate most_moves (tick port-0) in
    let z = b w (leads f prints tt) port-0 cs (ok_ticks most_moves) (along_still w (running_still w groups.Printer printing e) (runs_still w groups.Printer printing e) most_moves) in
    let y = so_many most_moves in omega (arith, y)
