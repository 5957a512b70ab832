-- Wrong cores of document 01's machine once more, for the statements that `Cores` leaves out: each status of a CALL, the read
-- bytes, the course, later ticks, the end, and runs that are not finished.
-- Assumes nothing.
use mathlib.Core.Path.{◌≡◌, refl, sym, ◌∙◌, ap, subst}
use mathlib.Core.Logic.{inl, inr}
use mathlib.Core.List.{List, [], ◌∷◌, ◌++◌}
use Prim.Native.Nat.{ℕ, zero, suc, ◌≤◌}
use native.Mathlib.Omega.{arith}
use lib.ListN.{length, get_or, replicate}
use Rattle.keys.specs.Table as keys
use Rattle.keys.specs.Translation as keys_to
use Rattle.keys.specs.Keyboard as keyboard
use Rattle.printer.specs.Printer as printer
use Rattle.console.specs.Handlers.{open_e, open_of, prepare_e, prepare_of, read_e, read_k, read_of, write_e, write_of}
use Rattle.blocks.specs.declared.Run.{Run}
use Rattle.blocks.specs.Opening.{device_of, number_of, named_of, specification_of, offers_of}
use Rattle.wire.specs.Messages.{good_field, sense_of, bad_status, message_of}
use Rattle.replies.specs.Replies.{bytes_at, fetch_status, fetch_reply}
use Rattle.transfer.specs.Transfer.{onward_of, record_of, got_character, got_of, sent_byte, sent_record, sent_next, sent_of}
use Rattle.devices.specs.declared.Group.{Group}
use Rattle.devices.specs.declared.Group.TheVariants as groups
use Rattle.commands.specs.Commands.{command_of, way_of}
use Rattle.plan.specs.Plan.{name_of, named_for, area_plan, transfer_plan, block_plan, call_plan, plan_in, plan_of}
use Rattle.moves.specs.Move as moves
use Rattle.cio.specs.Start.{loaded_of, load_status, then_of, opened_of, opening_of, transfer_of, work_of}
use Rattle.alone.specs.Transfer.{get_one, put_one, get_characters, drop_line, get_record, put_characters, put_record, getting, putting, transferred}
use Rattle.alone.specs.Alone.{Said, call, alone_opening, alone_transfer, alone_work, loaded, alone_errand, alone_plan, alone_of}
use Rattle.alone.specs.Moves.{most_moves}
use Rattle.serial.specs.Machine.{port-0, port-1, finish_out}
use Rattle.serial.specs.Core.{Phase, gathering, ready, running, replying, Quiet, View, phase_at, CoreCall, tick}
use Rattle.serial.specs.Run.{after}
use Rattle.serial.specs.Reading.{Spelled, Reads}
use Rattle.serial.specs.Demand2.{LaterRule, Stops, EndRule, ticked}
use Rattle.serial.specs.Demand3.{Whole, serial, requests_of, ReadRule, UnfinishedRule}
use Rattle.serial.proofs.WrongCores.{with_call, moves_nothing, all_at_once, one_buffer}
use Rattle.machine.specs.Spells.{Spells, feed, fed_of}
use Rattle.machine.specs.Statuses.{StatusRule}
use Rattle.machine.specs.Course.{CourseRule}
use Rattle.machine.specs.Real.{errand_step, plan_step, move_by, real}
use Rattle.machine.proofs.Plugged.{first, led, begun, ok_by, leads, says, calls, opens}
use Rattle.wrong.proofs.Cores.{byte_in, printed, stays, load_e, opens_e, always_status, case_2, case_3, closes_eight, asks_print, print_two, claims, prints, printing, so_many, ok_ticks, runs_still}

-- one status for every CALL, whichever it is: "$86 IOCB above 7" and no other
pub always_status_wrong : (s : ℕ) → StatusRule (with_call real (always_status s)) → ⊥
unfolding after feed fed_of good_field sense_of bad_status message_of errand_step plan_step move_by keys.keys keys_to.entry_of keys_to.key_answer keys_to.translate_of keyboard.obeyed keyboard.struck_by keyboard.get_of printer.put_of open_e open_of prepare_e prepare_of read_e read_k read_of write_e write_of device_of number_of named_of specification_of offers_of bytes_at fetch_status fetch_reply moves.get_of moves.put_of moves.go_of moves.advance_of command_of way_of area_plan transfer_plan block_plan name_of named_for call_plan plan_in plan_of loaded_of load_status then_of opened_of opening_of transfer_of work_of onward_of record_of got_character got_of sent_byte sent_record sent_next sent_of loaded ticked alone_of alone_plan alone_errand alone_work alone_transfer alone_opening transferred getting putting get_one put_one get_characters put_characters get_record put_record drop_line
always_status_wrong s rule =
    let f = always_status s in
    let C = with_call real f in
    let v = led f case_3 in
    let w = led f case_2 in
    let x = rule v (leads f case_3 tt) port-0 closes_eight refl (λ h. h) in
    let y = rule w (leads f case_2 tt) port-0 opens_e refl (λ h. h) in
    let e : s ≡ get_or x.reply.rest 2 0
    = ap (byte_in 2) (sym (ap (phase_at real port-0) (stays C port-0 (f (tick port-0) v).world refl most_moves)) ∙ x.made) in
    let g : s ≡ get_or y.reply.rest 2 0
    = ap (byte_in 2) (sym (ap (phase_at real port-0) (stays C port-0 (f (tick port-0) w).world refl most_moves)) ∙ y.made) in
    let a = x.says.0.iocb_above_7.1 (omega arith) in
    let b = y.says.0.iocb_above_7.0 (sym g ∙ e ∙ a) in
    omega (arith, b)

-- port 1's message goes into port 0's buffer: its taken bytes are read as a message that it never started
no_message : (bs : List ℕ) (m : Said) → Spells bs m → bs ≡ [] → ⊥
no_message bs m s e = omega (arith, sym (ap length s.all) ∙ ap length e)

front_empty : (c rest : List ℕ) → [] ≡ c ++ rest → c ≡ []
front_empty [] rest e = refl
front_empty (byte ∷ c) rest e = absurd (omega (arith, ap length e))

abbrev load_bytes : List ℕ
load_bytes = 0x11 ∷ 5 ∷ 0 ∷ 0 ∷ 0 ∷ 0x45 ∷ 0x3A ∷ 0x9B ∷ []

pub mixed_read_wrong : ReadRule real (with_call real (one_buffer real)) → ⊥
unfolding after feed fed_of good_field sense_of bad_status message_of errand_step plan_step move_by keys.keys keys_to.entry_of keys_to.key_answer keys_to.translate_of keyboard.obeyed keyboard.struck_by keyboard.get_of printer.put_of open_e open_of prepare_e prepare_of read_e read_k read_of write_e write_of device_of number_of named_of specification_of offers_of bytes_at fetch_status fetch_reply moves.get_of moves.put_of moves.go_of moves.advance_of command_of way_of area_plan transfer_plan block_plan name_of named_for call_plan plan_in plan_of loaded_of load_status then_of opened_of opening_of transfer_of work_of onward_of record_of got_character got_of sent_byte sent_record sent_next sent_of loaded requests_of Spelled
mixed_read_wrong r =
    let cs = says port-1 load_bytes in
    let spells : Spells load_bytes load_e = record { tag = 0x11; low = 5; high = 0; value = 0 ∷ 0 ∷ 0x45 ∷ 0x3A ∷ 0x9B ∷ []; all = refl; exact = refl; says = refl } in
    let reads : Reads real (load_e ∷ []) [] load_bytes
    = record {
      front = load_bytes;
      all = refl;
      spelled = (load_bytes, [], refl, spells, refl);
      none_whole = λ c rest m e s. no_message c m s (front_empty c rest e);
    } in
    let e = r first (begun (one_buffer real)) cs (ok_by cs tt) port-1 (load_e ∷ []) [] reads in
    let z : ◌≡◌ {A = ℕ} 1 0 = ap length e in omega arith

-- a tick that moves nothing: the course, and the end
abbrev phase_number : Phase real → ℕ
phase_number (gathering x) = 0
phase_number (ready m) = 1
phase_number (running g k) = 2
phase_number (replying r) = 3

-- A is to be printed
abbrev asks_print_a : List (CoreCall real)
asks_print_a = opens port-0 0x50 0 8 ++ says port-0 (calls 0 0x0B 0 0 0)

abbrev print_a : Said
print_a = call (record { iocb = 0; command = 0x0B; address = 0; length = 0; aux1 = 0; aux2 = 0; a = 0 })

pub still_course_wrong : CourseRule (with_call real (moves_nothing real)) → ⊥
unfolding after feed fed_of good_field sense_of bad_status message_of errand_step plan_step move_by keys.keys keys_to.entry_of keys_to.key_answer keys_to.translate_of keyboard.obeyed keyboard.struck_by keyboard.get_of printer.put_of open_e open_of prepare_e prepare_of read_e read_k read_of write_e write_of device_of number_of named_of specification_of offers_of bytes_at fetch_status fetch_reply moves.get_of moves.put_of moves.go_of moves.advance_of command_of way_of area_plan transfer_plan block_plan name_of named_for call_plan plan_in plan_of loaded_of load_status then_of opened_of opening_of transfer_of work_of onward_of record_of got_character got_of sent_byte sent_record sent_next sent_of loaded ticked alone_of alone_plan alone_errand alone_work alone_transfer alone_opening transferred getting putting get_one put_one get_characters put_characters get_record put_record drop_line
still_course_wrong c =
    let f = moves_nothing real in
    let o = c (led f asks_print_a) (leads f asks_print_a tt) port-0 print_a refl (λ h. h) in
    let h : 1 ≤ 1 = omega arith in
    let z : ◌≡◌ {A = ℕ} 2 3 = ap (λ (v : View real). phase_number (phase_at real port-0 v)) (o.ends 1 h) in omega arith

still_runs : (v : View real) → (Quiet real (phase_at real port-0 v) → ⊥) → (moves_nothing real (tick port-0) v).world ≡ v → (n : ℕ)
    → Stops real (with_call real (moves_nothing real)) port-0 (replicate n (tick port-0)) v → ⊥
still_runs v no-quiet e zero stops = no-quiet stops
still_runs v no-quiet e (suc n) (inl quiet) = no-quiet quiet
still_runs v no-quiet e (suc n) (inr stops) =
    still_runs v no-quiet e n (subst (Stops real (with_call real (moves_nothing real)) port-0 (replicate n (tick port-0))) e stops)

not_quiet : (v : View real) (g : Group) (k : Run) → phase_at real port-0 v ≡ running g k → Quiet real (phase_at real port-0 v) → ⊥
not_quiet v g k e q = subst (Quiet real) e q

pub never_stopping_wrong : EndRule real (with_call real (moves_nothing real)) → ⊥
unfolding after feed fed_of good_field sense_of bad_status message_of errand_step plan_step move_by keys.keys keys_to.entry_of keys_to.key_answer keys_to.translate_of keyboard.obeyed keyboard.struck_by keyboard.get_of printer.put_of open_e open_of prepare_e prepare_of read_e read_k read_of write_e write_of device_of number_of named_of specification_of offers_of bytes_at fetch_status fetch_reply moves.get_of moves.put_of moves.go_of moves.advance_of command_of way_of area_plan transfer_plan block_plan name_of named_for call_plan plan_in plan_of loaded_of load_status then_of opened_of opening_of transfer_of work_of onward_of record_of got_character got_of sent_byte sent_record sent_next sent_of loaded
never_stopping_wrong r =
    let f = moves_nothing real in
    let w = led f prints in
    let e : phase_at real port-0 w ≡ running groups.Printer printing = refl in
    let cs : List (CoreCall real) = replicate most_moves (tick port-0) in
    still_runs w (not_quiet w groups.Printer printing e) (runs_still w groups.Printer printing e) most_moves
    (r w (leads f prints tt) port-0 cs (ok_ticks most_moves) (omega (arith, so_many most_moves)))

-- all in the start tick: later ticks
pub all_later_wrong : LaterRule real (with_call real (all_at_once real 3)) → ⊥
unfolding after feed fed_of good_field sense_of bad_status message_of errand_step plan_step move_by keys.keys keys_to.entry_of keys_to.key_answer keys_to.translate_of keyboard.obeyed keyboard.struck_by keyboard.get_of printer.put_of open_e open_of prepare_e prepare_of read_e read_k read_of write_e write_of device_of number_of named_of specification_of offers_of bytes_at fetch_status fetch_reply moves.get_of moves.put_of moves.go_of moves.advance_of command_of way_of area_plan transfer_plan block_plan name_of named_for call_plan plan_in plan_of loaded_of load_status then_of opened_of opening_of transfer_of work_of onward_of record_of got_character got_of sent_byte sent_record sent_next sent_of loaded ticked finish_out
all_later_wrong r =
    let f = all_at_once real 3 in
    let e = r (led f asks_print) (leads f asks_print tt) port-0 print_two refl (λ h. h) 0 in
    let z : ◌≡◌ {A = ℕ} 2 0 = ap printed e in omega arith

-- the first character only: a run that is not finished, and then is
pub first_unfinished_wrong : UnfinishedRule real (with_call real claims) → ⊥
unfolding after feed fed_of good_field sense_of bad_status message_of errand_step plan_step move_by keys.keys keys_to.entry_of keys_to.key_answer keys_to.translate_of keyboard.obeyed keyboard.struck_by keyboard.get_of printer.put_of open_e open_of prepare_e prepare_of read_e read_k read_of write_e write_of device_of number_of named_of specification_of offers_of bytes_at fetch_status fetch_reply moves.get_of moves.put_of moves.go_of moves.advance_of command_of way_of area_plan transfer_plan block_plan name_of named_for call_plan plan_in plan_of loaded_of load_status then_of opened_of opening_of transfer_of work_of onward_of record_of got_character got_of sent_byte sent_record sent_next sent_of loaded ticked alone_of alone_plan alone_errand alone_work alone_transfer alone_opening transferred getting putting get_one put_one get_characters put_characters get_record put_record drop_line serial
first_unfinished_wrong u =
    let e = u.as_serial first (begun claims) prints (ok_by prints tt) (tick port-0 ∷ []) (tt, tt) (tt, tt) in
    let z : ◌≡◌ {A = ℕ} 1 2 = ap (λ (y : Whole real). y.devs.printer.used) e in omega arith
