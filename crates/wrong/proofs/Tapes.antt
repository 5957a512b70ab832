-- Wrong cores of Ask 1's tape, code and promise wrong alike: of each, the statement that document 01 names for it is false, by a computed
-- run from a fresh start. "Wrong machines: .. $81 .. from the own port's blocks only, or without the group; one lock for tape and console."
-- Assumes nothing.
use mathlib.Core.Path.{◌≡◌, refl, sym, ◌∙◌, ap}
use mathlib.Core.Bool.{Bool, false, true≢false}
use mathlib.Core.List.{List, [], ◌∷◌, ◌++◌}
use Prim.Native.Nat.{ℕ}
use native.Mathlib.Omega.{arith}
use lib.Dec.{eqb}
use Rattle.base.specs.Choice.{choose}
use Rattle.keys.specs.Table as keys
use Rattle.keys.specs.Translation as keys_to
use Rattle.keys.specs.Keyboard as keyboard
use Rattle.printer.specs.Printer as printer
use Rattle.cassette.specs.Cassette as cassette
use Rattle.console.specs.Handlers.{open_e, open_of, prepare_e, prepare_of, read_e, read_k, read_of, write_e, write_of}
use Rattle.blocks.specs.Opening.{device_of, number_of, named_of, specification_of, offers_of}
use Rattle.wire.specs.Messages.{good_field, sense_of, bad_status, message_of}
use Rattle.replies.specs.Replies.{bytes_at, fetch_status, fetch_reply, call_reply}
use Rattle.transfer.specs.Transfer.{onward_of, record_of, got_character, got_of, sent_byte, sent_record, sent_next, sent_of}
use Rattle.devices.specs.declared.Group.{Group}
use Rattle.devices.specs.declared.Group.TheVariants as groups
use Rattle.devices.specs.Groups.{Groups, put_group, clash}
use Rattle.devices.specs.Marks.{marks_in}
use Rattle.commands.specs.Commands.{command_of, way_of}
use Rattle.plan.specs.Plan.{name_of, named_for, area_plan, transfer_plan, block_plan, call_plan, plan_in, plan_of}
use Rattle.moves.specs.Move as moves
use Rattle.cio.specs.Start.{loaded_of, load_status, then_of, opened_of, opening_of, transfer_of, work_of}
use Rattle.alone.specs.Transfer.{get_one, put_one, get_characters, drop_line, get_record, put_characters, put_record, getting, putting, transferred}
use Rattle.alone.specs.Alone.{Said, call, alone_opening, alone_transfer, alone_work, loaded, alone_errand, alone_plan, alone_of}
use Rattle.alone.specs.Moves.{most_moves}
use Rattle.serial.specs.Machine.{PortName, port-0, port-1, other}
use Rattle.serial.specs.Core.{Phase, gathering, ready, running, replying, View, phase_at, local_at, CoreCall, tick, done, number, Effect}
use Rattle.serial.specs.Calls.{start_if, on_port, call_of}
use Rattle.serial.specs.Run.{after}
use Rattle.serial.specs.Demand2.{WaitingRule, AloneRule, ticked}
use Rattle.serial.proofs.WrongCores.{Calls, with_call, replied, when_ticked, when_ready}
use Rattle.machine.specs.Spells.{feed, fed_of}
use Rattle.machine.specs.Real.{reply_by, need_by, errand_step, plan_step, move_by, real}
use Rattle.machine.proofs.Plugged.{led, leads, says, does, loads, calls, opens}
use Rattle.wrong.proofs.Cores.{byte_in, replied_stays, opens_e}

-- "one lock for tape and console": the tape's lock is the console's
abbrev lock_of : Group → Group
lock_of groups.Nobody = groups.Nobody
lock_of groups.Console = groups.Console
lock_of groups.Printer = groups.Printer
lock_of groups.Cassette = groups.Console
lock_of groups.Disk = groups.Disk

abbrev locks : Group → Phase real → Bool
locks g (gathering x) = false
locks g (ready m) = false
locks g (running h k) = clash (lock_of g) (lock_of h)
locks g (replying r) = false

abbrev locked_at : Phase real → PortName → View real → Effect real (View real)
locked_at (gathering x) p v = call_of real (tick p) v
locked_at (ready m) p v =
    let l = local_at real p v in
    let g = need_by l m in
    on_port real p (start_if real (locks g (phase_at real (other p) v)) g m l v.devs) v
locked_at (running g k) p v = call_of real (tick p) v
locked_at (replying r) p v = call_of real (tick p) v

abbrev tape_lock : Calls real
tape_lock = when_ready real (λ p v. locked_at (phase_at real p v) p v)

-- port 1 is to open E, and port 0 writes on the tape
abbrev writes_two : List ℕ
writes_two = calls 0 0x0B 0 2 0

abbrev tape_and_console : List (CoreCall real)
tape_and_console = loads port-1 4 (0x45 ∷ 0x3A ∷ []) ++ says port-1 (calls 0 0x03 0 0 0x0D) ++ opens port-0 0x43 0 8 ++ does port-0 writes_two 1 0

pub tape_lock_wrong : WaitingRule real (with_call real tape_lock) → ⊥
unfolding after feed fed_of good_field sense_of bad_status message_of errand_step plan_step move_by keys.keys keys_to.entry_of keys_to.key_answer keys_to.translate_of keyboard.obeyed keyboard.struck_by keyboard.get_of printer.put_of open_e open_of prepare_e prepare_of read_e read_k read_of write_e write_of device_of number_of named_of specification_of offers_of bytes_at fetch_status fetch_reply moves.get_of moves.put_of moves.go_of moves.advance_of command_of way_of area_plan transfer_plan block_plan name_of named_for call_plan plan_in plan_of loaded_of load_status then_of opened_of opening_of transfer_of work_of onward_of record_of got_character got_of sent_byte sent_record sent_next sent_of loaded cassette.tape_opened cassette.write_of cassette.taken_of cassette.close_of
tape_lock_wrong w = true≢false (sym ((w.waits (led tape_lock tape_and_console) (leads tape_lock tape_and_console tt) port-1 opens_e refl).0 refl))

-- "$81 .. without the group": an opening of C is refused while the other port still writes on the tape
abbrev refused_at : Phase real → Group → PortName → View real → Effect real (View real)
refused_at (gathering x) g p v = call_of real (tick p) v
refused_at (ready m) g p v = call_of real (tick p) v
refused_at (running h k) g p v =
    choose (clash g h) (λ u. record { world = replied real p (reply_by (call_reply 0x81 0 0)) v; answer = done }) (λ u. call_of real (tick p) v)
refused_at (replying r) g p v = call_of real (tick p) v

abbrev hasty_at : Phase real → PortName → View real → Effect real (View real)
hasty_at (gathering x) p v = call_of real (tick p) v
hasty_at (ready m) p v = refused_at (phase_at real (other p) v) (need_by (local_at real p v) m) p v
hasty_at (running g k) p v = call_of real (tick p) v
hasty_at (replying r) p v = call_of real (tick p) v

abbrev hasty : Calls real
hasty = when_ready real (λ p v. hasty_at (phase_at real p v) p v)

abbrev opens_tape : Said
opens_tape = call (record { iocb = 0; command = 0x03; address = 0; length = 0; aux1 = 4; aux2 = 0; a = 0 })

abbrev asks_tape : PortName → List (CoreCall real)
asks_tape p = loads p 4 (0x43 ∷ 0x3A ∷ []) ++ says p (calls 0 0x03 0 0 4)

abbrev both_tape : List (CoreCall real)
both_tape = asks_tape port-1 ++ opens port-0 0x43 0 8 ++ does port-0 writes_two 1 0

pub hasty_wrong : WaitingRule real (with_call real hasty) → ⊥
unfolding after feed fed_of good_field sense_of bad_status message_of errand_step plan_step move_by keys.keys keys_to.entry_of keys_to.key_answer keys_to.translate_of keyboard.obeyed keyboard.struck_by keyboard.get_of printer.put_of open_e open_of prepare_e prepare_of read_e read_k read_of write_e write_of device_of number_of named_of specification_of offers_of bytes_at fetch_status fetch_reply moves.get_of moves.put_of moves.go_of moves.advance_of command_of way_of area_plan transfer_plan block_plan name_of named_for call_plan plan_in plan_of loaded_of load_status then_of opened_of opening_of transfer_of work_of onward_of record_of got_character got_of sent_byte sent_record sent_next sent_of loaded cassette.tape_opened cassette.write_of cassette.taken_of cassette.close_of
hasty_wrong w =
    let e = (w.waits (led hasty both_tape) (leads hasty both_tape tt) port-1 opens_tape refl).1 refl in
    let z : ◌≡◌ {A = ℕ} 0 8 = ap (number real) e in omega arith

-- "$81 .. from the own port's blocks only": what the other port has open does not count
abbrev unmarked : ℕ → Groups → Groups
unmarked marks d = choose (eqb marks 0) (λ u. put_group groups.Cassette d (cassette.with_cassette d.cassette cassette.fresh_cassette)) (λ u. d)

abbrev own_at : Phase real → PortName → View real → Effect real (View real)
own_at (gathering x) p v = call_of real (tick p) v
own_at (ready m) p v =
    let l = local_at real p v in
    choose (clash groups.Cassette (need_by l m))
    (λ u. call_of real (tick p) (record { ports = v.ports; devs = unmarked (marks_in l.table.blocks) v.devs }))
    (λ u. call_of real (tick p) v)
own_at (running g k) p v = call_of real (tick p) v
own_at (replying r) p v = call_of real (tick p) v

abbrev own_only : Calls real
own_only = when_ticked real (λ p v. own_at (phase_at real p v) p v)

-- port 1 has C open for reading, and port 0 is to open it
abbrev second_opens : List (CoreCall real)
second_opens = opens port-1 0x43 0 4 ++ asks_tape port-0

pub own_only_wrong : AloneRule real (with_call real own_only) → ⊥
unfolding after feed fed_of good_field sense_of bad_status message_of errand_step plan_step move_by keys.keys keys_to.entry_of keys_to.key_answer keys_to.translate_of keyboard.obeyed keyboard.struck_by keyboard.get_of printer.put_of open_e open_of prepare_e prepare_of read_e read_k read_of write_e write_of device_of number_of named_of specification_of offers_of bytes_at fetch_status fetch_reply moves.get_of moves.put_of moves.go_of moves.advance_of command_of way_of area_plan transfer_plan block_plan name_of named_for call_plan plan_in plan_of loaded_of load_status then_of opened_of opening_of transfer_of work_of onward_of record_of got_character got_of sent_byte sent_record sent_next sent_of loaded ticked alone_of alone_plan alone_errand alone_work alone_transfer alone_opening transferred getting putting get_one put_one get_characters put_characters get_record put_record drop_line cassette.tape_opened cassette.write_of cassette.taken_of cassette.close_of
own_only_wrong a =
    let w = led own_only second_opens in
    let q = replied_stays own_at (λ r v. refl) (own_only (tick port-0) w).world (reply_by (call_reply 0x01 0 0)) refl most_moves in
    let e = sym q ∙ a w (leads own_only second_opens tt) port-0 opens_tape refl (λ h. h) in
    let z : ◌≡◌ {A = ℕ} 0x01 0x81 = ap (λ (v : View real). byte_in 2 (phase_at real port-0 v)) e in omega arith
