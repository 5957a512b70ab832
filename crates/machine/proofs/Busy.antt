-- Not vacuous: a computed run of document 01's machine with both ports busy and a key, in which the answers 0 and 4 to 8 all come; and one
-- in which the tape is busy with the printer and with the console, and neither waits for the other.
-- Assumes nothing.
use mathlib.Core.Path.{◌≡◌, refl}
use mathlib.Core.List.{List, [], ◌∷◌, ◌++◌}
use Prim.Native.Nat.{ℕ}
use lib.ListN.{replicate}
use Rattle.keys.specs.Table as keys
use Rattle.keys.specs.Translation as keys_to
use Rattle.keys.specs.Keyboard as keyboard
use Rattle.printer.specs.Printer as printer
use Rattle.cassette.specs.Cassette.{cassette_at}
use Rattle.cassette.specs.Cassette as cassette
use Rattle.console.specs.Handlers.{open_e, open_of, prepare_e, prepare_of, read_e, read_k, read_of, write_e, write_of}
use Rattle.blocks.specs.Opening.{device_of, number_of, named_of, specification_of, offers_of}
use Rattle.wire.specs.Messages.{good_field, sense_of, bad_status, message_of}
use Rattle.replies.specs.Replies.{bytes_at, fetch_status, fetch_reply}
use Rattle.transfer.specs.Transfer.{onward_of, record_of, got_character, got_of, sent_byte, sent_record, sent_next, sent_of}
use Rattle.commands.specs.Commands.{command_of, way_of}
use Rattle.plan.specs.Plan.{name_of, named_for, area_plan, transfer_plan, block_plan, call_plan, plan_in, plan_of}
use Rattle.moves.specs.Move as moves
use Rattle.cio.specs.Start.{loaded_of, load_status, then_of, opened_of, opening_of, transfer_of, work_of}
use Rattle.alone.specs.Alone.{loaded}
use Rattle.serial.specs.Machine.{port-0, port-1}
use Rattle.serial.specs.Core.{gathering, phase_at, CoreCall, take, tick, give, press}
use Rattle.serial.specs.Calls.{core_of}
use Rattle.serial.specs.Run.{State, after, begin}
use Rattle.serial.proofs.Tested.{answers}
use Rattle.machine.specs.Spells.{nothing_yet, feed, fed_of}
use Rattle.machine.specs.Real.{errand_step, plan_step, move_by, real}
use Rattle.machine.proofs.Plugged.{first, says, loads, calls, opens}

-- both ports have P on block 0, and port 1 has K on block 1
abbrev before : List (CoreCall real)
before = opens port-0 0x50 0 8 ++ opens port-1 0x50 0 8 ++ opens port-1 0x4B 1 4

-- port 0 prints two characters; meanwhile a key is pressed, port 1 reads it, and its own print waits
abbrev busy : List (CoreCall real)
busy =
    says port-0 (calls 0 0x0B 0 2 0) ++ (tick port-0 ∷ take port-0 1 ∷ give port-0 ∷ tick port-1 ∷ press 0x3F ∷ [])
    ++ says port-1 (calls 1 0x07 0 0 0) ++ (tick port-1 ∷ press 0x15 ∷ tick port-0 ∷ tick port-1 ∷ replicate 7 (give port-1))
    ++ says port-1 (calls 0 0x0B 0 1 0) ++ (tick port-1 ∷ tick port-0 ∷ tick port-1 ∷ tick port-1 ∷ replicate 7 (give port-1))
    ++ replicate 7 (give port-0)

abbrev pub busy_calls : List (CoreCall real)
busy_calls = before ++ busy

abbrev pub busy_numbers : List ℕ
busy_numbers =
    replicate 96 0
    ++ replicate 12 0 ++ (0 ∷ 4 ∷ 5 ∷ 7 ∷ 0 ∷ [])
    ++ replicate 12 0 ++ (0 ∷ 6 ∷ 0 ∷ 0 ∷ replicate 7 0)
    ++ replicate 12 0 ++ (8 ∷ 0 ∷ 0 ∷ 0 ∷ replicate 7 0)
    ++ replicate 7 0

pub machine_answers : answers real (core_of real) busy_calls first ≡ busy_numbers
unfolding after feed fed_of good_field sense_of bad_status message_of errand_step plan_step move_by keys.keys keys_to.entry_of keys_to.key_answer keys_to.translate_of keyboard.obeyed keyboard.struck_by keyboard.get_of printer.put_of open_e open_of prepare_e prepare_of read_e read_k read_of write_e write_of device_of number_of named_of specification_of offers_of bytes_at fetch_status fetch_reply moves.get_of moves.put_of moves.go_of moves.advance_of command_of way_of area_plan transfer_plan block_plan name_of named_for call_plan plan_in plan_of loaded_of load_status then_of opened_of opening_of transfer_of work_of onward_of record_of got_character got_of sent_byte sent_record sent_next sent_of loaded
machine_answers = refl

abbrev pub machine_end : State real (core_of real)
machine_end = after real (core_of real) busy_calls (begin real (core_of real) first)

-- two characters and one on the paper, both ports gathering
pub machine_used : machine_end.world.devs.printer.used ≡ 3
unfolding after feed fed_of good_field sense_of bad_status message_of errand_step plan_step move_by keys.keys keys_to.entry_of keys_to.key_answer keys_to.translate_of keyboard.obeyed keyboard.struck_by keyboard.get_of printer.put_of open_e open_of prepare_e prepare_of read_e read_k read_of write_e write_of device_of number_of named_of specification_of offers_of bytes_at fetch_status fetch_reply moves.get_of moves.put_of moves.go_of moves.advance_of command_of way_of area_plan transfer_plan block_plan name_of named_for call_plan plan_in plan_of loaded_of load_status then_of opened_of opening_of transfer_of work_of onward_of record_of got_character got_of sent_byte sent_record sent_next sent_of loaded
machine_used = refl

pub machine_0 : phase_at real port-0 machine_end.world ≡ gathering nothing_yet
unfolding after feed fed_of good_field sense_of bad_status message_of errand_step plan_step move_by keys.keys keys_to.entry_of keys_to.key_answer keys_to.translate_of keyboard.obeyed keyboard.struck_by keyboard.get_of printer.put_of open_e open_of prepare_e prepare_of read_e read_k read_of write_e write_of device_of number_of named_of specification_of offers_of bytes_at fetch_status fetch_reply moves.get_of moves.put_of moves.go_of moves.advance_of command_of way_of area_plan transfer_plan block_plan name_of named_for call_plan plan_in plan_of loaded_of load_status then_of opened_of opening_of transfer_of work_of onward_of record_of got_character got_of sent_byte sent_record sent_next sent_of loaded
machine_0 = refl

pub machine_1 : phase_at real port-1 machine_end.world ≡ gathering nothing_yet
unfolding after feed fed_of good_field sense_of bad_status message_of errand_step plan_step move_by keys.keys keys_to.entry_of keys_to.key_answer keys_to.translate_of keyboard.obeyed keyboard.struck_by keyboard.get_of printer.put_of open_e open_of prepare_e prepare_of read_e read_k read_of write_e write_of device_of number_of named_of specification_of offers_of bytes_at fetch_status fetch_reply moves.get_of moves.put_of moves.go_of moves.advance_of command_of way_of area_plan transfer_plan block_plan name_of named_for call_plan plan_in plan_of loaded_of load_status then_of opened_of opening_of transfer_of work_of onward_of record_of got_character got_of sent_byte sent_record sent_next sent_of loaded
machine_1 = refl

-- port 1 is given the key's character, and its own counts
abbrev pub busy_given : List ℕ
busy_given =
    0x91 ∷ 1 ∷ 0 ∷ 1 ∷ 0x90 ∷ 4 ∷ 0 ∷ 1 ∷ 0 ∷ 0 ∷ 0 ∷ 0x91 ∷ 1 ∷ 0 ∷ 1 ∷ 0x90 ∷ 4 ∷ 0 ∷ 1 ∷ 0 ∷ 0 ∷ 0 ∷
    0x90 ∷ 4 ∷ 0 ∷ 1 ∷ 0 ∷ 0 ∷ 0x41 ∷ 0x90 ∷ 4 ∷ 0 ∷ 1 ∷ 1 ∷ 0 ∷ 0 ∷ []

pub machine_given : machine_end.seen.port.first.given ≡ busy_given
unfolding after feed fed_of good_field sense_of bad_status message_of errand_step plan_step move_by keys.keys keys_to.entry_of keys_to.key_answer keys_to.translate_of keyboard.obeyed keyboard.struck_by keyboard.get_of printer.put_of open_e open_of prepare_e prepare_of read_e read_k read_of write_e write_of device_of number_of named_of specification_of offers_of bytes_at fetch_status fetch_reply moves.get_of moves.put_of moves.go_of moves.advance_of command_of way_of area_plan transfer_plan block_plan name_of named_for call_plan plan_in plan_of loaded_of load_status then_of opened_of opening_of transfer_of work_of onward_of record_of got_character got_of sent_byte sent_record sent_next sent_of loaded
machine_given = refl

-- Three groups: port 0 has C on block 0, and port 1 P on block 0 and K on block 1
abbrev tape_before : List (CoreCall real)
tape_before = opens port-0 0x43 0 8 ++ opens port-1 0x50 0 8 ++ opens port-1 0x4B 1 4

-- port 0 writes two characters on the tape; meanwhile port 1 prints one, and reads a key; then it opens C itself, which waits, and is $81
abbrev tape_busy : List (CoreCall real)
tape_busy =
    says port-0 (calls 0 0x0B 0 2 0) ++ (tick port-0 ∷ [])
    ++ says port-1 (calls 0 0x0B 0 1 0) ++ (tick port-1 ∷ tick port-0 ∷ tick port-1 ∷ replicate 7 (give port-1))
    ++ (press 0x3F ∷ says port-1 (calls 1 0x07 0 0 0)) ++ (tick port-1 ∷ press 0x15 ∷ tick port-1 ∷ replicate 7 (give port-1))
    ++ loads port-1 4 (0x43 ∷ 0x3A ∷ []) ++ says port-1 (calls 2 0x03 0 0 4) ++ (tick port-1 ∷ tick port-0 ∷ tick port-1 ∷ replicate 7 (give port-1))
    ++ replicate 7 (give port-0)

abbrev pub tape_calls : List (CoreCall real)
tape_calls = tape_before ++ tape_busy

abbrev pub tape_numbers : List ℕ
tape_numbers =
    replicate 96 0
    ++ replicate 13 0
    ++ replicate 22 0
    ++ replicate 13 0 ++ (0 ∷ 6 ∷ 0 ∷ replicate 7 0)
    ++ replicate 24 0 ++ (8 ∷ 0 ∷ 0 ∷ replicate 7 0)
    ++ replicate 7 0

pub tape_answers : answers real (core_of real) tape_calls first ≡ tape_numbers
unfolding after feed fed_of good_field sense_of bad_status message_of errand_step plan_step move_by keys.keys keys_to.entry_of keys_to.key_answer keys_to.translate_of keyboard.obeyed keyboard.struck_by keyboard.get_of printer.put_of open_e open_of prepare_e prepare_of read_e read_k read_of write_e write_of device_of number_of named_of specification_of offers_of bytes_at fetch_status fetch_reply moves.get_of moves.put_of moves.go_of moves.advance_of command_of way_of area_plan transfer_plan block_plan name_of named_for call_plan plan_in plan_of loaded_of load_status then_of opened_of opening_of transfer_of work_of onward_of record_of got_character got_of sent_byte sent_record sent_next sent_of loaded cassette.tape_opened cassette.write_of cassette.taken_of
tape_answers = refl

abbrev pub tape_end : State real (core_of real)
tape_end = after real (core_of real) tape_calls (begin real (core_of real) first)

-- the two characters are pending on the tape, which port 0 has open for writing; one is on the paper
pub tape_written : tape_end.world.devs.cassette.cassette ≡ cassette_at 2 0 2
unfolding after feed fed_of good_field sense_of bad_status message_of errand_step plan_step move_by keys.keys keys_to.entry_of keys_to.key_answer keys_to.translate_of keyboard.obeyed keyboard.struck_by keyboard.get_of printer.put_of open_e open_of prepare_e prepare_of read_e read_k read_of write_e write_of device_of number_of named_of specification_of offers_of bytes_at fetch_status fetch_reply moves.get_of moves.put_of moves.go_of moves.advance_of command_of way_of area_plan transfer_plan block_plan name_of named_for call_plan plan_in plan_of loaded_of load_status then_of opened_of opening_of transfer_of work_of onward_of record_of got_character got_of sent_byte sent_record sent_next sent_of loaded cassette.tape_opened cassette.write_of cassette.taken_of
tape_written = refl

pub tape_printed : tape_end.world.devs.printer.used ≡ 1
unfolding after feed fed_of good_field sense_of bad_status message_of errand_step plan_step move_by keys.keys keys_to.entry_of keys_to.key_answer keys_to.translate_of keyboard.obeyed keyboard.struck_by keyboard.get_of printer.put_of open_e open_of prepare_e prepare_of read_e read_k read_of write_e write_of device_of number_of named_of specification_of offers_of bytes_at fetch_status fetch_reply moves.get_of moves.put_of moves.go_of moves.advance_of command_of way_of area_plan transfer_plan block_plan name_of named_for call_plan plan_in plan_of loaded_of load_status then_of opened_of opening_of transfer_of work_of onward_of record_of got_character got_of sent_byte sent_record sent_next sent_of loaded cassette.tape_opened cassette.write_of cassette.taken_of
tape_printed = refl

-- port 1 is given its count, the key's character, and $81
abbrev pub tape_given : List ℕ
tape_given =
    0x91 ∷ 1 ∷ 0 ∷ 1 ∷ 0x90 ∷ 4 ∷ 0 ∷ 1 ∷ 0 ∷ 0 ∷ 0 ∷ 0x91 ∷ 1 ∷ 0 ∷ 1 ∷ 0x90 ∷ 4 ∷ 0 ∷ 1 ∷ 0 ∷ 0 ∷ 0 ∷
    0x90 ∷ 4 ∷ 0 ∷ 1 ∷ 1 ∷ 0 ∷ 0 ∷ 0x90 ∷ 4 ∷ 0 ∷ 1 ∷ 0 ∷ 0 ∷ 0x41 ∷ 0x91 ∷ 1 ∷ 0 ∷ 1 ∷ 0x90 ∷ 4 ∷ 0 ∷ 0x81 ∷ 0 ∷ 0 ∷ 0 ∷ []

pub tape_given_lem : tape_end.seen.port.first.given ≡ tape_given
unfolding after feed fed_of good_field sense_of bad_status message_of errand_step plan_step move_by keys.keys keys_to.entry_of keys_to.key_answer keys_to.translate_of keyboard.obeyed keyboard.struck_by keyboard.get_of printer.put_of open_e open_of prepare_e prepare_of read_e read_k read_of write_e write_of device_of number_of named_of specification_of offers_of bytes_at fetch_status fetch_reply moves.get_of moves.put_of moves.go_of moves.advance_of command_of way_of area_plan transfer_plan block_plan name_of named_for call_plan plan_in plan_of loaded_of load_status then_of opened_of opening_of transfer_of work_of onward_of record_of got_character got_of sent_byte sent_record sent_next sent_of loaded cassette.tape_opened cassette.write_of cassette.taken_of
tape_given_lem = refl
