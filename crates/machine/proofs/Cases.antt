-- Document 01's starred cases 1 to 11 through the five calls: the calls in, and the bytes given, the cursor and cells out, as one table
-- that is computed from the definitions.
-- Assumes nothing.
use mathlib.Core.Path.{◌≡◌, refl, ◌∙◌, ap}
use mathlib.Core.Bool.{Bool, true}
use mathlib.Core.List.{List, [], ◌∷◌, ◌++◌, map}
use Prim.Native.Nat.{ℕ}
use lib.Dec.{T, ltb}
use lib.ListN.{get_or}
use Rattle.base.proofs.Table.{both, both_left, both_right}
use Rattle.keys.specs.Table as keys
use Rattle.keys.specs.Translation as keys_to
use Rattle.keys.specs.Keyboard as keyboard
use Rattle.cells.specs.Modes.{modes, row_of, shape_of, count_of}
use Rattle.cells.specs.Cells.{cell_of, with_cell, filled, reduced, scrolled}
use Rattle.controls.specs.Decide as controls_acts
use Rattle.editor.specs.Text as editor
use Rattle.controls.specs.Put as controls
use Rattle.editor.specs.Get as editor_get
use Rattle.graphics.specs.Picture as graphics
use Rattle.printer.specs.Printer as printer
use Rattle.console.specs.Handlers.{open_e, open_s, open_of, prepare_e, prepare_s, prepare_of, read_e, read_s, read_k, read_of, write_e, write_s, write_of}
use Rattle.blocks.specs.Opening.{device_of, number_of, named_of, specification_of, offers_of}
use Rattle.wire.specs.Messages.{good_field, sense_of, bad_status, message_of}
use Rattle.replies.specs.Replies.{bytes_at, fetch_status, fetch_reply}
use Rattle.transfer.specs.Transfer.{onward_of, record_of, got_character, got_of, sent_byte, sent_record, sent_next, sent_of}
use Rattle.commands.specs.Commands.{command_of, way_of}
use Rattle.plan.specs.Plan.{name_of, named_for, area_plan, transfer_plan, block_plan, call_plan, plan_in, plan_of}
use Rattle.moves.specs.Move as moves
use Rattle.cio.specs.Start.{loaded_of, load_status, then_of, opened_of, opening_of, transfer_of, work_of}
use Rattle.alone.specs.Alone.{loaded}
use Rattle.serial.specs.Machine.{port-0}
use Rattle.serial.specs.Core.{CoreCall, press}
use Rattle.serial.specs.Calls.{core_of}
use Rattle.serial.specs.Run.{State, after, begin}
use Rattle.serial.proofs.Tested.{all_ok}
use Rattle.serial.proofs.Follows.{run_is}
use Rattle.machine.specs.Spells.{feed, fed_of}
use Rattle.machine.specs.Real.{errand_step, plan_step, move_by, real}
use Rattle.machine.specs.Sticks.{view_of, sticks}
use Rattle.machine.proofs.Linked.{follows}
use Rattle.machine.proofs.Plugged.{plugged, plugged_begins, first, ok_by, does}

-- the bytes given on port 0, the console's cursor, and its cells (0,0), (0,2) and (0,3)
pub record Heard : Type 0 where
  pub given : List ℕ
  pub cursor : List ℕ
  pub cells : List ℕ

abbrev heard : List ℕ → List ℕ → List ℕ → Heard
heard given cursor cells = record { given = given; cursor = cursor; cells = cells }

abbrev heard_in : State real (core_of real) → Heard
heard_in s =
    let d = s.world.devs.console in
    heard s.seen.port.zeroth.given (d.console.row ∷ d.console.column ∷ []) (get_or d.screen 0 0 ∷ get_or d.screen 2 0 ∷ get_or d.screen 3 0 ∷ [])

-- what these calls give, of the machine and of the five calls, from a fresh start
abbrev machine_plays : List (CoreCall real) → Heard
machine_plays cs = heard_in (after real (core_of real) cs (begin real (core_of real) first))

abbrev pub plays : List (CoreCall real) → Heard
plays cs = let s = after real sticks cs (begin real sticks plugged) in heard_in (record { world = view_of s.world; seen = s.seen })

-- a message to port 0, with so many ticks and so many bytes of its reply
abbrev asks : List ℕ → (ticks n : ℕ) → List (CoreCall real)
asks bytes ticks n = does port-0 bytes ticks n

abbrev call : (iocb command low high length aux1 aux2 a : ℕ) → (ticks : ℕ) → List (CoreCall real)
call iocb command low high length aux1 aux2 a ticks = asks (0x10 ∷ 9 ∷ 0 ∷ iocb ∷ command ∷ low ∷ high ∷ length ∷ 0 ∷ aux1 ∷ aux2 ∷ a ∷ []) ticks 7

-- 1 and 2: a device's specification is loaded, and the device is opened on IOCB 0
abbrev opens : (letter aux1 aux2 : ℕ) → List (CoreCall real)
opens letter aux1 aux2 = asks (0x11 ∷ 5 ∷ 0 ∷ 0 ∷ 0 ∷ letter ∷ 0x3A ∷ 0x9B ∷ []) 1 4 ++ call 0 0x03 0 0 0 aux1 aux2 0 1

-- "AB" and $1C at 16, and the record "AB" put: a tick for its start, two characters and the added EOL
abbrev record_of_ab : List (CoreCall real)
record_of_ab = opens 0x45 0x0D 0 ++ (asks (0x11 ∷ 5 ∷ 0 ∷ 16 ∷ 0 ∷ 0x41 ∷ 0x42 ∷ 0x1C ∷ []) 1 4 ++ call 0 0x09 16 0 2 0 0 0 4)

-- "Then PUT CHARACTERS $1C and GET RECORD", and a FETCH of what it stored
abbrev back : ℕ → List (CoreCall real)
back n = record_of_ab ++ (call 0 0x0B 18 0 1 0 0 0 2 ++ (call 0 0x05 32 0 n 0 0 0 4 ++ asks (0x12 ∷ 4 ∷ 0 ∷ 32 ∷ 0 ∷ 3 ∷ 0 ∷ []) 1 7))

abbrev key : ℕ → List (CoreCall real)
key code = press code ∷ call 0 0x07 0 0 0 0 0 0 2

abbrev pub scripts : List (List (CoreCall real))
scripts =
    (opens 0x45 0x0D 0 ++ (call 8 0x0C 0 0 0 0 0 0 1 ++ (call 1 0x07 0 0 1 0 0 7 1 ++ (call 0 0x0B 0xFF 0x3F 1 0 0 0 2 ++ call 0 0x0B 0xFF 0x3F 2 0 0 0 1)))) ∷
    record_of_ab ∷ back 10 ∷ back 3 ∷ back 2 ∷
    (opens 0x4B 0x04 0 ++ (key 0x3F ++ (key 0x3C ++ key 0x3F))) ∷
    (opens 0x4B 0x04 0 ++ (key 0xBF ++ key 0x9A)) ∷
    (opens 0x53 0x08 3 ++ call 0 0x0B 0 0 0 0 0 5 2) ∷ []

abbrev loads : List ℕ
loads = 0x91 ∷ 1 ∷ 0 ∷ 0x01 ∷ []

abbrev calls : (status count a : ℕ) → List ℕ
calls status count a = 0x90 ∷ 4 ∷ 0 ∷ status ∷ count ∷ 0 ∷ a ∷ []

abbrev opened : List ℕ
opened = loads ++ calls 0x01 0 0

abbrev blank : List ℕ
blank = 0x20 ∷ 0x20 ∷ 0x20 ∷ []

abbrev ab : List ℕ
ab = 0x20 ∷ 0x41 ∷ 0x42 ∷ []

-- 1, 2, 3 ($86), 4 ($85), 5 (passes, $B0); 6: cells, cursor (1,2), count 2; 7: n 10, 3 and 2; 8: $41, $88, $61; 9 and 10: $01, $88;
-- 11: cell 1
abbrev pub outcomes : List Heard
outcomes =
    heard (opened ++ (calls 0x86 0 0 ++ (calls 0x85 0 7 ++ (calls 0x01 1 0 ++ calls 0xB0 0 0)))) (0 ∷ 3 ∷ []) (0x20 ∷ 0 ∷ 0x20 ∷ []) ∷
    heard (opened ++ (loads ++ calls 0x01 2 0)) (1 ∷ 2 ∷ []) ab ∷
    heard (opened ++ (loads ++ (calls 0x01 2 0 ++ (calls 0x01 1 0 ++ (calls 0x01 3 0 ++ (0x92 ∷ 4 ∷ 0 ∷ 0x01 ∷ 0x41 ∷ 0x42 ∷ 0x9B ∷ [])))))) (1 ∷ 2 ∷ []) ab ∷
    heard (opened ++ (loads ++ (calls 0x01 2 0 ++ (calls 0x01 1 0 ++ (calls 0x01 3 0 ++ (0x92 ∷ 4 ∷ 0 ∷ 0x01 ∷ 0x41 ∷ 0x42 ∷ 0x9B ∷ [])))))) (1 ∷ 2 ∷ []) ab ∷
    heard (opened ++ (loads ++ (calls 0x01 2 0 ++ (calls 0x01 1 0 ++ (calls 0x89 2 0 ++ (0x92 ∷ 4 ∷ 0 ∷ 0x01 ∷ 0x41 ∷ 0x42 ∷ 0x00 ∷ [])))))) (1 ∷ 2 ∷ []) ab ∷
    heard (opened ++ (calls 0x01 0 0x41 ++ (calls 0x88 0 0 ++ calls 0x01 0 0x61))) (0 ∷ 2 ∷ []) blank ∷
    heard (opened ++ (calls 0x01 0 0x01 ++ calls 0x88 0 0)) (0 ∷ 2 ∷ []) blank ∷
    heard (opened ++ calls 0x01 0 5) (0 ∷ 1 ∷ []) (1 ∷ 0 ∷ 0 ∷ []) ∷ []

machine_cases : map machine_plays scripts ≡ outcomes
unfolding after feed fed_of good_field sense_of bad_status message_of errand_step plan_step move_by keys.keys keys_to.entry_of keys_to.key_answer keys_to.translate_of keyboard.obeyed keyboard.struck_by keyboard.get_of printer.put_of open_e open_of prepare_e prepare_of read_e read_k read_of write_e write_of device_of number_of named_of specification_of offers_of bytes_at fetch_status fetch_reply moves.get_of moves.put_of moves.go_of moves.advance_of command_of way_of area_plan transfer_plan block_plan name_of named_for call_plan plan_in plan_of loaded_of load_status then_of opened_of opening_of transfer_of work_of onward_of record_of got_character got_of sent_byte sent_record sent_next sent_of loaded modes row_of shape_of count_of cell_of with_cell filled reduced scrolled controls_acts.plain_of controls_acts.act_of editor.new_row editor.open_of controls.less_of controls.more_of controls.clear_of controls.back_of controls.onward controls.data_of controls.doing controls.put_of editor_get.cells_held editor_get.end_of editor_get.get_at editor_get.get_of graphics.onward graphics.cells_opened graphics.open_of graphics.get_of graphics.clear_of graphics.data_of graphics.put_of open_s prepare_s read_s write_s
machine_cases = refl

-- the five calls play what the machine plays
abbrev all_bytes : List (List (CoreCall real)) → Bool
all_bytes [] = true
all_bytes (cs ∷ css) = both (all_ok real (λ b. ltb b 256) cs) (all_bytes css)

play_one : (cs : List (CoreCall real)) → T (all_ok real (λ b. ltb b 256) cs) → plays cs ≡ machine_plays cs
play_one cs t = ap heard_in (run_is real sticks follows plugged plugged_begins cs (ok_by cs t))

play_all : (css : List (List (CoreCall real))) → T (all_bytes css) → map plays css ≡ map machine_plays css
play_all [] t = refl
play_all (cs ∷ css) t =
    let a = play_one cs (both_left (all_ok real (λ b. ltb b 256) cs) (all_bytes css) t) in
    let b = play_all css (both_right (all_ok real (λ b. ltb b 256) cs) (all_bytes css) t) in
    ap (λ (x : Heard). x ∷ map plays css) a ∙ ap (λ (xs : List Heard). machine_plays cs ∷ xs) b

pub cases : map plays scripts ≡ outcomes
cases = play_all scripts tt ∙ machine_cases
