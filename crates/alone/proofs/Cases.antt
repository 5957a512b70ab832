-- Document 01's starred cases 1 to 11, as requests alone: one table, computed from the definitions.
-- Assumes nothing.
use mathlib.Core.Path.{◌≡◌, refl}
use mathlib.Core.List.{List, [], ◌∷◌, ◌++◌, map}
use Prim.Native.Nat.{ℕ}
use lib.ListN.{get_or, replicate}
use Rattle.keys.specs.Table as keys
use Rattle.keys.specs.Translation as keys_to
use Rattle.keys.specs.Keyboard as keyboard
use Rattle.cells.specs.Modes.{modes, row_of, shape_of, count_of}
use Rattle.cells.specs.Cells.{cell_of, with_cell, filled, reduced, scrolled}
use Rattle.controls.specs.Decide as controls_acts
use Rattle.editor.specs.Text as editor
use Rattle.controls.specs.Put as controls
use Rattle.editor.specs.Get as editor_get
use Rattle.graphics.specs.Picture as graphics
use Rattle.records.specs.Records.{tape_length}
use Rattle.cassette.specs.Cassette.{cassette_group, fresh_cassette}
use Rattle.disk.specs.Disk.{disk_group, fresh_places}
use Rattle.printer.specs.Printer.{paper_length, printer_group}
use Rattle.console.specs.Group.{group, fresh_group, pressed_of}
use Rattle.console.specs.Handlers.{open_e, open_s, open_of, prepare_e, prepare_s, prepare_of, read_e, read_s, read_k, read_of, write_e, write_s, write_of}
use Rattle.blocks.specs.Blocks.{closed_table}
use Rattle.blocks.specs.Opening.{device_of, number_of, named_of, specification_of, offers_of, area_length}
use Rattle.replies.specs.Replies.{bytes_at, fetch_status, fetch_reply}
use Rattle.devices.specs.Groups.{Groups}
use Rattle.commands.specs.Commands.{command_of, way_of}
use Rattle.plan.specs.Plan.{area_plan, transfer_plan, block_plan, call_plan, plan_of, name_of, named_for, plan_in}
use Rattle.cio.specs.Start.{load_status, opened_of, then_of}
use Rattle.alone.specs.Transfer.{get_one, put_one, get_characters, drop_line, get_record, put_characters, put_record, getting, putting, transferred}
use Rattle.alone.specs.Left.{left_e, left_s, left_k, console_left}
use Rattle.alone.specs.Alone.{Said, call, load, fetch, Local, local, alone_opening, alone_transfer, alone_work, loaded, alone_errand, alone_plan, alone_of}

pub data Step : Type 0 where
  says : Said → Step
  presses : ℕ → Step

-- the replies of a list of steps, and the console's cursor and cells (0,0), (0,2), (0,3) after them
pub record Heard : Type 0 where
  pub replies : List (List ℕ)
  pub cursor : List ℕ
  pub cells : List ℕ

abbrev seen_at : Groups → Heard
seen_at d = record {
  replies = [];
  cursor = d.console.console.row ∷ d.console.console.column ∷ [];
  cells = get_or d.console.screen 0 0 ∷ get_or d.console.screen 2 0 ∷ get_or d.console.screen 3 0 ∷ [];
}

abbrev hear : List ℕ → Heard → Heard
hear reply h = record { replies = reply ∷ h.replies; cursor = h.cursor; cells = h.cells }

abbrev pressed : ℕ → Groups → Groups
pressed code d = record { console = group (pressed_of code d.console.console) d.console.screen; printer = d.printer; cassette = d.cassette; disk = d.disk }

abbrev pub run : List Step → Local → Groups → Heard
run [] l d = seen_at d
run (says said ∷ rest) l d = let w = alone_of said l d in hear w.reply (run rest w.local w.groups)
run (presses code ∷ rest) l d = run rest l (pressed code d)

abbrev fresh : List Step → Heard
fresh steps = run steps (local 0 closed_table (replicate area_length 0)) (record { console = fresh_group; printer = printer_group 0 (replicate paper_length 0); cassette = cassette_group fresh_cassette (replicate 128 0) (replicate tape_length 0); disk = disk_group fresh_places [] })

abbrev asks : (iocb command address length aux1 aux2 a : ℕ) → Step
asks iocb command address length aux1 aux2 a =
    says (call (record { iocb = iocb; command = command; address = address; length = length; aux1 = aux1; aux2 = aux2; a = a }))

abbrev stores : ℕ → List ℕ → Step
stores address bytes = says (load address bytes)

-- 1 and 2: a device's specification is loaded, and the device is opened on IOCB 0
abbrev opens : (letter aux1 aux2 : ℕ) → List Step
opens letter aux1 aux2 = stores 0 (letter ∷ 0x3A ∷ 0x9B ∷ []) ∷ asks 0 0x03 0 0 aux1 aux2 0 ∷ []

abbrev record_of_ab : List Step
record_of_ab = opens 0x45 0x0D 0 ++ (stores 16 (0x41 ∷ 0x42 ∷ 0x1C ∷ []) ∷ asks 0 0x09 16 2 0 0 0 ∷ [])

-- "Then PUT CHARACTERS $1C and GET RECORD", and a FETCH of what it stored
abbrev back : ℕ → List Step
back n = record_of_ab ++ (asks 0 0x0B 18 1 0 0 0 ∷ asks 0 0x05 32 n 0 0 0 ∷ says (fetch 32 3) ∷ [])

abbrev key : ℕ → List Step
key code = presses code ∷ asks 0 0x07 0 0 0 0 0 ∷ []

abbrev pub scripts : List (List Step)
scripts =
    (opens 0x45 0x0D 0 ++ (asks 8 0x0C 0 0 0 0 0 ∷ asks 1 0x07 0 1 0 0 7 ∷ asks 0 0x0B 16383 1 0 0 0 ∷ asks 0 0x0B 16383 2 0 0 0 ∷ [])) ∷
    record_of_ab ∷ back 10 ∷ back 3 ∷ back 2 ∷
    (opens 0x4B 0x04 0 ++ (key 0x3F ++ (key 0x3C ++ key 0x3F))) ∷
    (opens 0x4B 0x04 0 ++ (key 0xBF ++ key 0x9A)) ∷
    (opens 0x53 0x08 3 ++ (asks 0 0x0B 0 0 0 0 5 ∷ [])) ∷ []

abbrev loads : List ℕ
loads = 0x91 ∷ 1 ∷ 0 ∷ 0x01 ∷ []

abbrev calls : (status count a : ℕ) → List ℕ
calls status count a = 0x90 ∷ 4 ∷ 0 ∷ status ∷ count ∷ 0 ∷ a ∷ []

abbrev heard : List (List ℕ) → List ℕ → List ℕ → Heard
heard replies cursor cells = record { replies = replies; cursor = cursor; cells = cells }

abbrev opened : List (List ℕ)
opened = loads ∷ calls 0x01 0 0 ∷ []

abbrev blank : List ℕ
blank = 0x20 ∷ 0x20 ∷ 0x20 ∷ []

abbrev ab : List ℕ
ab = 0x20 ∷ 0x41 ∷ 0x42 ∷ []

-- 1, 2, 3 ($86), 4 ($85), 5 (passes, $B0); 6: cells, cursor (1,2), count 2; 7: n 10, 3 and 2; 8: $41, $88, $61; 9 and 10: $01, $88;
-- 11: cell 1
pub cases : map fresh scripts ≡
    heard (opened ++ (calls 0x86 0 0 ∷ calls 0x85 0 7 ∷ calls 0x01 1 0 ∷ calls 0xB0 0 0 ∷ [])) (0 ∷ 3 ∷ []) (0x20 ∷ 0 ∷ 0x20 ∷ []) ∷
    heard (opened ++ (loads ∷ calls 0x01 2 0 ∷ [])) (1 ∷ 2 ∷ []) ab ∷
    heard (opened ++ (loads ∷ calls 0x01 2 0 ∷ calls 0x01 1 0 ∷ calls 0x01 3 0 ∷ (0x92 ∷ 4 ∷ 0 ∷ 0x01 ∷ 0x41 ∷ 0x42 ∷ 0x9B ∷ []) ∷ [])) (1 ∷ 2 ∷ []) ab ∷
    heard (opened ++ (loads ∷ calls 0x01 2 0 ∷ calls 0x01 1 0 ∷ calls 0x01 3 0 ∷ (0x92 ∷ 4 ∷ 0 ∷ 0x01 ∷ 0x41 ∷ 0x42 ∷ 0x9B ∷ []) ∷ [])) (1 ∷ 2 ∷ []) ab ∷
    heard (opened ++ (loads ∷ calls 0x01 2 0 ∷ calls 0x01 1 0 ∷ calls 0x89 2 0 ∷ (0x92 ∷ 4 ∷ 0 ∷ 0x01 ∷ 0x41 ∷ 0x42 ∷ 0x00 ∷ []) ∷ [])) (1 ∷ 2 ∷ []) ab ∷
    heard (opened ++ (calls 0x01 0 0x41 ∷ calls 0x88 0 0 ∷ calls 0x01 0 0x61 ∷ [])) (0 ∷ 2 ∷ []) blank ∷
    heard (opened ++ (calls 0x01 0 0x01 ∷ calls 0x88 0 0 ∷ [])) (0 ∷ 2 ∷ []) blank ∷
    heard (opened ++ (calls 0x01 0 5 ∷ [])) (0 ∷ 1 ∷ []) (1 ∷ 0 ∷ 0 ∷ []) ∷ []
unfolding modes row_of shape_of count_of cell_of with_cell filled reduced scrolled keys.keys keys_to.entry_of keys_to.key_answer keys_to.translate_of keyboard.obeyed keyboard.struck_by keyboard.get_of controls_acts.plain_of controls_acts.act_of editor.new_row editor.open_of controls.less_of controls.more_of controls.clear_of controls.back_of controls.onward controls.data_of controls.doing controls.put_of editor_get.cells_held editor_get.end_of editor_get.get_at editor_get.get_of graphics.onward graphics.cells_opened graphics.open_of graphics.get_of graphics.clear_of graphics.data_of graphics.put_of open_e open_s open_of prepare_e prepare_s prepare_of read_e read_s read_k read_of write_e write_s write_of device_of number_of named_of specification_of offers_of bytes_at fetch_status fetch_reply command_of way_of area_plan transfer_plan block_plan name_of named_for call_plan plan_in plan_of load_status get_one put_one get_characters drop_line get_record put_characters put_record getting putting transferred left_e left_s left_k console_left then_of opened_of alone_opening alone_transfer alone_work loaded alone_errand alone_plan alone_of
cases = refl
