-- A dispatcher: each arm by the law of its act.
use Rattle.controls.proofs.Puts.{do_escape, do_up, do_down, do_left, do_right, do_clear, do_back, do_new_row, do_nothing, do_data}
use Rattle.controls.proofs.perform.Goals as goal

pub returns-in-Escape : goal.returns-in-Escape
returns-in-Escape c = search do_escape

pub returns-in-Up : goal.returns-in-Up
returns-in-Up c = search do_up

pub returns-in-Down : goal.returns-in-Down
returns-in-Down c = search do_down

pub returns-in-Left : goal.returns-in-Left
returns-in-Left c = search do_left

pub returns-in-Right : goal.returns-in-Right
returns-in-Right c = search do_right

pub returns-in-Clear : goal.returns-in-Clear
returns-in-Clear c = search do_clear

pub returns-in-Back : goal.returns-in-Back
returns-in-Back c = search do_back

pub returns-in-NewRow : goal.returns-in-NewRow
returns-in-NewRow c = search do_new_row

pub returns-in-Nothing : goal.returns-in-Nothing
returns-in-Nothing c = search do_nothing

pub returns-in-Data : goal.returns-in-Data
returns-in-Data c = search do_data
