-- `put` meets its contract, by `drawn`, `put_clear`, `put_past`, `put_row` and `put_data`.
-- Assumes nothing.
use Rattle.graphics.proofs.Acts.{drawn, put_clear, put_past, put_row, put_data}
use Rattle.graphics.proofs.Graphics.put.Goals as goal

pub returns-then-byte-eq125 : goal.returns-then-byte-eq125
returns-then-byte-eq125 c = search put_clear

pub returns-then-shape-self : goal.returns-then-shape-self
returns-then-shape-self c = search put_past

pub returns-then-byte-eq155 : goal.returns-then-byte-eq155
returns-then-byte-eq155 c = search put_row

pub data_byte-requires : goal.data_byte-requires
data_byte-requires c = search drawn

pub returns : goal.returns
returns c = search put_data
