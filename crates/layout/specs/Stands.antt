-- Whether bytes stand for a stick: each has a value that the stick's types can hold and give back, and those of a port or a block that
-- are unused are 0. Ranges that the types do not have, as of a mode, a row or a block's number, are judged of the stick: whether it is damaged.
-- Assumes nothing.
use Rattle.std.specs.Prelude.{Bool, true, false, List, ℕ, zero, suc, ◌+◌, eqb, ltb, drop}
use Rattle.base.specs.Choice.{pick, and, within}
use Rattle.layout.specs.Places.{phase_length, block_length, devices_place, console_place, port_place}
use Rattle.layout.specs.Layout.{byte_at}

-- a closed block is 0 0 0, an open one has a device, 1 to 6
unfoldable pub block_stands : (device number aux1 : ℕ) → Bool
block_stands device number aux1 = pick (eqb device 0) (and (eqb number 0) (eqb aux1 0)) (ltb device 7)

abbrev pub block_stands_in : List ℕ → ℕ → Bool
block_stands_in bytes place = block_stands (byte_at bytes place) (byte_at bytes (place + 1)) (byte_at bytes (place + 2))

-- the next `count` blocks, from this place on, and a table's eight
unfoldable pub blocks_stand : List ℕ → (place count : ℕ) → Bool
blocks_stand bytes place zero = true
blocks_stand bytes place (suc count) = and (block_stands_in bytes place) (blocks_stand bytes (place + block_length) count)

abbrev pub table_stands : List ℕ → Bool
table_stands b = blocks_stand b 0 8

-- four bytes that are not used
unfoldable pub unused : (a b c d : ℕ) → Bool
unused a b c d = and (eqb a 0) (and (eqb b 0) (and (eqb c 0) (eqb d 0)))

-- the last four bytes of a phase
abbrev pub rest_unused : List ℕ → Bool
rest_unused b = unused (byte_at b 7) (byte_at b 8) (byte_at b 9) (byte_at b 10)

-- a running request's kind is 0 to 5, its device 1 to 6
unfoldable pub run_stands : (kind device : ℕ) → Bool
run_stands kind device = and (ltb kind 6) (within 1 6 device)

-- a gathering port uses six of the ten bytes of numbers, a ready one three, a running one all, a replying one four
unfoldable pub phase_stands : List ℕ → Bool
phase_stands b =
    pick (eqb (byte_at b 0) 0) (rest_unused b)
    (pick (eqb (byte_at b 0) 1) (and (unused 0 (byte_at b 4) (byte_at b 5) (byte_at b 6)) (rest_unused b))
    (pick (eqb (byte_at b 0) 2) (run_stands (byte_at b 1) (byte_at b 2))
    (pick (eqb (byte_at b 0) 3) (and (unused 0 0 (byte_at b 5) (byte_at b 6)) (rest_unused b))
    false)))

unfoldable pub port_stands : List ℕ → Bool
port_stands b = and (phase_stands b) (table_stands (drop phase_length b))

-- escape is 0 or 1
abbrev pub console_stands : List ℕ → Bool
console_stands b = ltb (byte_at b 5) 2

unfoldable pub stands : List ℕ → Bool
stands b =
    and (port_stands (drop (port_place 0) b))
    (and (port_stands (drop (port_place 1) b))
    (console_stands (drop console_place (drop devices_place b))))
