-- Document 02, Ask 1: "while any block of either port has C open, another open is $81": which blocks have C open, and how, by their
-- AUX1. The cassette itself has a mark of it, and the two are at one.
-- Assumes nothing.
use Rattle.std.specs.Prelude.{Bool, List, [], ◌∷◌, ℕ, ◌+◌, eqb, leb}
use Rattle.base.specs.Choice.{and}
use Rattle.blocks.specs.declared.Device.{Device}
use Rattle.blocks.specs.declared.Device.TheVariants.{E, S, K, P, C, D}
use Rattle.blocks.specs.declared.BlockState.{BlockState}
use Rattle.blocks.specs.declared.BlockState.TheVariants as block
use Rattle.blocks.specs.declared.ControlBlock.{ControlBlock}
use Rattle.blocks.specs.declared.Table.{Table}
use Rattle.cassette.specs.Cassette.{mark_of}

-- 1 for a block that has C open, 0 for any other
abbrev pub tape_on : Device → ℕ
tape_on E = 0
tape_on S = 0
tape_on K = 0
tape_on P = 0
tape_on C = 1
tape_on D = 0

abbrev pub tape_at : BlockState → ℕ
tape_at block.Closed = 0
tape_at (block.Open device number aux1) = tape_on device

-- how such a block has it open, 0 for any other
abbrev pub mark_on : Device → (aux1 : ℕ) → ℕ
mark_on E aux1 = 0
mark_on S aux1 = 0
mark_on K aux1 = 0
mark_on P aux1 = 0
mark_on C aux1 = mark_of aux1
mark_on D aux1 = 0

abbrev pub mark_at : BlockState → ℕ
mark_at block.Closed = 0
mark_at (block.Open device number aux1) = mark_on device aux1

-- the same of all blocks together
abbrev pub tapes_in : List ControlBlock → ℕ
tapes_in [] = 0
tapes_in (b ∷ bs) = tape_at b.state + tapes_in bs

abbrev pub marks_in : List ControlBlock → ℕ
marks_in [] = 0
marks_in (b ∷ bs) = mark_at b.state + marks_in bs

-- "Damaged: two open C blocks in all; the group's mark and the blocks at odds"
unfoldable pub marks_fit : (mark : ℕ) → Table → Table → Bool
marks_fit mark t u = and (leb (tapes_in t.blocks + tapes_in u.blocks) 1) (eqb (marks_in t.blocks + marks_in u.blocks) mark)
