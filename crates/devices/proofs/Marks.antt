-- What is known of the blocks that have C open: each has a mark, and what another block in a table makes of them.
-- Assumes nothing.
use mathlib.Core.Path.{◌≡◌}
use mathlib.Core.List.{List, [], ◌∷◌}
use Prim.Native.Nat.{ℕ, zero, suc, ◌+◌, ◌*◌, ◌≤◌, ◌<◌}
use native.Mathlib.Omega.{arith}
use lib.ListN.{length, get_or, set}
use Rattle.base.specs.Choice.{bit}
use Rattle.base.proofs.Choices.{pick_go}
use Rattle.blocks.specs.declared.Device.{Device}
use Rattle.blocks.specs.declared.Device.TheVariants.{E, S, K, P, C, D}
use Rattle.blocks.specs.declared.BlockState.{BlockState}
use Rattle.blocks.specs.declared.BlockState.TheVariants as block
use Rattle.blocks.specs.declared.ControlBlock.{ControlBlock}
use Rattle.blocks.specs.Blocks.{closed_block}
use Rattle.cassette.specs.Cassette.{mark_of}
use Rattle.devices.specs.Marks.{tape_on, tape_at, mark_on, mark_at, tapes_in, marks_in}

pub mark_low : (aux1 : ℕ) → 1 ≤ mark_of aux1
mark_low aux1 = pick_go (λ (n : ℕ). 1 ≤ n) (bit 4 aux1) _ _ (λ t. omega arith) (λ t. pick_go (λ (n : ℕ). 1 ≤ n) (bit 8 aux1) _ _ (λ u. omega arith) (λ u. omega arith))

pub mark_high : (aux1 : ℕ) → mark_of aux1 ≤ 3
mark_high aux1 = pick_go (λ (n : ℕ). n ≤ 3) (bit 4 aux1) _ _ (λ t. omega arith) (λ t. pick_go (λ (n : ℕ). n ≤ 3) (bit 8 aux1) _ _ (λ u. omega arith) (λ u. omega arith))

-- a block has a mark where it has C open, and at most 3
on_low : (device : Device) (aux1 : ℕ) → tape_on device ≤ mark_on device aux1
on_low E aux1 = omega arith
on_low S aux1 = omega arith
on_low K aux1 = omega arith
on_low P aux1 = omega arith
on_low C aux1 = mark_low aux1
on_low D aux1 = omega arith

at_low : (s : BlockState) → tape_at s ≤ mark_at s
at_low block.Closed = omega arith
at_low (block.Open device number aux1) = on_low device aux1

on_high : (device : Device) (aux1 : ℕ) → mark_on device aux1 ≤ 3 * tape_on device
on_high E aux1 = omega arith
on_high S aux1 = omega arith
on_high K aux1 = omega arith
on_high P aux1 = omega arith
on_high C aux1 = mark_high aux1
on_high D aux1 = omega arith

at_high : (s : BlockState) → mark_at s ≤ 3 * tape_at s
at_high block.Closed = omega arith
at_high (block.Open device number aux1) = on_high device aux1

pub marks_low : (bs : List ControlBlock) → tapes_in bs ≤ marks_in bs
marks_low [] = omega arith
marks_low (b ∷ bs) = omega (arith, at_low b.state, marks_low bs)

pub marks_high : (bs : List ControlBlock) → marks_in bs ≤ 3 * tapes_in bs
marks_high [] = omega arith
marks_high (b ∷ bs) = omega (arith, at_high b.state, marks_high bs)

-- a block set in the place of another
pub tapes_set : (bs : List ControlBlock) (i : ℕ) (b : ControlBlock) → i < length bs → tapes_in (set bs i b) + tape_at (get_or bs i closed_block).state ≡ tapes_in bs + tape_at b.state
tapes_set [] i b h = absurd (omega arith)
tapes_set (c ∷ bs) zero b h = omega arith
tapes_set (c ∷ bs) (suc i) b h = omega (arith, tapes_set bs i b (omega arith))

pub marks_set : (bs : List ControlBlock) (i : ℕ) (b : ControlBlock) → i < length bs → marks_in (set bs i b) + mark_at (get_or bs i closed_block).state ≡ marks_in bs + mark_at b.state
marks_set [] i b h = absurd (omega arith)
marks_set (c ∷ bs) zero b h = omega arith
marks_set (c ∷ bs) (suc i) b h = omega (arith, marks_set bs i b (omega arith))
