-- What each function reads and leaves of a port's own parts is what its definition says.
-- Assumes nothing.
use mathlib.Core.Path.{◌≡◌, ◌∙◌, sym, ap}
use mathlib.Core.List.{List, ◌++◌}
use Prim.Native.Nat.{ℕ, ◌+◌, ◌-◌, ◌*◌, ◌≤◌, ◌<◌}
use native.Mathlib.Nat.{add_assoc, add-zero}
use native.Mathlib.Omega.{arith}
use borrow.Author.Tests.{lt-ltb, le-ltb}
use lib.Dec.{ltb}
use lib.ListN.{length, get_or, take, drop}
use lib.Seq.{sets, get_or-drop}
use Rattle.base.specs.Choice.{pick}
use Rattle.base.specs.Parts.{part}
use Rattle.base.proofs.Lists.{part_tail}
use Rattle.base.proofs.Parts.{lent_first}
use Rattle.blocks.specs.declared.ControlBlock.{ControlBlock}
use Rattle.blocks.specs.declared.Phase.{Phase}
use Rattle.blocks.specs.declared.Port.{Port}
use Rattle.blocks.specs.Blocks.{closed_block, block_at}
use Rattle.layout.specs.Places.{phase_length, block_length, port_length}
use Rattle.layout.specs.Layout.{block_bytes, phase_bytes, port_bytes, block_in, table_in, phase_in}
use Rattle.layout.proofs.Lengths.{phase_length_lem, port_length_lem}
use Rattle.layout.proofs.Tables.{block_there, block_past}

-- a port's phase, and the block of an IOCB in its table
pub phase_read : (p : ℕ) (xs : List ℕ) (r : Phase) → r ≡ phase_in (take (length xs - p) (drop p xs)) → r ≡ phase_in (drop p xs)
phase_read p xs r e = e ∙ ap phase_in (part_tail p xs)

module _ (p iocb : ℕ) (xs : List ℕ) where
  pub block_read : (place : ℕ) (r : ControlBlock) → iocb < 8 → place ≡ p + block_length * iocb → r ≡ block_in xs place → r ≡ block_at (table_in (drop p xs)) iocb
  block_read place r h q e =
      let i = block_length * iocb in
      e ∙ rw (q, add_assoc p i 1, add_assoc p i 2, ← get_or-drop p xs i 0, ← get_or-drop p xs (i + 1) 0, ← get_or-drop p xs (i + 2) 0) (sym (block_there (drop p xs) iocb h))

  pub block_none : 8 ≤ iocb → closed_block ≡ block_at (table_in (drop p xs)) iocb
  block_none h = sym (block_past (drop p xs) iocb h)

-- a port's phase, a whole port, and the block of an IOCB, each in its place
module _ (p : ℕ) (l own : List ℕ) where
  pub phase_stored : (phase : Phase) → own ≡ sets (part p (p + phase_length - p) l) 0 (phase_bytes phase) → take p l ++ (own ++ drop (p + phase_length - p) (drop p l)) ≡ sets l p (phase_bytes phase)
  phase_stored phase e = lent_first p phase_length (phase_bytes phase) own l (omega (arith, phase_length_lem phase)) e

  pub port_stored : (whole : Port) → own ≡ sets (part p (p + port_length - p) l) 0 (port_bytes whole) → take p l ++ (own ++ drop (p + port_length - p) (drop p l)) ≡ sets l p (port_bytes whole)
  port_stored whole e = lent_first p port_length (port_bytes whole) own l (omega (arith, port_length_lem whole)) e

module _ (iocb place : ℕ) (block : ControlBlock) (l : List ℕ) where
  pub block_stored : (there : ℕ) (next : List ℕ) → iocb < 8 → there ≡ place → next ≡ sets l there (block_bytes block) → next ≡ pick (ltb iocb 8) (sets l place (block_bytes block)) l
  block_stored there next h q e = rw (lt-ltb iocb 8 h, ← q) e

  pub block_kept : 8 ≤ iocb → l ≡ pick (ltb iocb 8) (sets l place (block_bytes block)) l
  block_kept h = rw (le-ltb iocb 8 h)
