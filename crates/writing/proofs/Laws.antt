-- What each function that writes leaves is what its definition says.
-- Assumes nothing.
use mathlib.Core.Path.{◌≡◌, ◌∙◌, refl, ap}
use mathlib.Core.List.{List, ◌++◌}
use Prim.Native.Nat.{ℕ, zero, suc, ◌+◌, ◌-◌, ◌*◌}
use native.Mathlib.Nat.{add-zero, add-suc, suc-add}
use native.Mathlib.Numerals.{add-one}
use native.Mathlib.Omega.{arith}
use lib.ListN.{length, take, drop}
use lib.Seq.{sets}
use Rattle.base.specs.Parts.{part}
use Rattle.base.proofs.Parts.{sets_more, lent_first}
use Rattle.blocks.specs.declared.Table.{Table}
use Rattle.blocks.specs.declared.Port.{Port}
use Rattle.blocks.specs.Blocks.{block_at}
use Rattle.layout.specs.Places.{phase_length, block_length, table_length, port_length}
use Rattle.layout.specs.Layout.{block_bytes, blocks_bytes, table_bytes, phase_bytes, port_bytes}
use Rattle.layout.proofs.Lengths.{phase_length_lem, blocks_length, table_length_lem}

-- a turn of the loop over the blocks
module _ (t : Table) where
  blocks_more : (from n : ℕ) → blocks_bytes t from (suc n) ≡ blocks_bytes t from n ++ block_bytes (block_at t (from + n))
  unfolding blocks_bytes
  blocks_more from zero = rw (add-zero from)
  blocks_more from (suc n) = ap (λ (l : List ℕ). block_bytes (block_at t from) ++ l) (blocks_more (suc from) n ∙ rw (suc-add from n, ← add-suc from n))

  pub table_none : (l : List ℕ) → l ≡ sets l 0 (blocks_bytes t 0 0)
  unfolding blocks_bytes
  table_none l = refl

  pub table_turn : (l₀ l next : List ℕ) (i : ℕ) → l ≡ sets l₀ 0 (blocks_bytes t 0 i) → next ≡ sets l (block_length * i) (block_bytes (block_at t i)) → next ≡ sets l₀ 0 (blocks_bytes t 0 (i + 1))
  table_turn l₀ l next i e f =
      let n : block_length * i ≡ 0 + length (blocks_bytes t 0 i) = omega (arith, blocks_length t 0 i) in
      let k : 0 + i ≡ i = omega arith in
      f ∙ rw (e, n, sets_more l₀ (blocks_bytes t 0 i) (block_bytes (block_at t i)) 0, add-one, blocks_more 0 i, k)

-- the phase, then, through the part behind it, the table
pub port_written : (l l1 own : List ℕ) (p : Port) → l1 ≡ sets l 0 (phase_bytes p.phase) → own ≡ sets (part phase_length (port_length - phase_length) l1) 0 (table_bytes p.table)
    → take phase_length l1 ++ (own ++ drop (port_length - phase_length) (drop phase_length l1)) ≡ sets l 0 (port_bytes p)
unfolding port_bytes
port_written l l1 own p e f =
    let phase = phase_bytes p.phase in
    let table = table_bytes p.table in
    let k : phase_length ≡ 0 + length phase = omega (arith, phase_length_lem p.phase) in
    lent_first phase_length table_length table own l1 (omega (arith, table_length_lem p.table)) f ∙ rw (e, k) (sets_more l phase table 0)
