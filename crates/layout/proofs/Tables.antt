-- A table's blocks in its bytes: the block of an IOCB stands at its place, and a block stored there is the table with that block.
-- Assumes nothing.
use mathlib.Core.Path.{◌≡◌, ◌∙◌, refl, sym, ap}
use mathlib.Core.List.{List}
use Prim.Native.Nat.{ℕ, zero, suc, ◌+◌, ◌*◌, ◌≤◌, ◌<◌}
use native.Mathlib.Nat.{add-zero, zero-add}
use native.Mathlib.Omega.{arith}
use lib.ListN.{length, get_or, get_or-eq_default}
use lib.Seq.{sets, get_or-set_same, get_or-set_other}
use Rattle.base.proofs.Parts.{cat}
use Rattle.blocks.specs.declared.ControlBlock.{ControlBlock}
use Rattle.blocks.specs.declared.Table.{Table}
use Rattle.blocks.specs.Blocks.{closed_block, block_at, with_block}
use Rattle.layout.specs.Places.{block_length}
use Rattle.layout.specs.Layout.{block_bytes, blocks_bytes, table_bytes, block_in, blocks_in, table_in}

module _ (b : List ℕ) where
  pub blocks_count : (place n : ℕ) → length (blocks_in b place n) ≡ n
  unfolding blocks_in
  blocks_count place zero = refl
  blocks_count place (suc n) = ap suc (blocks_count (place + block_length) n)

  blocks_at : (place n i : ℕ) → i < n → get_or (blocks_in b place n) i closed_block ≡ block_in b (place + block_length * i)
  unfolding blocks_in
  blocks_at place zero i h = absurd (omega arith)
  blocks_at place (suc n) zero h = ap (block_in b) (sym (add-zero place))
  blocks_at place (suc n) (suc i) h =
      let e : place + block_length + block_length * i ≡ place + block_length * suc i = omega arith in
      blocks_at (place + block_length) n i (omega arith) ∙ ap (block_in b) e

  pub block_there : (i : ℕ) → i < 8 → block_at (table_in b) i ≡ block_in b (block_length * i)
  block_there i h = blocks_at 0 8 i h ∙ ap (block_in b) (zero-add (block_length * i))

  pub block_past : (i : ℕ) → 8 ≤ i → block_at (table_in b) i ≡ closed_block
  block_past i h = get_or-eq_default (table_in b).blocks closed_block (omega (arith, blocks_count 0 8))

module _ (t : Table) (block : ControlBlock) where
  -- the blocks behind a stored one are as they were
  blocks_kept : (from n i : ℕ) → i < from → blocks_bytes (with_block t i block) from n ≡ blocks_bytes t from n
  unfolding blocks_bytes
  blocks_kept from zero i h = refl
  blocks_kept from (suc n) i h = cat (ap block_bytes (get_or-set_other t.blocks i from block closed_block (λ e. omega arith))) (blocks_kept (suc from) n i (omega arith))

  blocks_stored : (from n i : ℕ) → i < n → from + n ≤ length t.blocks → blocks_bytes (with_block t (from + i) block) from n ≡ sets (blocks_bytes t from n) (block_length * i) (block_bytes block)
  unfolding blocks_bytes
  blocks_stored from zero i h l = absurd (omega arith)
  blocks_stored from (suc n) zero h l =
      let low : from < length t.blocks = omega arith in
      ap (λ (k : ℕ). blocks_bytes (with_block t k block) from (suc n)) (add-zero from)
      ∙ rw (get_or-set_same t.blocks from block closed_block low, blocks_kept (suc from) n from (omega arith))
  blocks_stored from (suc n) (suc i) h l =
      let e : block_length * suc i ≡ suc (suc (suc (block_length * i))) = omega arith in
      let m : suc from + n ≤ length t.blocks = omega arith in
      let o : from + suc i ≡ suc from + i = omega arith in
      ap (λ (k : ℕ). blocks_bytes (with_block t k block) from (suc n)) o
      ∙ rw e (cat (ap block_bytes (get_or-set_other t.blocks (suc from + i) from block closed_block (λ z. omega arith))) (blocks_stored (suc from) n i (omega arith) m))

  pub table_stored : (i : ℕ) → i < 8 → length t.blocks ≡ 8 → table_bytes (with_block t i block) ≡ sets (table_bytes t) (block_length * i) (block_bytes block)
  table_stored i h l = ap (λ (k : ℕ). table_bytes (with_block t k block)) (sym (zero-add i)) ∙ blocks_stored 0 8 i h (omega arith)
