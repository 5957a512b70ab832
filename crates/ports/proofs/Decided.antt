-- Each promise of this crate decides: two outcomes that it allows are equal, and it allows one.
-- Assumes nothing.
use mathlib.Core.Path.{refl, sym, ◌∙◌, ap}
use mathlib.Core.List.{List}
use Prim.Native.Nat.{ℕ}
use Rattle.base.specs.Decides.{Decides, Allows}
use Rattle.ports.proofs.phase_of.Kinds as phase_of_kinds
use Rattle.ports.proofs.phase_of.Reads as phase_of_reads
use Rattle.ports.proofs.set_phase.Kinds as set_phase_kinds
use Rattle.ports.proofs.set_phase.Reads as set_phase_reads
use Rattle.ports.proofs.set_gather.Kinds as set_gather_kinds
use Rattle.ports.proofs.set_gather.Reads as set_gather_reads
use Rattle.ports.proofs.set_run.Kinds as set_run_kinds
use Rattle.ports.proofs.set_run.Reads as set_run_reads
use Rattle.ports.proofs.block_of.Kinds as block_of_kinds
use Rattle.ports.proofs.block_of.Reads as block_of_reads
use Rattle.ports.proofs.set_block.Kinds as set_block_kinds
use Rattle.ports.proofs.set_block.Reads as set_block_reads
use Rattle.ports.proofs.set_port.Kinds as set_port_kinds
use Rattle.ports.proofs.set_port.Reads as set_port_reads

pub phase_of_decides : Decides phase_of_kinds.ps phase_of_kinds.r phase_of_reads.Pre phase_of_reads.Learnt
phase_of_decides κs a z z' ws ws' p e e' = (e ∙ sym e', refl)

pub phase_of_allows : Allows phase_of_kinds.ps phase_of_kinds.r phase_of_reads.Pre phase_of_reads.Learnt
phase_of_allows κs a p = (_, (_, refl))

pub set_phase_decides : Decides set_phase_kinds.ps set_phase_kinds.r set_phase_reads.Pre set_phase_reads.Learnt
set_phase_decides κs a z z' ws ws' p e e' = (refl, ap (λ (l : List ℕ). (tt, (tt, (l, tt)))) (e ∙ sym e'))

pub set_phase_allows : Allows set_phase_kinds.ps set_phase_kinds.r set_phase_reads.Pre set_phase_reads.Learnt
set_phase_allows κs a p = (_, (_, refl))

pub set_gather_decides : Decides set_gather_kinds.ps set_gather_kinds.r set_gather_reads.Pre set_gather_reads.Learnt
set_gather_decides κs a z z' ws ws' p e e' = (refl, ap (λ (l : List ℕ). (tt, (tt, (l, tt)))) (e ∙ sym e'))

pub set_gather_allows : Allows set_gather_kinds.ps set_gather_kinds.r set_gather_reads.Pre set_gather_reads.Learnt
set_gather_allows κs a p = (_, (_, refl))

pub set_run_decides : Decides set_run_kinds.ps set_run_kinds.r set_run_reads.Pre set_run_reads.Learnt
set_run_decides κs a z z' ws ws' p e e' = (refl, ap (λ (l : List ℕ). (tt, (tt, (l, tt)))) (e ∙ sym e'))

pub set_run_allows : Allows set_run_kinds.ps set_run_kinds.r set_run_reads.Pre set_run_reads.Learnt
set_run_allows κs a p = (_, (_, refl))

pub block_of_decides : Decides block_of_kinds.ps block_of_kinds.r block_of_reads.Pre block_of_reads.Learnt
block_of_decides κs a z z' ws ws' p e e' = (e ∙ sym e', refl)

pub block_of_allows : Allows block_of_kinds.ps block_of_kinds.r block_of_reads.Pre block_of_reads.Learnt
block_of_allows κs a p = (_, (_, refl))

pub set_block_decides : Decides set_block_kinds.ps set_block_kinds.r set_block_reads.Pre set_block_reads.Learnt
set_block_decides κs a z z' ws ws' p e e' = (refl, ap (λ (l : List ℕ). (tt, (tt, (tt, (l, tt))))) (e ∙ sym e'))

pub set_block_allows : Allows set_block_kinds.ps set_block_kinds.r set_block_reads.Pre set_block_reads.Learnt
set_block_allows κs a p = (_, (_, refl))

pub set_port_decides : Decides set_port_kinds.ps set_port_kinds.r set_port_reads.Pre set_port_reads.Learnt
set_port_decides κs a z z' ws ws' p e e' = (refl, ap (λ (l : List ℕ). (tt, (tt, (l, tt)))) (e ∙ sym e'))

pub set_port_allows : Allows set_port_kinds.ps set_port_kinds.r set_port_reads.Pre set_port_reads.Learnt
set_port_allows κs a p = (_, (_, refl))
