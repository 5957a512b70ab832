-- Each promise of this crate decides, and allows an outcome.
-- Assumes nothing.
use mathlib.Core.Path.{refl, sym, ap, ◌∙◌}
use mathlib.Core.List.{List}
use Prim.Native.Nat.{ℕ}
use Rattle.base.specs.Decides.{Decides, Allows}
use Rattle.image.proofs.sector_byte.Kinds as sector_byte_kinds
use Rattle.image.proofs.sector_byte.Reads as sector_byte_reads
use Rattle.image.proofs.set_sector_byte.Kinds as set_sector_byte_kinds
use Rattle.image.proofs.set_sector_byte.Reads as set_sector_byte_reads
use Rattle.image.proofs.entry_byte.Kinds as entry_byte_kinds
use Rattle.image.proofs.entry_byte.Reads as entry_byte_reads
use Rattle.image.proofs.flag.Kinds as flag_kinds
use Rattle.image.proofs.flag.Reads as flag_reads
use Rattle.image.proofs.in_use.Kinds as in_use_kinds
use Rattle.image.proofs.in_use.Reads as in_use_reads
use Rattle.image.proofs.is_locked.Kinds as is_locked_kinds
use Rattle.image.proofs.is_locked.Reads as is_locked_reads
use Rattle.image.proofs.first.Kinds as first_kinds
use Rattle.image.proofs.first.Reads as first_reads
use Rattle.image.proofs.count.Kinds as count_kinds
use Rattle.image.proofs.count.Reads as count_reads
use Rattle.image.proofs.find.Kinds as find_kinds
use Rattle.image.proofs.find.Reads as find_reads
use Rattle.image.proofs.sector_of.Kinds as sector_of_kinds
use Rattle.image.proofs.sector_of.Reads as sector_of_reads
use Rattle.image.proofs.stand_of.Kinds as stand_of_kinds
use Rattle.image.proofs.stand_of.Reads as stand_of_reads

pub sector_byte_decides : Decides sector_byte_kinds.ps sector_byte_kinds.r sector_byte_reads.Pre sector_byte_reads.Learnt
sector_byte_decides κs a z z' ws ws' p e e' = (e ∙ sym e', refl)

pub sector_byte_allows : Allows sector_byte_kinds.ps sector_byte_kinds.r sector_byte_reads.Pre sector_byte_reads.Learnt
sector_byte_allows κs a p = (_, (_, refl))

pub set_sector_byte_decides : Decides set_sector_byte_kinds.ps set_sector_byte_kinds.r set_sector_byte_reads.Pre set_sector_byte_reads.Learnt
set_sector_byte_decides κs a z z' ws ws' p e e' = (refl, ap (λ (l : List ℕ). (l, (tt, (tt, (tt, (tt, tt)))))) (e ∙ sym e'))

pub set_sector_byte_allows : Allows set_sector_byte_kinds.ps set_sector_byte_kinds.r set_sector_byte_reads.Pre set_sector_byte_reads.Learnt
set_sector_byte_allows κs a p = (_, (_, refl))

pub entry_byte_decides : Decides entry_byte_kinds.ps entry_byte_kinds.r entry_byte_reads.Pre entry_byte_reads.Learnt
entry_byte_decides κs a z z' ws ws' p e e' = (e ∙ sym e', refl)

pub entry_byte_allows : Allows entry_byte_kinds.ps entry_byte_kinds.r entry_byte_reads.Pre entry_byte_reads.Learnt
entry_byte_allows κs a p = (_, (_, refl))

pub flag_decides : Decides flag_kinds.ps flag_kinds.r flag_reads.Pre flag_reads.Learnt
flag_decides κs a z z' ws ws' p e e' = (e ∙ sym e', refl)

pub flag_allows : Allows flag_kinds.ps flag_kinds.r flag_reads.Pre flag_reads.Learnt
flag_allows κs a p = (_, (_, refl))

pub in_use_decides : Decides in_use_kinds.ps in_use_kinds.r in_use_reads.Pre in_use_reads.Learnt
in_use_decides κs a z z' ws ws' p e e' = (e ∙ sym e', refl)

pub in_use_allows : Allows in_use_kinds.ps in_use_kinds.r in_use_reads.Pre in_use_reads.Learnt
in_use_allows κs a p = (_, (_, refl))

pub is_locked_decides : Decides is_locked_kinds.ps is_locked_kinds.r is_locked_reads.Pre is_locked_reads.Learnt
is_locked_decides κs a z z' ws ws' p e e' = (e ∙ sym e', refl)

pub is_locked_allows : Allows is_locked_kinds.ps is_locked_kinds.r is_locked_reads.Pre is_locked_reads.Learnt
is_locked_allows κs a p = (_, (_, refl))

pub first_decides : Decides first_kinds.ps first_kinds.r first_reads.Pre first_reads.Learnt
first_decides κs a z z' ws ws' p e e' = (e ∙ sym e', refl)

pub first_allows : Allows first_kinds.ps first_kinds.r first_reads.Pre first_reads.Learnt
first_allows κs a p = (_, (_, refl))

pub count_decides : Decides count_kinds.ps count_kinds.r count_reads.Pre count_reads.Learnt
count_decides κs a z z' ws ws' p e e' = (e ∙ sym e', refl)

pub count_allows : Allows count_kinds.ps count_kinds.r count_reads.Pre count_reads.Learnt
count_allows κs a p = (_, (_, refl))

pub find_decides : Decides find_kinds.ps find_kinds.r find_reads.Pre find_reads.Learnt
find_decides κs a z z' ws ws' p e e' = (e ∙ sym e', refl)

pub find_allows : Allows find_kinds.ps find_kinds.r find_reads.Pre find_reads.Learnt
find_allows κs a p = (_, (_, refl))

pub sector_of_decides : Decides sector_of_kinds.ps sector_of_kinds.r sector_of_reads.Pre sector_of_reads.Learnt
sector_of_decides κs a z z' ws ws' p e e' = (e ∙ sym e', refl)

pub sector_of_allows : Allows sector_of_kinds.ps sector_of_kinds.r sector_of_reads.Pre sector_of_reads.Learnt
sector_of_allows κs a p = (_, (_, refl))

pub stand_of_decides : Decides stand_of_kinds.ps stand_of_kinds.r stand_of_reads.Pre stand_of_reads.Learnt
stand_of_decides κs a z z' ws ws' p e e' = (e ∙ sym e', refl)

pub stand_of_allows : Allows stand_of_kinds.ps stand_of_kinds.r stand_of_reads.Pre stand_of_reads.Learnt
stand_of_allows κs a p = (_, (_, refl))
