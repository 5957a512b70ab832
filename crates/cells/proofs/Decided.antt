-- Each promise of this crate decides: two outcomes that it allows are equal, and it allows one.
-- Assumes nothing.
use mathlib.Core.Path.{refl, sym, ◌∙◌, ap}
use mathlib.Core.List.{List}
use Prim.Native.Nat.{ℕ}
use Rattle.base.specs.Decides.{Decides, Allows}
use Rattle.cells.proofs.is_mode.Kinds as is_mode_kinds
use Rattle.cells.proofs.is_mode.Reads as is_mode_reads
use Rattle.cells.proofs.shape_of.Kinds as shape_of_kinds
use Rattle.cells.proofs.shape_of.Reads as shape_of_reads
use Rattle.cells.proofs.count.Kinds as count_kinds
use Rattle.cells.proofs.count.Reads as count_reads
use Rattle.cells.proofs.place.Kinds as place_kinds
use Rattle.cells.proofs.place.Reads as place_reads
use Rattle.cells.proofs.read.Kinds as read_kinds
use Rattle.cells.proofs.read.Reads as read_reads
use Rattle.cells.proofs.write.Kinds as write_kinds
use Rattle.cells.proofs.write.Reads as write_reads
use Rattle.cells.proofs.fill.Kinds as fill_kinds
use Rattle.cells.proofs.fill.Reads as fill_reads
use Rattle.cells.proofs.reduce.Kinds as reduce_kinds
use Rattle.cells.proofs.reduce.Reads as reduce_reads
use Rattle.cells.proofs.scroll.Kinds as scroll_kinds
use Rattle.cells.proofs.scroll.Reads as scroll_reads
use Rattle.cells.proofs.scroll_by.Kinds as scroll_by_kinds
use Rattle.cells.proofs.scroll_by.Reads as scroll_by_reads
use Rattle.cells.proofs.part.paint.Kinds as paint_kinds
use Rattle.cells.proofs.part.paint.Reads as paint_reads
use Rattle.cells.proofs.part.reduce_all.Kinds as reduce_all_kinds
use Rattle.cells.proofs.part.reduce_all.Reads as reduce_all_reads
use Rattle.cells.proofs.part.shift.Kinds as shift_kinds
use Rattle.cells.proofs.part.shift.Reads as shift_reads

pub is_mode_decides : Decides is_mode_kinds.ps is_mode_kinds.r is_mode_reads.Pre is_mode_reads.Learnt
is_mode_decides κs a z z' ws ws' p e e' = (e ∙ sym e', refl)

pub is_mode_allows : Allows is_mode_kinds.ps is_mode_kinds.r is_mode_reads.Pre is_mode_reads.Learnt
is_mode_allows κs a p = (_, (_, refl))

pub shape_of_decides : Decides shape_of_kinds.ps shape_of_kinds.r shape_of_reads.Pre shape_of_reads.Learnt
shape_of_decides κs a z z' ws ws' p e e' = (e ∙ sym e', refl)

pub shape_of_allows : Allows shape_of_kinds.ps shape_of_kinds.r shape_of_reads.Pre shape_of_reads.Learnt
shape_of_allows κs a p = (_, (_, refl))

pub count_decides : Decides count_kinds.ps count_kinds.r count_reads.Pre count_reads.Learnt
count_decides κs a z z' ws ws' p e e' = (e ∙ sym e', refl)

pub count_allows : Allows count_kinds.ps count_kinds.r count_reads.Pre count_reads.Learnt
count_allows κs a p = (_, (_, refl))

pub place_decides : Decides place_kinds.ps place_kinds.r place_reads.Pre place_reads.Learnt
place_decides κs a z z' ws ws' p e e' = (e ∙ sym e', refl)

pub place_allows : Allows place_kinds.ps place_kinds.r place_reads.Pre place_reads.Learnt
place_allows κs a p = (_, (_, refl))

pub read_decides : Decides read_kinds.ps read_kinds.r read_reads.Pre read_reads.Learnt
read_decides κs a z z' ws ws' p e e' = (e ∙ sym e', refl)

pub read_allows : Allows read_kinds.ps read_kinds.r read_reads.Pre read_reads.Learnt
read_allows κs a p = (_, (_, refl))

pub write_decides : Decides write_kinds.ps write_kinds.r write_reads.Pre write_reads.Learnt
write_decides κs a z z' ws ws' p e e' = (refl, ap (λ (l : List ℕ). (l, (tt, (tt, (tt, (tt, tt)))))) (e ∙ sym e'))

pub write_allows : Allows write_kinds.ps write_kinds.r write_reads.Pre write_reads.Learnt
write_allows κs a p = (_, (_, refl))

pub fill_decides : Decides fill_kinds.ps fill_kinds.r fill_reads.Pre fill_reads.Learnt
fill_decides κs a z z' ws ws' p e e' = (refl, ap (λ (l : List ℕ). (l, (tt, (tt, tt)))) (e ∙ sym e'))

pub fill_allows : Allows fill_kinds.ps fill_kinds.r fill_reads.Pre fill_reads.Learnt
fill_allows κs a p = (_, (_, refl))

pub reduce_decides : Decides reduce_kinds.ps reduce_kinds.r reduce_reads.Pre reduce_reads.Learnt
reduce_decides κs a z z' ws ws' p e e' = (refl, ap (λ (l : List ℕ). (l, (tt, tt))) (e ∙ sym e'))

pub reduce_allows : Allows reduce_kinds.ps reduce_kinds.r reduce_reads.Pre reduce_reads.Learnt
reduce_allows κs a p = (_, (_, refl))

pub scroll_decides : Decides scroll_kinds.ps scroll_kinds.r scroll_reads.Pre scroll_reads.Learnt
scroll_decides κs a z z' ws ws' p e e' = (refl, ap (λ (l : List ℕ). (l, tt)) (e ∙ sym e'))

pub scroll_allows : Allows scroll_kinds.ps scroll_kinds.r scroll_reads.Pre scroll_reads.Learnt
scroll_allows κs a p = (_, (_, refl))

pub scroll_by_decides : Decides scroll_by_kinds.ps scroll_by_kinds.r scroll_by_reads.Pre scroll_by_reads.Learnt
scroll_by_decides κs a z z' ws ws' p e e' = (refl, ap (λ (l : List ℕ). (l, (tt, tt))) (e ∙ sym e'))

pub scroll_by_allows : Allows scroll_by_kinds.ps scroll_by_kinds.r scroll_by_reads.Pre scroll_by_reads.Learnt
scroll_by_allows κs a p = (_, (_, refl))

pub paint_decides : Decides paint_kinds.ps paint_kinds.r paint_reads.Pre paint_reads.Learnt
paint_decides κs a z z' ws ws' p e e' = (refl, ap (λ (l : List ℕ). (l, (tt, tt))) (e ∙ sym e'))

pub paint_allows : Allows paint_kinds.ps paint_kinds.r paint_reads.Pre paint_reads.Learnt
paint_allows κs a p = (_, (_, refl))

pub reduce_all_decides : Decides reduce_all_kinds.ps reduce_all_kinds.r reduce_all_reads.Pre reduce_all_reads.Learnt
reduce_all_decides κs a z z' ws ws' p e e' = (refl, ap (λ (l : List ℕ). (l, (tt, tt))) (e ∙ sym e'))

pub reduce_all_allows : Allows reduce_all_kinds.ps reduce_all_kinds.r reduce_all_reads.Pre reduce_all_reads.Learnt
reduce_all_allows κs a p = (_, (_, refl))

pub shift_decides : Decides shift_kinds.ps shift_kinds.r shift_reads.Pre shift_reads.Learnt
shift_decides κs a z z' ws ws' p e e' = (refl, ap (λ (l : List ℕ). (l, (tt, (tt, tt)))) (e ∙ sym e'))

pub shift_allows : Allows shift_kinds.ps shift_kinds.r shift_reads.Pre shift_reads.Learnt
shift_allows κs a p = (_, (_, refl))
