-- Each promise of this crate decides: two outcomes that it allows are equal, and it allows one.
-- Assumes nothing.
use mathlib.Core.Path.{refl, sym, ◌∙◌, ap}
use Rattle.base.specs.Decides.{Decides, Allows}
use Rattle.handler.specs.declared.Got.{Got}
use Rattle.handler.specs.Answer.{Answer}
use Rattle.editor.specs.Text.{Text}
use Rattle.editor.specs.declared.Editor.{Editor}
use Rattle.editor.proofs.Editor.place.Kinds as place_kinds
use Rattle.editor.proofs.Editor.place.Reads as place_reads
use Rattle.editor.proofs.Editor.new_row.Kinds as new_row_kinds
use Rattle.editor.proofs.Editor.new_row.Reads as new_row_reads
use Rattle.editor.proofs.Editor.open.Kinds as open_kinds
use Rattle.editor.proofs.Editor.open.Reads as open_reads
use Rattle.editor.proofs.Editor.get.Kinds as get_kinds
use Rattle.editor.proofs.Editor.get.Reads as get_reads
use Rattle.editor.proofs.line.column_of.Kinds as column_of_kinds
use Rattle.editor.proofs.line.column_of.Reads as column_of_reads
use Rattle.editor.proofs.line.end.Kinds as end_kinds
use Rattle.editor.proofs.line.end.Reads as end_reads

pub place_decides : Decides place_kinds.ps place_kinds.r place_reads.Pre place_reads.Learnt
place_decides κs a z z' ws ws' p e e' = (refl, ap (λ (e : Editor). (e, (tt, (tt, tt)))) (e ∙ sym e'))

pub place_allows : Allows place_kinds.ps place_kinds.r place_reads.Pre place_reads.Learnt
place_allows κs a p = (_, (_, refl))

pub new_row_decides : Decides new_row_kinds.ps new_row_kinds.r new_row_reads.Pre new_row_reads.Learnt
new_row_decides κs a z z' ws ws' p e e' = (refl, ap (λ (w : Text). (w.editor, (w.cells, tt))) (e ∙ sym e'))

pub new_row_allows : Allows new_row_kinds.ps new_row_kinds.r new_row_reads.Pre new_row_reads.Learnt
new_row_allows κs a p = (_, (_, refl))

pub open_decides : Decides open_kinds.ps open_kinds.r open_reads.Pre open_reads.Learnt
open_decides κs a z z' ws ws' p e e' = (refl, ap (λ (w : Text). (w.editor, (w.cells, tt))) (e ∙ sym e'))

pub open_allows : Allows open_kinds.ps open_kinds.r open_reads.Pre open_reads.Learnt
open_allows κs a p = (_, (_, refl))

pub get_decides : Decides get_kinds.ps get_kinds.r get_reads.Pre get_reads.Learnt
get_decides κs a z z' ws ws' p e e' = let q = e ∙ sym e' in (ap (λ (w : Answer Got Text). w.says) q, ap (λ (w : Answer Got Text). (w.leaves.editor, (w.leaves.cells, tt))) q)

pub get_allows : Allows get_kinds.ps get_kinds.r get_reads.Pre get_reads.Learnt
get_allows κs a p = (_, (_, refl))

pub column_of_decides : Decides column_of_kinds.ps column_of_kinds.r column_of_reads.Pre column_of_reads.Learnt
column_of_decides κs a z z' ws ws' p e e' = (e ∙ sym e', refl)

pub column_of_allows : Allows column_of_kinds.ps column_of_kinds.r column_of_reads.Pre column_of_reads.Learnt
column_of_allows κs a p = (_, (_, refl))

pub end_decides : Decides end_kinds.ps end_kinds.r end_reads.Pre end_reads.Learnt
end_decides κs a z z' ws ws' p e e' = (e ∙ sym e', refl)

pub end_allows : Allows end_kinds.ps end_kinds.r end_reads.Pre end_reads.Learnt
end_allows κs a p = (_, (_, refl))
