-- Each promise of this crate decides, and allows an outcome.
-- Assumes nothing.
use mathlib.Core.Path.{refl, sym, ◌∙◌, ap}
use Prim.Native.Nat.{ℕ}
use Rattle.base.specs.Decides.{Decides, Allows}
use Rattle.handler.specs.Answer.{Answer}
use Rattle.handler.specs.declared.Done.{Done}
use Rattle.printer.specs.Printer.{PrinterGroup, printer_group, put_of}
use Rattle.printer.specs.declared.Printer.{Printer}
use Rattle.printer.proofs.Printer.fresh.Kinds as fresh_kinds
use Rattle.printer.proofs.Printer.fresh.Reads as fresh_reads
use Rattle.printer.proofs.Printer.put.Kinds as put_kinds
use Rattle.printer.proofs.Printer.put.Reads as put_reads

pub fresh_decides : Decides fresh_kinds.ps fresh_kinds.r fresh_reads.Pre fresh_reads.Learnt
fresh_decides κs a z z' ws ws' p e e' = (e ∙ sym e', refl)

pub fresh_allows : Allows fresh_kinds.ps fresh_kinds.r fresh_reads.Pre fresh_reads.Learnt
fresh_allows κs a p = (_, (_, refl))

-- the printer with so much used
abbrev printer : ℕ → Printer
printer used = record { used = used }

pub put_decides : Decides put_kinds.ps put_kinds.r put_reads.Pre put_reads.Learnt
put_decides κs a z z' ws ws' p e e' =
    let q = e ∙ sym e' in
    (ap (λ (x : Answer Done PrinterGroup). x.says) q, ap (λ (x : Answer Done PrinterGroup). (printer x.leaves.used, (x.leaves.paper, (tt, tt)))) q)

pub put_allows : Allows put_kinds.ps put_kinds.r put_reads.Pre put_reads.Learnt
put_allows κs a p =
    let x = put_of a.1.1.0 (printer_group a.0.now.used a.1.0.now) in
    (x.says, ((printer x.leaves.used, (x.leaves.paper, (tt, tt))), refl))
