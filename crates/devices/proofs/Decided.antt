-- Each promise of this crate decides: two outcomes that it allows are equal, and it allows one.
-- Assumes nothing.
use mathlib.Core.Path.{refl, sym, ◌∙◌, ap}
use mathlib.Core.List.{List}
use Prim.Native.Nat.{ℕ}
use Rattle.base.specs.Decides.{Decides, Allows}
use Rattle.handler.specs.declared.Got.{Got}
use Rattle.handler.specs.declared.Done.{Done}
use Rattle.handler.specs.Answer.{Answer, answer}
use Rattle.devices.specs.declared.Media.{Media}
use Rattle.devices.specs.Lent.{DevicesLent, lent_acts}
use Rattle.devices.specs.Media.{lent_with}
use Rattle.devices.proofs.Alike.{left_in, left_alike}
use Rattle.devices.proofs.Images.{images_kept, left_with, tape_stays, media_stay}
use Rattle.devices.proofs.owner_of.Kinds as owner_of_kinds
use Rattle.devices.proofs.owner_of.Reads as owner_of_reads
use Rattle.devices.proofs.group_of.Kinds as group_of_kinds
use Rattle.devices.proofs.group_of.Reads as group_of_reads
use Rattle.devices.proofs.held_by.Kinds as held_by_kinds
use Rattle.devices.proofs.held_by.Reads as held_by_reads
use Rattle.devices.proofs.clashes.Kinds as clashes_kinds
use Rattle.devices.proofs.clashes.Reads as clashes_reads
use Rattle.devices.proofs.open.Kinds as open_kinds
use Rattle.devices.proofs.open.Reads as open_reads
use Rattle.devices.proofs.close.Kinds as close_kinds
use Rattle.devices.proofs.close.Reads as close_reads
use Rattle.devices.proofs.prepare.Kinds as prepare_kinds
use Rattle.devices.proofs.prepare.Reads as prepare_reads
use Rattle.devices.proofs.read.Kinds as read_kinds
use Rattle.devices.proofs.read.Reads as read_reads
use Rattle.devices.proofs.write.Kinds as write_kinds
use Rattle.devices.proofs.write.Reads as write_reads
use Rattle.devices.proofs.status.Kinds as status_kinds
use Rattle.devices.proofs.status.Reads as status_reads
use Rattle.devices.proofs.special.Kinds as special_kinds
use Rattle.devices.proofs.special.Reads as special_reads
use Rattle.devices.proofs.fresh.fresh.Kinds as fresh_kinds
use Rattle.devices.proofs.fresh.fresh.Reads as fresh_reads
use Rattle.devices.proofs.numbers.console_of.Kinds as console_of_kinds
use Rattle.devices.proofs.numbers.console_of.Reads as console_of_reads
use Rattle.devices.proofs.numbers.set_console.Kinds as set_console_kinds
use Rattle.devices.proofs.numbers.set_console.Reads as set_console_reads
use Rattle.devices.proofs.numbers.printer_of.Kinds as printer_of_kinds
use Rattle.devices.proofs.numbers.printer_of.Reads as printer_of_reads
use Rattle.devices.proofs.numbers.set_printer.Kinds as set_printer_kinds
use Rattle.devices.proofs.numbers.set_printer.Reads as set_printer_reads

pub owner_of_decides : Decides owner_of_kinds.ps owner_of_kinds.r owner_of_reads.Pre owner_of_reads.Learnt
owner_of_decides κs a z z' ws ws' p e e' = (e ∙ sym e', refl)

pub owner_of_allows : Allows owner_of_kinds.ps owner_of_kinds.r owner_of_reads.Pre owner_of_reads.Learnt
owner_of_allows κs a p = (_, (_, refl))

pub group_of_decides : Decides group_of_kinds.ps group_of_kinds.r group_of_reads.Pre group_of_reads.Learnt
group_of_decides κs a z z' ws ws' p e e' = (e ∙ sym e', refl)

pub group_of_allows : Allows group_of_kinds.ps group_of_kinds.r group_of_reads.Pre group_of_reads.Learnt
group_of_allows κs a p = (_, (_, refl))

pub held_by_decides : Decides held_by_kinds.ps held_by_kinds.r held_by_reads.Pre held_by_reads.Learnt
held_by_decides κs a z z' ws ws' p e e' = (e ∙ sym e', refl)

pub held_by_allows : Allows held_by_kinds.ps held_by_kinds.r held_by_reads.Pre held_by_reads.Learnt
held_by_allows κs a p = (_, (_, refl))

pub clashes_decides : Decides clashes_kinds.ps clashes_kinds.r clashes_reads.Pre clashes_reads.Learnt
clashes_decides κs a z z' ws ws' p e e' = (e ∙ sym e', refl)

pub clashes_allows : Allows clashes_kinds.ps clashes_kinds.r clashes_reads.Pre clashes_reads.Learnt
clashes_allows κs a p = (_, (_, refl))

pub open_decides : Decides open_kinds.ps open_kinds.r open_reads.Pre open_reads.Learnt
open_decides κs a z z' ws ws' p e e' =
    let q = e.0 ∙ sym e'.0 in
    (ap (λ (w : Answer Done DevicesLent). w.says) q, ap (λ (l : List ℕ × Media). (tt, (tt, (l.0, (l.1, tt))))) (left_alike a.1.1.1.0.now _ _ _ _ (ap (λ (w : Answer Done DevicesLent). w.leaves) q) e.1.0 e'.1.0))

pub open_allows : Allows open_kinds.ps open_kinds.r open_reads.Pre open_reads.Learnt
open_allows κs a p =
    let s = lent_with a.1.1.0.now a.1.1.1.0.now in
    let x = (lent_acts a.0 a.1.0).opens s in
    (x.says, ((tt, (tt, (x.leaves.numbers, (left_in a.1.1.1.0.now x.leaves, tt)))), (ap (answer x.says) (left_with x.leaves s.images ((images_kept a.0 a.1.0).opens s)), (refl, tape_stays a.0 a.1.0 s))))

pub close_decides : Decides close_kinds.ps close_kinds.r close_reads.Pre close_reads.Learnt
close_decides κs a z z' ws ws' p e e' = (refl, ap (λ (l : List ℕ × Media). (tt, (tt, (l.0, (l.1, tt))))) (left_alike a.1.1.1.0.now _ _ _ _ (e.0 ∙ sym e'.0) e.1 e'.1))

pub close_allows : Allows close_kinds.ps close_kinds.r close_reads.Pre close_reads.Learnt
close_allows κs a p =
    let s = lent_with a.1.1.0.now a.1.1.1.0.now in
    let x = (lent_acts a.0 a.1.0).closes s in
    (tt, ((tt, (tt, (x.numbers, (left_in a.1.1.1.0.now x, tt)))), (left_with x s.images ((images_kept a.0 a.1.0).closes s), refl)))

pub prepare_decides : Decides prepare_kinds.ps prepare_kinds.r prepare_reads.Pre prepare_reads.Learnt
prepare_decides κs a z z' ws ws' p e e' =
    let q = e.0 ∙ sym e'.0 in
    (ap (λ (w : Answer Done DevicesLent). w.says) q, ap (λ (l : List ℕ × Media). (tt, (tt, (l.0, (l.1, tt))))) (left_alike a.1.1.1.0.now _ _ _ _ (ap (λ (w : Answer Done DevicesLent). w.leaves) q) e.1 e'.1))

pub prepare_allows : Allows prepare_kinds.ps prepare_kinds.r prepare_reads.Pre prepare_reads.Learnt
prepare_allows κs a p =
    let s = lent_with a.1.1.0.now a.1.1.1.0.now in
    let x = (lent_acts a.0 a.1.0).prepares s in
    (x.says, ((tt, (tt, (x.leaves.numbers, (left_in a.1.1.1.0.now x.leaves, tt)))), (ap (answer x.says) (left_with x.leaves s.images ((images_kept a.0 a.1.0).prepares s)), refl)))

pub read_decides : Decides read_kinds.ps read_kinds.r read_reads.Pre read_reads.Learnt
read_decides κs a z z' ws ws' p e e' =
    let q = e.0 ∙ sym e'.0 in
    (ap (λ (w : Answer Got DevicesLent). w.says) q, ap (λ (l : List ℕ × Media). (tt, (tt, (l.0, (l.1, tt))))) (left_alike a.1.1.1.0.now _ _ _ _ (ap (λ (w : Answer Got DevicesLent). w.leaves) q) e.1 e'.1))

pub read_allows : Allows read_kinds.ps read_kinds.r read_reads.Pre read_reads.Learnt
read_allows κs a p =
    let s = lent_with a.1.1.0.now a.1.1.1.0.now in
    let x = (lent_acts a.0 a.1.0).reads s in
    (x.says, ((tt, (tt, (x.leaves.numbers, (left_in a.1.1.1.0.now x.leaves, tt)))), (ap (answer x.says) (left_with x.leaves s.images ((images_kept a.0 a.1.0).reads s)), refl)))

pub write_decides : Decides write_kinds.ps write_kinds.r write_reads.Pre write_reads.Learnt
write_decides κs a z z' ws ws' p e e' =
    let q = e.0 ∙ sym e'.0 in
    (ap (λ (w : Answer Done DevicesLent). w.says) q, ap (λ (l : List ℕ × Media). (tt, (tt, (tt, (l.0, (l.1, tt)))))) (left_alike a.1.1.1.1.0.now _ _ _ _ (ap (λ (w : Answer Done DevicesLent). w.leaves) q) e.1 e'.1))

pub write_allows : Allows write_kinds.ps write_kinds.r write_reads.Pre write_reads.Learnt
write_allows κs a p =
    let s = lent_with a.1.1.1.0.now a.1.1.1.1.0.now in
    let x = (lent_acts a.0 a.1.0).writes a.1.1.0 s in
    (x.says, ((tt, (tt, (tt, (x.leaves.numbers, (left_in a.1.1.1.1.0.now x.leaves, tt))))), (ap (answer x.says) (left_with x.leaves s.images ((images_kept a.0 a.1.0).writes a.1.1.0 s)), refl)))

pub status_decides : Decides status_kinds.ps status_kinds.r status_reads.Pre status_reads.Learnt
status_decides κs a z z' ws ws' p e e' = (e ∙ sym e', refl)

pub status_allows : Allows status_kinds.ps status_kinds.r status_reads.Pre status_reads.Learnt
status_allows κs a p = (_, (_, refl))

pub special_decides : Decides special_kinds.ps special_kinds.r special_reads.Pre special_reads.Learnt
special_decides κs a z z' ws ws' p e e' = let q = e ∙ sym e' in (ap (λ (w : Answer Done DevicesLent). w.says) q, ap (λ (w : Answer Done DevicesLent). (tt, (tt, (w.leaves.numbers, (tt, tt))))) q)

pub special_allows : Allows special_kinds.ps special_kinds.r special_reads.Pre special_reads.Learnt
special_allows κs a p =
    let s = lent_with a.1.1.0.now a.1.1.1.0.now in
    let x = (lent_acts a.0 a.1.0).specials s in
    (x.says, ((tt, (tt, (x.leaves.numbers, (tt, tt)))), ap (answer x.says) (media_stay a.0 a.1.0 s)))

pub fresh_decides : Decides fresh_kinds.ps fresh_kinds.r fresh_reads.Pre fresh_reads.Learnt
fresh_decides κs a z z' ws ws' p e e' = (refl, ap (λ (w : DevicesLent). (w.numbers, (w.screen, (tt, (tt, (tt, tt)))))) (e ∙ sym e'))

pub fresh_allows : Allows fresh_kinds.ps fresh_kinds.r fresh_reads.Pre fresh_reads.Learnt
fresh_allows κs a p = (_, (_, refl))

pub console_of_decides : Decides console_of_kinds.ps console_of_kinds.r console_of_reads.Pre console_of_reads.Learnt
console_of_decides κs a z z' ws ws' p e e' = (e ∙ sym e', refl)

pub console_of_allows : Allows console_of_kinds.ps console_of_kinds.r console_of_reads.Pre console_of_reads.Learnt
console_of_allows κs a p = (_, (_, refl))

pub set_console_decides : Decides set_console_kinds.ps set_console_kinds.r set_console_reads.Pre set_console_reads.Learnt
set_console_decides κs a z z' ws ws' p e e' = (refl, ap (λ (l : List ℕ). (l, (tt, tt))) (e ∙ sym e'))

pub set_console_allows : Allows set_console_kinds.ps set_console_kinds.r set_console_reads.Pre set_console_reads.Learnt
set_console_allows κs a p = (_, (_, refl))

pub printer_of_decides : Decides printer_of_kinds.ps printer_of_kinds.r printer_of_reads.Pre printer_of_reads.Learnt
printer_of_decides κs a z z' ws ws' p e e' = (e ∙ sym e', refl)

pub printer_of_allows : Allows printer_of_kinds.ps printer_of_kinds.r printer_of_reads.Pre printer_of_reads.Learnt
printer_of_allows κs a p = (_, (_, refl))

pub set_printer_decides : Decides set_printer_kinds.ps set_printer_kinds.r set_printer_reads.Pre set_printer_reads.Learnt
set_printer_decides κs a z z' ws ws' p e e' = (refl, ap (λ (l : List ℕ). (l, (tt, tt))) (e ∙ sym e'))

pub set_printer_allows : Allows set_printer_kinds.ps set_printer_kinds.r set_printer_reads.Pre set_printer_reads.Learnt
set_printer_allows κs a p = (_, (_, refl))
