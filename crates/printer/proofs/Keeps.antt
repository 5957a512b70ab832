-- What a PUT leaves of the printer's group: it fits as before, what is used only grows, what was printed stays.
-- Assumes nothing.
use mathlib.Core.Path.{◌≡◌}
use mathlib.Core.List.{List, [], ◌∷◌, ◌++◌}
use Prim.Native.Nat.{ℕ, ◌<◌, ◌≤◌}
use native.Mathlib.Omega.{arith}
use native.Mathlib.Numerals.{add-one}
use borrow.Author.Tests.{lt-ltb}
use lib.ListN.{length, length-set}
use lib.Seq.{take-suc-set}
use Rattle.base.proofs.Choices.{pick_lt}
use Rattle.handler.specs.declared.Asked.{Asked}
use Rattle.handler.specs.Answer.{Answer, NeverLast}
use Rattle.handler.specs.declared.Done.{Done}
use Rattle.handler.specs.declared.Done.TheVariants.{Refused}
use Rattle.printer.specs.Printer.{paper_length, PrinterGroup, printer_group, fresh_printer, printed_of, put_of, printer_acts}
use Rattle.printer.specs.Fit.{FitPrinter}

pub fresh_fit : (paper : List ℕ) → length paper ≡ paper_length → FitPrinter (printer_group fresh_printer.used paper)
fresh_fit paper h = record { used = omega arith; paper = h }

pub put_fit : (byte : ℕ) (g : PrinterGroup) → FitPrinter g → FitPrinter (put_of byte g).leaves
unfolding put_of
put_fit byte g f =
    pick_lt (λ (a : Answer Done PrinterGroup). FitPrinter a.leaves) g.used paper_length _ _
    (λ h. record { used = omega arith; paper = simp length-set f.paper })
    (λ h. f)

pub put_grows : (byte : ℕ) (g : PrinterGroup) → g.used ≤ (put_of byte g).leaves.used
unfolding put_of
put_grows byte g =
    pick_lt (λ (a : Answer Done PrinterGroup). g.used ≤ a.leaves.used) g.used paper_length _ _ (λ h. omega arith) (λ h. omega arith)

-- "PUT appends": where there is room, what is printed is what was, and then the byte
pub put_appends : (byte : ℕ) (g : PrinterGroup) → FitPrinter g → g.used < paper_length → printed_of (put_of byte g).leaves ≡ printed_of g ++ (byte ∷ [])
unfolding put_of
put_appends byte g f h =
    let l : g.used < length g.paper = omega (arith, f.paper) in
    rw (lt-ltb g.used paper_length h, add-one g.used, take-suc-set g.paper g.used byte l)

-- "at 4,096 used, $90": there is no other refusal
pub put_status_lem : (byte : ℕ) (g : PrinterGroup) (s : ℕ) → (put_of byte g).says ≡ Refused s → s ≡ 0x90
unfolding put_of
put_status_lem byte g =
    pick_lt (λ (a : Answer Done PrinterGroup). (s : ℕ) → a.says ≡ Refused s → s ≡ 0x90) g.used paper_length _ _
    (λ h s e. let z : ◌≡◌ {A = ℕ} 0 1 = cc in absurd (omega arith))
    (λ h s e. cc)

-- "other devices never give it"
pub read_never_last : (asked : Asked) (g : PrinterGroup) → NeverLast ((printer_acts asked).reads g).says
read_never_last asked g byte e = let z : ◌≡◌ {A = ℕ} 0 1 = cc in omega arith
