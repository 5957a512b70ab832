-- The paper is what was put, in order; and a full paper stays as it is.
-- Assumes nothing.
use mathlib.Core.Path.{◌≡◌, ◌∙◌, refl, sym, ap}
use mathlib.Core.List.{List, [], ◌∷◌, ◌++◌, append_assoc}
use Prim.Native.Nat.{ℕ, suc, ◌+◌, ◌<◌, ◌≤◌}
use native.Mathlib.Nat.{add-zero, add-suc, suc-add, zero-add}
use native.Mathlib.Numerals.{add-one}
use native.Mathlib.Omega.{arith}
use lib.ListN.{length, take, drop, set, replicate, length-append}
use lib.Seq.{sets, sets-eq, take_at, length-take-le}
use Rattle.handler.specs.Answer.{answer}
use Rattle.handler.specs.declared.Asked.{Asked}
use Rattle.handler.specs.declared.Done.TheVariants.{Success, Refused}
use Rattle.handler.specs.InOrder.{and_then, puts_of}
use Rattle.handler.proofs.InOrder.{puts_none, puts_one}
use Rattle.printer.specs.Printer.{PrinterGroup, printer_group, fresh_printer, printed_of, put_of, printer_acts}
use Rattle.printer.specs.Fit.{FitPrinter}
use Rattle.printer.specs.Puts.{appended_to, PaperRule}
use Rattle.printer.proofs.Keeps.{fresh_fit}
use Rattle.printer.proofs.Laws.{put_room, put_full}

-- byte for byte
stored : (bytes : List ℕ) (used : ℕ) (paper : List ℕ) → used + length bytes ≤ 4096
    → puts_of put_of bytes (printer_group used paper) ≡ answer (replicate (length bytes) Success) (printer_group (used + length bytes) (sets paper used bytes))
stored [] used paper h = puts_none put_of (printer_group used paper) ∙ rw (add-zero used)
stored (byte ∷ bytes) used paper h =
    let l : used < 4096 = omega (arith, add-suc used (length bytes)) in
    let m : suc used + length bytes ≤ 4096 = omega (arith, add-suc used (length bytes), suc-add used (length bytes)) in
    puts_one put_of byte bytes (printer_group used paper) (printer_group (suc used) (set paper used byte)) Success
    (sym (put_room byte used paper (set paper used byte) l refl) ∙ rw (add-one used))
    ∙ ap (and_then Success) (stored bytes (suc used) (set paper used byte) m)
    ∙ rw (add-suc used (length bytes), suc-add used (length bytes))

module _ (bytes : List ℕ) (g : PrinterGroup) (f : FitPrinter g) where
  -- each PUT succeeds, and they append the bytes
  pub puts_append : g.used + length bytes ≤ 4096 → puts_of put_of bytes g ≡ answer (replicate (length bytes) Success) (appended_to g bytes)
  puts_append h =
      stored bytes g.used g.paper h
      ∙ rw (sets-eq bytes g.paper g.used (omega (arith, f.paper)), append_assoc)

  -- "at 4,096 used, $90": the next PUT changes nothing
  pub puts_full : (byte : ℕ) → g.used + length bytes ≡ 4096 → put_of byte (puts_of put_of bytes g).leaves ≡ answer (Refused 0x90) (appended_to g bytes)
  puts_full byte e =
      rw (puts_append (omega arith)) (sym (put_full byte (appended_to g bytes).used (appended_to g bytes).paper (omega arith)))

  pub paper_rule : PaperRule bytes g
  paper_rule = record { appends = puts_append; full = puts_full }

  -- so what is printed is what was, and then what was put
  pub puts_printed : g.used + length bytes ≤ 4096 → printed_of (puts_of put_of bytes g).leaves ≡ printed_of g ++ bytes
  puts_printed h =
      let used = take g.used g.paper in
      let rest = drop (g.used + length bytes) g.paper in
      let l : length (used ++ bytes) ≡ g.used + length bytes =
      length-append used bytes ∙ ap (λ (n : ℕ). n + length bytes) (length-take-le g.used g.paper (omega (arith, f.paper))) in
      rw (puts_append h) (ap (take (g.used + length bytes)) (sym (append_assoc used bytes rest)) ∙ take_at (used ++ bytes) rest (g.used + length bytes) l)

-- the same of P as CIO calls it: from fresh on, the paper begins with what was put, and at 4,096 bytes nothing more is taken
module _ (asked : Asked) (bytes paper : List ℕ) (e : length paper ≡ 4096) (h : length bytes ≤ 4096) where
  pub printer_puts : puts_of (printer_acts asked).writes bytes (printer_group fresh_printer.used paper)
      ≡ answer (replicate (length bytes) Success) (printer_group (length bytes) (bytes ++ drop (length bytes) paper))
  printer_puts = puts_append bytes (printer_group fresh_printer.used paper) (fresh_fit paper e) (omega arith) ∙ rw (zero-add (length bytes))

  pub printer_full : (byte : ℕ) → length bytes ≡ 4096
      → (printer_acts asked).writes byte (printer_group (length bytes) (bytes ++ drop (length bytes) paper)) ≡ answer (Refused 0x90) (printer_group (length bytes) (bytes ++ drop (length bytes) paper))
  printer_full byte q = sym (put_full byte (length bytes) (bytes ++ drop (length bytes) paper) (omega arith))
