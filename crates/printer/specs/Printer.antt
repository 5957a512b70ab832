-- The printer's group, and what P's PUT answers and leaves.
-- Assumes nothing.
use Rattle.std.specs.Prelude.{ℕ, ◌+◌, List, ltb, set, take}
use Rattle.base.specs.Choice.{pick}
use Rattle.handler.specs.Answer.{Answer, answer}
use Rattle.handler.specs.Acts.{Acts}
use Rattle.handler.specs.declared.Asked.{Asked}
use Rattle.handler.specs.declared.Got.TheVariants as got
use Rattle.handler.specs.declared.Done.{Done}
use Rattle.handler.specs.declared.Done.TheVariants.{Success, Refused}
use Rattle.printer.specs.declared.Printer.{Printer}

-- "a lent paper of 4,096 bytes"
abbrev pub paper_length : ℕ
paper_length = 4096

-- "the printer (P; a lent paper of 4,096 bytes and its used length)"
pub record PrinterGroup : Type 0 where
  pub used : ℕ
  pub paper : List ℕ

abbrev pub printer_group : ℕ → List ℕ → PrinterGroup
printer_group used paper = record { used = used; paper = paper }

-- what is printed: the used part of the paper
abbrev pub printed_of : PrinterGroup → List ℕ
printed_of g = take g.used g.paper

-- "Fresh: .. paper used 0 (its bytes as lent)"
abbrev pub fresh_printer : Printer
fresh_printer = record { used = 0 }

-- "PUT appends; at 4,096 used, $90."
unfoldable pub put_of : ℕ → PrinterGroup → Answer Done PrinterGroup
put_of byte g =
    pick (ltb g.used paper_length)
    (answer Success (printer_group (g.used + 1) (set g.paper g.used byte)))
    (answer (Refused 0x90) g)

-- the handler as CIO calls it: "Opening K or P changes no device"; nor does CLOSE. A GET from P never gets here: P offers no R, and
-- "$83 .. reading without R" comes before the group; the same status stands here. "GET STATUS $0D, SPECIAL above .. $01 or $84."
abbrev pub printer_acts : Asked → Acts PrinterGroup
printer_acts asked = record {
  opens = λ g. answer Success g;
  closes = λ g. g;
  prepares = λ g. answer Success g;
  reads = λ g. answer (got.Refused 0x83) g;
  writes = put_of;
  statuses = λ g. Success;
  specials = λ g. answer (Refused 0x84) g;
}
