-- For each device, the characters that its record has, where the device stands, before its EOL or a refusal; tape and diskettes know
-- no EOL, and have what comes before a refusal, a diskette at each block's own place.
-- Assumes nothing.
use Rattle.std.specs.Prelude.{ℕ, zero, suc, ◌-◌, ◌*◌, eqb}
use Rattle.base.specs.Choice.{pick}
use Rattle.handler.specs.Answer.{Answer}
use Rattle.handler.specs.Acts.{asks_on}
use Rattle.handler.specs.declared.Got.{Got}
use Rattle.handler.specs.declared.Got.TheVariants as got
use Rattle.cells.specs.Modes.{shape_of}
use Rattle.editor.specs.Get.{column_of, end_of}
use Rattle.printer.specs.Printer.{PrinterGroup}
use Rattle.cassette.specs.Cassette.{CassetteGroup, read_of}
use Rattle.disk.specs.Disk.{DiskGroup, disk_acts}
use Rattle.console.specs.declared.Handler.{Handler}
use Rattle.console.specs.declared.Handler.TheVariants.{E, S, K}
use Rattle.console.specs.declared.state.Console.{Console}
use Rattle.console.specs.Group.{ConsoleGroup}
use Rattle.blocks.specs.declared.Device.{Device}
use Rattle.devices.specs.declared.Owner.{Owner}
use Rattle.devices.specs.declared.Owner.TheVariants as owner
use Rattle.devices.specs.Groups.{Part, group_in, group_of, owner_of}

-- E: what is left of the row, from the read column to "the row's last column of 2 to 39 not holding $20"
unfoldable pub left_e : ConsoleGroup → ℕ
left_e g = end_of g.console.row g.screen - column_of g.console.reading

-- S: the mode's cells from the cursor on
unfoldable pub left_s : Console → ℕ
left_s c = ((shape_of c.mode).rows - c.row) * (shape_of c.mode).columns - c.column

-- K: one where a key is stored; "$FF is empty"
unfoldable pub left_k : Console → ℕ
left_k c = pick (eqb c.keyboard.code 0xFF) 0 1

unfoldable pub console_left : Handler → ConsoleGroup → ℕ
console_left E g = left_e g
console_left S g = left_s g.console
console_left K g = left_k g.console

-- P: it has nothing to read
unfoldable pub printer_left : PrinterGroup → ℕ
printer_left g = 0

-- C and D: the characters that can be read one after the other before a refusal
abbrev pub one_more : Got → ℕ → ℕ
one_more (got.Character byte) n = suc n
one_more (got.Last byte) n = suc n
one_more (got.Refused status) n = 0

unfoldable pub reads_of : {D : Type 0} → (D → Answer Got D) → (most : ℕ) → D → ℕ
reads_of reads zero x = 0
reads_of reads (suc n) x = one_more (reads x).says (reads_of reads n (reads x).leaves)

-- a tape has 250 times 128 at most
unfoldable pub left_c : CassetteGroup → ℕ
left_c g = reads_of read_of 32000 g

-- a chain 719 sectors of 125 at most
unfoldable pub left_d : (port iocb : ℕ) → DiskGroup → ℕ
left_d port iocb g = reads_of (disk_acts (asks_on port iocb)).reads 89875 g

-- of a device, by its owner
abbrev pub owner_left : (o : Owner) → (port iocb : ℕ) → Part (group_in o) → ℕ
owner_left (owner.Console h) port iocb g = console_left h g
owner_left owner.Printer port iocb g = printer_left g
owner_left owner.Cassette port iocb g = left_c g
owner_left owner.Disk port iocb g = left_d port iocb g

abbrev pub device_left : (device : Device) → (port iocb : ℕ) → Part (group_of device) → ℕ
device_left device = owner_left (owner_of device)
