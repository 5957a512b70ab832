-- Document 01: "Two groups are shared: the console (E, S, K; a lent screen of 61,440 cells, a byte each) and the printer (P; a lent
-- paper of 4,096 bytes and its used length)."; document 02: "Add C as a third group over a lent tape", "Add D1 to
-- D4 .. as one group over lent images". Which group a device is of; a group
-- taken out of them all, and put back.
-- Assumes nothing.
use Rattle.std.specs.Prelude.{Bool, ℕ, eqb, ltb}
use Rattle.base.specs.Choice.{and}
use Rattle.handler.specs.declared.Asked.{Asked}
use Rattle.handler.specs.Acts.{Acts}
use Rattle.blocks.specs.declared.Device.{Device}
use Rattle.blocks.specs.declared.Device.TheVariants.{E, S, K, P, C, D}
use Rattle.blocks.specs.declared.Phase.{Phase}
use Rattle.blocks.specs.declared.Phase.TheVariants.{Gathering, Ready, Running, Replying}
use Rattle.console.specs.declared.Handler.TheVariants as console
use Rattle.console.specs.Group.{ConsoleGroup}
use Rattle.console.specs.Handlers.{console_acts}
use Rattle.printer.specs.Printer.{PrinterGroup, printer_acts}
use Rattle.cassette.specs.Cassette.{CassetteGroup, cassette_acts}
use Rattle.disk.specs.Disk.{DiskGroup, disk_acts}
use Rattle.devices.specs.declared.Group.{Group}
use Rattle.devices.specs.declared.Group.TheVariants as group
use Rattle.devices.specs.declared.Owner.{Owner}
use Rattle.devices.specs.declared.Owner.TheVariants as owner

-- every group, its numbers with its lent buffer
pub record Groups : Type 0 where
  pub console : ConsoleGroup
  pub printer : PrinterGroup
  pub cassette : CassetteGroup
  pub disk : DiskGroup

abbrev pub groups : ConsoleGroup → PrinterGroup → CassetteGroup → DiskGroup → Groups
groups c p t d = record { console = c; printer = p; cassette = t; disk = d }

-- what a group is; no group has no device
abbrev pub Part : Group → Type 0
Part group.Nobody = Unit {0}
Part group.Console = ConsoleGroup
Part group.Printer = PrinterGroup
Part group.Cassette = CassetteGroup
Part group.Disk = DiskGroup

abbrev pub get_group : (g : Group) → Groups → Part g
get_group group.Nobody s = tt
get_group group.Console s = s.console
get_group group.Printer s = s.printer
get_group group.Cassette s = s.cassette
get_group group.Disk s = s.disk

abbrev pub put_group : (g : Group) → Groups → Part g → Groups
put_group group.Nobody s x = s
put_group group.Console s x = groups x s.printer s.cassette s.disk
put_group group.Printer s x = groups s.console x s.cassette s.disk
put_group group.Cassette s x = groups s.console s.printer x s.disk
put_group group.Disk s x = groups s.console s.printer s.cassette x

abbrev pub group_number : Group → ℕ
group_number group.Nobody = 0
group_number group.Console = 1
group_number group.Printer = 2
group_number group.Cassette = 3
group_number group.Disk = 4

-- two are one group, and not no group
abbrev pub clash : Group → Group → Bool
clash one other = and (ltb 0 (group_number one)) (eqb (group_number one) (group_number other))

-- "the console (E, S, K ..) and the printer (P ..)", C and D
abbrev pub owner_of : Device → Owner
owner_of E = owner.Console console.E
owner_of S = owner.Console console.S
owner_of K = owner.Console console.K
owner_of P = owner.Printer
owner_of C = owner.Cassette
owner_of D = owner.Disk

abbrev pub group_in : Owner → Group
group_in (owner.Console h) = group.Console
group_in owner.Printer = group.Printer
group_in owner.Cassette = group.Cassette
group_in owner.Disk = group.Disk

abbrev pub group_of : Device → Group
group_of device = group_in (owner_of device)

-- "A request holds only the group it needs, from its start tick through its last."
abbrev pub held_of : Phase → Group
held_of (Gathering gather) = group.Nobody
held_of (Ready header) = group.Nobody
held_of (Running run) = group_of run.device
held_of (Replying reply) = group.Nobody

-- a device's handler, over its own group
abbrev pub own_acts : (o : Owner) → Asked → Acts (Part (group_in o))
own_acts (owner.Console h) asked = console_acts h asked
own_acts owner.Printer asked = printer_acts asked
own_acts owner.Cassette asked = cassette_acts asked
own_acts owner.Disk asked = disk_acts asked

abbrev pub device_acts : (device : Device) → Asked → Acts (Part (group_of device))
device_acts device asked = own_acts (owner_of device) asked
