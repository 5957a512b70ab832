-- A group of undamaged groups is undamaged, and they are with one put back that is.
-- Assumes nothing.
use Rattle.devices.specs.declared.Group.{Group}
use Rattle.devices.specs.declared.Group.TheVariants as group
use Rattle.devices.specs.Groups.{Groups, Part, get_group, put_group}
use Rattle.devices.specs.Fit.{FitGroups, FitPart}

pub fit_part : (g : Group) (s : Groups) → FitGroups s → FitPart g (get_group g s)
fit_part group.Nobody s f = tt
fit_part group.Console s f = f.console
fit_part group.Printer s f = f.printer
fit_part group.Cassette s f = f.cassette
fit_part group.Disk s f = f.disk

pub fit_put : (g : Group) (s : Groups) (x : Part g) → FitGroups s → FitPart g x → FitGroups (put_group g s x)
fit_put group.Nobody s x f h = f
fit_put group.Console s x f h = record { console = h; printer = f.printer; cassette = f.cassette; disk = f.disk }
fit_put group.Printer s x f h = record { console = f.console; printer = h; cassette = f.cassette; disk = f.disk }
fit_put group.Cassette s x f h = record { console = f.console; printer = f.printer; cassette = h; disk = f.disk }
fit_put group.Disk s x f h = record { console = f.console; printer = f.printer; cassette = f.cassette; disk = h }
