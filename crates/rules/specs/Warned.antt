-- Document 02, Ask 7, over whole requests: "A tape read after which the next would give $88 should come with $03."; "other devices never
-- give it".
-- Assumes nothing.
use Rattle.std.specs.Prelude.{◌≡◌, ◌↔◌, Bool, true, ℕ, ◌<◌}
use Rattle.handler.specs.declared.Asked.{Asked}
use Rattle.handler.specs.Answer.{NeverLast}
use Rattle.blocks.specs.declared.Device.{Device}
use Rattle.blocks.specs.declared.Device.TheVariants.{C, D}
use Rattle.commands.specs.declared.Command.TheVariants as command
use Rattle.commands.specs.Numbers.{HasNumber}
use Rattle.wire.specs.declared.Call.{Call}
use Rattle.devices.specs.Groups.{Groups, Part, group_of, device_acts}
use Rattle.alone.specs.Alone.{Local}
use Rattle.rules.specs.Statuses.{reply_status, Directed}
use Rattle.rules.specs.ReadBack.{called_alone}

-- a GET on a block that has C open with R, and then a read on the same block: "n = 0: one character by A"
pub record ReadsNext (c next : Call) (l : Local) (s : Groups) : Type 0 where
  pub reads : Directed c l s true C
  pub same : next.iocb ≡ c.iocb
  pub records : Bool
  pub command : HasNumber (command.Transfer true records) next.command
  pub one : next.length ≡ 0

-- the status of a request alone, and of the one that is made next
abbrev pub status_alone : Call → Local → Groups → ℕ
status_alone c l s = reply_status (called_alone c l s).reply

abbrev pub status_next : (c next : Call) → Local → Groups → ℕ
status_next c next l s = status_alone next (called_alone c l s).local (called_alone c l s).groups

-- a GET that ends below $80 ends with $03 exactly when the read made next ends with $88; and else with $01
pub record RequestWarns (c next : Call) (l : Local) (s : Groups) : Type 0 where
  pub exactly : status_alone c l s < 0x80 → (status_alone c l s ≡ 0x03) ↔ (status_next c next l s ≡ 0x88)
  pub success : status_alone c l s < 0x80 → (status_next c next l s ≡ 0x88 → ⊥) → status_alone c l s ≡ 0x01

-- "other devices never give it"; and Ask 12: "$03 and $88 come as from tape."
abbrev pub OthersNeverWarn : Type 0
OthersNeverWarn = (device : Device) → (device ≡ C → ⊥) → (device ≡ D → ⊥) → (asked : Asked) (x : Part (group_of device)) → NeverLast ((device_acts device asked).reads x).says
