-- Document 02, Ask 12, over whole requests: what GET CHARACTERS bring of a file, by the bytes of its chain; and a GET RECORD that lasts as
-- long as any: "The bound of 61,441 becomes 89,876."
-- Assumes nothing.
use Rattle.std.specs.Prelude.{◌≡◌, true, List, ℕ, ◌+◌, ◌<◌, ◌≤◌, length, take, drop}
use Rattle.std.proofs.lemmas.List.Edits.{sets}
use Rattle.base.specs.Choice.{bit}
use Rattle.handler.specs.Acts.{asks_on}
use Rattle.handler.specs.InOrder.{Each}
use Rattle.image.specs.Image.{next_of, data_count}
use Rattle.image.specs.Chain.{GoodSector, sector_data}
use Rattle.disk.specs.Disk.{file_place, place_at, DiskGroup, disk_acts}
use Rattle.blocks.specs.declared.Device.TheVariants.{D}
use Rattle.blocks.specs.Blocks.{open_block, block_at}
use Rattle.blocks.specs.Opening.{area_length}
use Rattle.wire.specs.declared.Call.{Call}
use Rattle.replies.specs.Replies.{call_reply}
use Rattle.transfer.specs.Transfer.{eol}
use Rattle.devices.specs.Groups.{Groups}
use Rattle.alone.specs.Transfer.{TransferEnd, get_record}
use Rattle.alone.specs.Left.{device_left}
use Rattle.alone.specs.Alone.{Local}
use Rattle.rules.specs.ReadBack.{called_alone, status_before}

-- a GET CHARACTERS on a block that has a file open for reading, whose place is as OPEN left it
pub record GetsFile (c : Call) (l : Local) (s : Groups) (unit file first : ℕ) : Type 0 where
  pub iocb : c.iocb ≤ 7
  pub command : c.command ≡ 0x07
  pub number : ℕ
  pub aux1 : ℕ
  pub block : block_at l.table c.iocb ≡ open_block D number aux1
  pub with : bit 4 aux1 ≡ true
  pub opened : place_at l.number c.iocb s.disk.places ≡ file_place unit file first
  pub some : 0 < c.length
  pub within : c.address + c.length ≤ area_length

-- it brings the file's bytes in order, as many as it asks for, with $03 if they are the last; or those that there are, and ends with $88
pub record FileGets (c : Call) (l : Local) (s : Groups) (bytes : List ℕ) : Type 0 where
  pub brings : c.length ≤ length bytes → ((called_alone c l s).local.area ≡ sets l.area c.address (take c.length bytes))
      × ((called_alone c l s).reply ≡ call_reply (status_before (length (drop c.length bytes))) c.length c.a)
  pub ends : length bytes < c.length → ((called_alone c l s).local.area ≡ sets l.area c.address bytes)
      × ((called_alone c l s).reply ≡ call_reply 0x88 (length bytes) c.a)

-- a full sector that is linked to itself, and has no EOL
pub record Ring (images : List ℕ) (unit file sector : ℕ) : Type 0 where
  pub some : sector ≡ 0 → ⊥
  pub good : GoodSector images unit file sector
  pub full : data_count images unit sector ≡ 125
  pub linked : next_of images unit sector ≡ sector
  pub no_eol : Each (λ (byte : ℕ). byte ≡ eol → ⊥) (sector_data images unit sector)

-- GET RECORD of one character, from its OPEN: 89,875 characters and a refusal, each in its tick
pub record RingLasts (r : TransferEnd DiskGroup) (a : ℕ) : Type 0 where
  pub course : length r.course ≡ 89876
  pub status : r.status ≡ 0xA4
  pub counted : r.count ≡ 1
  pub same : r.a ≡ a

abbrev pub record_of_one : (port iocb : ℕ) → (a place : ℕ) → (area : List ℕ) → DiskGroup → TransferEnd DiskGroup
record_of_one port iocb a place area x = get_record (disk_acts (asks_on port iocb)) (device_left D port iocb) a 1 place 0 area x
