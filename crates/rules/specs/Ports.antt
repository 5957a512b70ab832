-- What a call leaves alone: the other port; of a take, a give and a press also the port's own blocks and area, and the devices. (What
-- a tick does to its own port and its group's device, and that it leaves the other groups, is demand 2.)
-- Assumes nothing.
use Rattle.std.specs.Prelude.{◌≡◌, ◌⊎◌, ℕ, eqb}
use Rattle.base.specs.Choice.{pick}
use Rattle.console.specs.Group.{pressed_of}
use Rattle.layout.specs.Stick.{Stick, Lent, port_at, other_at}
use Rattle.calls.specs.Stick.{Outcome, area_at, room_at}

-- the other port
abbrev pub other_number : ℕ → ℕ
other_number port = pick (eqb port 0) 1 0

-- the other port's blocks and phase, its room and its half of the area are as they were
pub record OtherStays (port : ℕ) (s : Stick) (l : Lent) (o : Outcome) : Type 0 where
  pub state : other_at port o.stick ≡ other_at port s
  pub room : room_at (other_number port) o.lent ≡ room_at (other_number port) l
  pub half : area_at (other_number port) o.lent ≡ area_at (other_number port) l

-- only the port's own phase and room are others
pub record OnlyOwn (port : ℕ) (s : Stick) (l : Lent) (o : Outcome) : Type 0 where
  pub others : OtherStays port s l o
  pub blocks : (port_at port o.stick).table ≡ (port_at port s).table
  pub devices : o.stick.devices ≡ s.devices
  pub area : o.lent.area ≡ l.area
  pub screen : o.lent.screen ≡ l.screen
  pub paper : o.lent.paper ≡ l.paper
  pub tape : o.lent.tape ≡ l.tape
  pub images : o.lent.images ≡ l.images

-- only the port's own phase is another
pub record OnlyPhase (port : ℕ) (s : Stick) (l : Lent) (o : Outcome) : Type 0 where
  pub state : other_at port o.stick ≡ other_at port s
  pub blocks : (port_at port o.stick).table ≡ (port_at port s).table
  pub devices : o.stick.devices ≡ s.devices
  pub buffers : o.lent ≡ l

-- only the key that waits on the keyboard is another, the pressed one, not its lock nor inverse
pub record OnlyKey (code : ℕ) (s : Stick) (l : Lent) (o : Outcome) : Type 0 where
  pub port0 : o.stick.port0 ≡ s.port0
  pub port1 : o.stick.port1 ≡ s.port1
  pub console : (o.stick.devices.console ≡ s.devices.console) ⊎ (o.stick.devices.console ≡ pressed_of code s.devices.console)
  pub printer : o.stick.devices.printer ≡ s.devices.printer
  pub cassette : o.stick.devices.cassette ≡ s.devices.cassette
  pub pending : o.stick.devices.pending ≡ s.devices.pending
  pub places : o.stick.devices.places ≡ s.devices.places
  pub buffers : o.lent ≡ l
