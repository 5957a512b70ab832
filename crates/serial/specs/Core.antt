-- A core, of which nothing is known but what can be seen of it: its calls with their answers, and its ports and devices.
-- The machine's own core is in Calls.antt; a wrong one can be written as well. Assumes nothing.
use Rattle.std.specs.Prelude.{◌≡◌, true, ℕ}
use Rattle.serial.specs.Machine.{PortName, Two, at, ReplyBytes, Machine}

module _ (M : Machine) where
  open M use {Byte, Local, Gather, Message, Group, Devs, clash, Run, Key}

  -- "A port gathers, is ready, runs, replies, and gathers again as soon as its whole reply is given."
  pub data Phase : Type 0 where
    gathering : Gather → Phase
    ready : Message → Phase
    running : Group → Run → Phase
    replying : ReplyBytes Byte → Phase

  -- a request runs in this phase; none does
  abbrev pub Runs : Phase → Type 0
  Runs (gathering x) = ⊥
  Runs (ready m) = ⊥
  Runs (running g k) = Unit {0}
  Runs (replying r) = ⊥

  abbrev pub Quiet : Phase → Type 0
  Quiet (gathering x) = Unit {0}
  Quiet (ready m) = Unit {0}
  Quiet (running g k) = ⊥
  Quiet (replying r) = Unit {0}

  -- this port "holds the device group": it runs a request of a group that clashes with this one
  abbrev pub Held : Group → Phase → Type 0
  Held g (gathering x) = ⊥
  Held g (ready m) = ⊥
  Held g (running h k) = (clash g h ≡ true)
  Held g (replying r) = ⊥

  -- what is seen of a port, and of all
  pub record PortView : Type 0 where
    pub local : Local
    pub phase : Phase

  pub record View : Type 0 where
    pub ports : Two PortView
    pub devs : Devs

  abbrev pub phase_at : PortName → View → Phase
  phase_at p v = (at p v.ports).phase

  abbrev pub local_at : PortName → View → Local
  local_at p v = (at p v.ports).local

  abbrev pub locals : View → Two Local
  locals v = record { zeroth = v.ports.zeroth.local; first = v.ports.first.local }

  -- "Fresh start; take a byte; tick a port; give the next reply byte; press a key." The run begins with the first.
  pub data CoreCall : Type 0 where
    take : PortName → Byte → CoreCall
    tick : PortName → CoreCall
    give : PortName → CoreCall
    press : Key → CoreCall

  pub data Answer : Type 0 where
    done : Answer
    gave : Byte → Answer
    not-gathering no_byte console-held idle group-held key-refused : Answer

  -- the table's numbers; a console that refuses a key has one of its own, as none of document 01's does
  abbrev pub number : Answer → ℕ
  number done = 0
  number (gave b) = 0
  number not-gathering = 4
  number no_byte = 5
  number console-held = 6
  number idle = 7
  number group-held = 8
  number key-refused = 9

  pub record Effect (World : Type 0) : Type 0 where
    pub world : World
    pub answer : Answer

  pub record Core : Type 1 where
    pub World : Type 0
    -- as a fresh start that gives 0 leaves it
    pub Fresh : World → Type 0
    pub call : CoreCall → World → Effect World
    pub see : World → View
