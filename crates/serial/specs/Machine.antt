-- A machine: two ports that share device groups. What document 01 says of messages, requests, devices and keys is left open.
-- Assumes nothing.
use Rattle.std.specs.Prelude.{Bool, List, ℕ, zero, suc}
use Rattle.std.proofs.Math.Option.{Option}

-- "Two ports, 0 and 1."
pub data PortName : Type 0 where
  port-0 port-1 : PortName

abbrev pub other : PortName → PortName
other port-0 = port-1
other port-1 = port-0

-- a thing for each port
pub record Two (X : Type 0) : Type 0 where
  pub zeroth : X
  pub first : X

module _ {X : Type 0} where
  abbrev pub at : PortName → Two X → X
  at port-0 t = t.zeroth
  at port-1 t = t.first

  abbrev pub set : PortName → X → Two X → Two X
  set port-0 x t = record { zeroth = x; first = t.first }
  set port-1 x t = record { zeroth = t.zeroth; first = x }

-- a reply has a byte at least
pub record ReplyBytes (Byte : Type 0) : Type 0 where
  pub head : Byte
  pub rest : List Byte

-- after its start, or a move, a request goes on or has ended with its reply
pub data Becomes (Byte Run : Type 0) : Type 0 where
  goes : Run → Becomes Byte Run
  ends : ReplyBytes Byte → Becomes Byte Run

-- what a start or a move leaves: its port's data, its group's device, and whether it goes on
pub record Step (Byte Run Local Device : Type 0) : Type 0 where
  pub local : Local
  pub dev : Device
  pub out : Becomes Byte Run

-- what a request alone leaves: its port's data, the devices, and its reply
pub record AloneLeaves (Byte Local Devs : Type 0) : Type 0 where
  pub local : Local
  pub devs : Devs
  pub reply : ReplyBytes Byte

-- a byte taken: more are to come, or it was the message's last
pub data Fed (Gather Message : Type 0) : Type 0 where
  more : Gather → Fed Gather Message
  full : Message → Fed Gather Message

-- A start and a move see their own port's data and their own group's device, and nothing else: their types say so.
pub record Machine : Type 1 where
  pub Byte : Type 0
  -- a port's data: its area and its control blocks
  pub Local : Type 0
  -- messages: what is gathered of one, and a whole one
  pub Gather : Type 0
  pub Message : Type 0
  pub none_yet : Gather
  pub feed : Gather → Byte → Fed Gather Message
  -- the device groups, "no group" among them; the devices; each group's own device among them
  pub Group : Type 0
  pub Devs : Type 0
  pub Dev : Group → Type 0
  pub get : (g : Group) → Devs → Dev g
  pub put : (g : Group) → Dev g → Devs → Devs
  -- two requests of these groups may not run at once
  pub clash : Group → Group → Bool
  -- the group that a request needs, its start, and its move of one character
  pub Run : Type 0
  pub need : Local → Message → Group
  pub start : (g : Group) → Message → Local → Dev g → Step Byte Run Local (Dev g)
  pub move : (g : Group) → Run → Local → Dev g → Step Byte Run Local (Dev g)
  -- "ends within 61,441 further ticks of its port"
  pub fuel : ℕ
  -- demand 2's request alone
  pub alone : Message → Local → Devs → AloneLeaves Byte Local Devs
  -- keys; none where the console refuses one
  pub Key : Type 0
  pub console : Group
  pub hit : Key → Dev console → Option (Dev console)
  -- what a byte is; which bytes are gathered so far; which bytes spell a message
  pub OkByte : Byte → Type 0
  pub Gathered : List Byte → Gather → Type 0
  pub Spells : List Byte → Message → Type 0
  -- what is not damaged: both ports' data with the devices, and what runs at a port
  pub Fit : Two Local → Devs → Type 0
  pub OkRun : (g : Group) → Run → Local → Dev g → Type 0

module _ (M : Machine) where
  open M use {Byte, Local, Run, Group, Dev, move}

  abbrev pub StepOf : Group → Type 0
  StepOf g = Step Byte Run Local (Dev g)

  -- at most n moves more
  unfoldable pub finish_out : ℕ → (g : Group) → Becomes Byte Run → Local → Dev g → StepOf g
  finish_out zero g (goes k) l x = record { local = l; dev = x; out = goes k }
  finish_out zero g (ends r) l x = record { local = l; dev = x; out = ends r }
  finish_out (suc n) g (goes k) l x = let s = move g k l x in finish_out n g s.out s.local s.dev
  finish_out (suc n) g (ends r) l x = record { local = l; dev = x; out = ends r }

  abbrev pub finish : ℕ → (g : Group) → StepOf g → StepOf g
  finish n g s = finish_out n g s.out s.local s.dev
