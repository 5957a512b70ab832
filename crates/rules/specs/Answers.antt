-- Document 01, Calls: when each number is given: "each is given exactly then. Order: 2, 3, 1, the rest; fresh start gives 0 or 2 only."
-- Assumes nothing.
use Rattle.std.specs.Prelude.{◌≡◌, ◌↔◌, ◌⊎◌, Bool, true, false, List, [], ◌∷◌, ℕ, ◌<◌, ◌≤◌, eqb}
use Rattle.base.specs.Choice.{or}
use Rattle.blocks.specs.declared.Header.{Header}
use Rattle.blocks.specs.declared.Phase.{Phase}
use Rattle.blocks.specs.declared.Phase.TheVariants.{Gathering, Ready, Running, Replying}
use Rattle.wire.specs.Messages.{message_of}
use Rattle.layout.specs.Stick.{Stick, Lent, port_at, other_at}
use Rattle.devices.specs.declared.Group.{Group}
use Rattle.devices.specs.declared.Group.TheVariants as groups
use Rattle.devices.specs.Groups.{group_of}
use Rattle.plan.specs.Plan.{need_of}
use Rattle.damage.specs.Fits.{stick_fits}
use Rattle.calls.specs.Stick.{LengthsFit, Guarded, area_at, room_at}

-- "2 a lent buffer has another length", shorter or longer
abbrev pub OtherLength : Lent → Type 0
OtherLength l = LengthsFit l → ⊥

-- "3 damaged state", where the lengths fit
pub record Damaged (s : Stick) (l : Lent) : Type 0 where
  pub lengths : LengthsFit l
  pub damaged : stick_fits s l ≡ false

-- "1 port above 1", where the lengths fit and the state is undamaged
pub record Above (s : Stick) (l : Lent) (port : ℕ) : Type 0 where
  pub sound : Guarded s l
  pub above : 1 < port

-- "the rest": none of the three
pub record Unrefused (s : Stick) (l : Lent) (port : ℕ) : Type 0 where
  pub sound : Guarded s l
  pub has : port ≤ 1

-- "the rest" by what the port does: "A port gathers, is ready, runs, replies"
pub record PortIs (Is : Phase → Type 0) (s : Stick) (l : Lent) (port : ℕ) : Type 0 where
  pub called : Unrefused s l port
  pub phase : Is (port_at port s).phase

abbrev pub Gathers : Phase → Type 0
Gathers (Gathering gather) = Unit {0}
Gathers (Ready header) = ⊥
Gathers (Running run) = ⊥
Gathers (Replying reply) = ⊥

abbrev pub IsReady : Phase → Type 0
IsReady (Gathering gather) = ⊥
IsReady (Ready header) = Unit {0}
IsReady (Running run) = ⊥
IsReady (Replying reply) = ⊥

abbrev pub Runs : Phase → Type 0
Runs (Gathering gather) = ⊥
Runs (Ready header) = ⊥
Runs (Running run) = Unit {0}
Runs (Replying reply) = ⊥

abbrev pub Replies : Phase → Type 0
Replies (Gathering gather) = ⊥
Replies (Ready header) = ⊥
Replies (Running run) = ⊥
Replies (Replying reply) = Unit {0}

-- "4 byte offered while not gathering"
abbrev pub NotGathers : Phase → Type 0
NotGathers phase = Gathers phase → ⊥

-- "5 no reply byte to give"
abbrev pub NotReplies : Phase → Type 0
NotReplies phase = Replies phase → ⊥

-- "7 tick, nothing ready or running"
abbrev pub Idle : Phase → Type 0
Idle phase = (IsReady phase → ⊥) × (Runs phase → ⊥)

-- "A request holds only the group it needs, from its start tick through its last."
abbrev pub Holds : Phase → Group → Type 0
Holds (Gathering gather) group = ⊥
Holds (Ready header) group = ⊥
Holds (Running run) group = group_of run.device ≡ group
Holds (Replying reply) group = ⊥

-- "6 key pressed while a request holds the console"
pub record ConsoleHeld (s : Stick) (l : Lent) : Type 0 where
  pub sound : Guarded s l
  pub held : Holds s.port0.phase groups.Console ⊎ Holds s.port1.phase groups.Console

-- no request does
pub record ConsoleFree (s : Stick) (l : Lent) : Type 0 where
  pub sound : Guarded s l
  pub free : (Holds s.port0.phase groups.Console ⊎ Holds s.port1.phase groups.Console) → ⊥

-- the group that a port's ready message needs: "A CALL past the $82 check needs its device's group; CLOSE of a closed block, LOAD,
-- FETCH and refused messages need none"
abbrev pub need_at : Header → (port : ℕ) → Stick → Lent → Group
need_at header port s l = need_of (message_of header (room_at port l)) (port_at port s).table (area_at port l)

-- "8 tick, ready, group held by the other port"
abbrev pub Waits : Stick → Lent → (port : ℕ) → Phase → Type 0
Waits s l port (Gathering gather) = ⊥
Waits s l port (Ready header) = Holds (other_at port s).phase (need_at header port s l)
Waits s l port (Running run) = ⊥
Waits s l port (Replying reply) = ⊥

-- a tick that is done: the port runs, or is ready and the other port does not hold the group
abbrev pub TickDone : Stick → Lent → (port : ℕ) → Phase → Type 0
TickDone s l port (Gathering gather) = ⊥
TickDone s l port (Ready header) = Holds (other_at port s).phase (need_at header port s l) → ⊥
TickDone s l port (Running run) = Unit {0}
TickDone s l port (Replying reply) = ⊥

-- one of these numbers
abbrev pub one_of : List ℕ → ℕ → Bool
one_of [] answer = false
one_of (n ∷ ns) answer = or (eqb answer n) (one_of ns answer)

-- "fresh start gives 0 or 2 only"
pub record FreshAnswers (l : Lent) (answer : ℕ) : Type 0 where
  -- "2 a lent buffer has another length"
  pub lengths : (answer ≡ 2) ↔ OtherLength l
  pub done : (answer ≡ 0) ↔ LengthsFit l
  pub numbers : one_of (0 ∷ 2 ∷ []) answer ≡ true

-- "Order: 2, 3, 1, the rest"
pub record FirstAnswers (s : Stick) (l : Lent) (port answer : ℕ) : Type 0 where
  -- "2 a lent buffer has another length"
  pub lengths : (answer ≡ 2) ↔ OtherLength l
  -- "3 damaged state"
  pub damaged : (answer ≡ 3) ↔ Damaged s l
  -- "1 port above 1"
  pub above : (answer ≡ 1) ↔ Above s l port

pub record TakeAnswers (s : Stick) (l : Lent) (port answer : ℕ) : Type 0 where
  pub first : FirstAnswers s l port answer
  -- "4 byte offered while not gathering"
  pub offered : (answer ≡ 4) ↔ PortIs NotGathers s l port
  pub done : (answer ≡ 0) ↔ PortIs Gathers s l port
  pub numbers : one_of (0 ∷ 1 ∷ 2 ∷ 3 ∷ 4 ∷ []) answer ≡ true

pub record TickAnswers (s : Stick) (l : Lent) (port answer : ℕ) : Type 0 where
  pub first : FirstAnswers s l port answer
  -- "7 tick, nothing ready or running"
  pub idle : (answer ≡ 7) ↔ PortIs Idle s l port
  -- "8 tick, ready, group held by the other port"
  pub waits : (answer ≡ 8) ↔ PortIs (Waits s l port) s l port
  pub done : (answer ≡ 0) ↔ PortIs (TickDone s l port) s l port
  pub numbers : one_of (0 ∷ 1 ∷ 2 ∷ 3 ∷ 7 ∷ 8 ∷ []) answer ≡ true

pub record GiveAnswers (s : Stick) (l : Lent) (port answer : ℕ) : Type 0 where
  pub first : FirstAnswers s l port answer
  -- "5 no reply byte to give"
  pub none : (answer ≡ 5) ↔ PortIs NotReplies s l port
  pub done : (answer ≡ 0) ↔ PortIs Replies s l port
  pub numbers : one_of (0 ∷ 1 ∷ 2 ∷ 3 ∷ 5 ∷ []) answer ≡ true

-- a key has no port
pub record PressAnswers (s : Stick) (l : Lent) (answer : ℕ) : Type 0 where
  -- "2 a lent buffer has another length"
  pub lengths : (answer ≡ 2) ↔ OtherLength l
  -- "3 damaged state"
  pub damaged : (answer ≡ 3) ↔ Damaged s l
  -- "6 key pressed while a request holds the console"
  pub held : (answer ≡ 6) ↔ ConsoleHeld s l
  pub done : (answer ≡ 0) ↔ ConsoleFree s l
  pub numbers : one_of (0 ∷ 2 ∷ 3 ∷ 6 ∷ []) answer ≡ true
