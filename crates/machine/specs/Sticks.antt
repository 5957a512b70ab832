-- The core of the five calls (`stick`), as a host can see it: the state with its six lent buffers, and what of it is a port's own,
-- what a group's.
-- Assumes nothing.
use Rattle.std.specs.Prelude.{◌≡◌, List, ℕ, ◌-◌, eqb, drop}
use Rattle.std.proofs.Math.ListN as lists
use Rattle.base.specs.Choice.{pick}
use Rattle.blocks.specs.declared.Phase as blocks
use Rattle.blocks.specs.declared.Phase.TheVariants as phase
use Rattle.blocks.specs.declared.Port as blocks_port
use Rattle.wire.specs.Messages.{message_of}
use Rattle.layout.specs.Stick.{Stick, Lent}
use Rattle.devices.specs.Groups.{group_of}
use Rattle.calls.specs.Stick.{Outcome, Guarded, room_at, area_at, groups_at}
use Rattle.calls.specs.Calls.{fresh_call, take_call, tick_call, give_call, press_call}
use Rattle.alone.specs.Alone.{local, said_of}
use Rattle.serial.specs.Machine.{PortName, port-0, port-1}
use Rattle.serial.specs.Core.{Phase, gathering, ready, running, replying, PortView, View, CoreCall, take, tick, give, press, Answer, done, gave, not-gathering, no_byte, console-held, idle, group-held, key-refused, Effect, Core}
use Rattle.machine.specs.Spells.{gathers, kept_value}
use Rattle.machine.specs.Real.{reply_by, real}

-- a state and its six lent buffers
pub record World : Type 0 where
  pub stick : Stick
  pub buffers : Lent

-- "A port gathers, is ready, runs, replies": with the bytes of its room that are the message's, or what is left of the reply
abbrev pub phase_seen : blocks.Phase → (room : List ℕ) → Phase real
phase_seen (phase.Gathering n) room = gathering (gathers n (kept_value n.tag n.length (lists.take (n.taken - 3) room)))
phase_seen (phase.Ready header) room = ready (said_of (message_of header room) room)
phase_seen (phase.Running run) room = running (group_of run.device) run
phase_seen (phase.Replying reply) room = replying (reply_by (drop reply.given (lists.take reply.length room)))

-- "Each has eight control blocks (IOCBs 0 to 7), a 16,384-byte area, and room to gather one message."
abbrev pub port_seen : (number : ℕ) → blocks_port.Port → (room half : List ℕ) → PortView real
port_seen number port room half = record { local = local number port.table half; phase = phase_seen port.phase room }

abbrev pub view_of : World → View real
view_of w =
    let s = w.stick in
    let l = w.buffers in
    record {
      ports = record { zeroth = port_seen 0 s.port0 (room_at 0 l) (area_at 0 l); first = port_seen 1 s.port1 (room_at 1 l) (area_at 1 l) };
      devs = groups_at s l;
    }

abbrev pub port_number : PortName → ℕ
port_number port-0 = 0
port_number port-1 = 1

-- the table's numbers; no call of a run's ports, with the run's own state and buffers, is answered another (`numbers` in Linked)
abbrev pub answer_by : Answer real → ℕ → Answer real
answer_by on-0 number =
    pick (eqb number 0) on-0
    (pick (eqb number 4) not-gathering
    (pick (eqb number 5) no_byte
    (pick (eqb number 6) console-held
    (pick (eqb number 7) idle
    (pick (eqb number 8) group-held
    key-refused)))))

abbrev pub effect_by : Answer real → Outcome → Effect real World
effect_by on-0 o = record { world = record { stick = o.stick; buffers = o.lent }; answer = answer_by on-0 o.answer }

-- "Fresh start; take a byte; tick a port; give the next reply byte; press a key."
abbrev pub outcome_of : CoreCall real → World → Outcome
outcome_of (take p byte) w = take_call w.stick w.buffers (port_number p) byte
outcome_of (tick p) w = tick_call w.stick w.buffers (port_number p)
outcome_of (give p) w = give_call w.stick w.buffers (port_number p)
outcome_of (press code) w = press_call w.stick w.buffers code

-- a call that gives a byte gives it with 0
abbrev pub success : CoreCall real → Outcome → Answer real
success (take p byte) o = done
success (tick p) o = done
success (give p) o = gave o.byte
success (press code) o = done

abbrev pub called : CoreCall real → World → Effect real World
called c w = let o = outcome_of c w in effect_by (success c o) o

-- "after one fresh start that gives 0", whatever state and buffers held before
pub record StartedFresh (w : World) : Type 0 where
  pub before : Stick
  pub borrowed : Lent
  pub zero : (fresh_call before borrowed).answer ≡ 0
  pub stick : (fresh_call before borrowed).stick ≡ w.stick
  pub buffers : (fresh_call before borrowed).lent ≡ w.buffers

abbrev pub sticks : Core real
sticks = record { World = World; Fresh = StartedFresh; call = called; see = view_of }

-- undamaged, and each lent buffer of its length: what every call tests first
abbrev pub Sound : World → Type 0
Sound w = Guarded w.stick w.buffers
