-- The wrong cores that document 01 lists, and some more, of any machine: its own core with one call done otherwise. Which
-- statement rules out which is proved of the toy machine in the other Wrong files, by computed runs. Assumes nothing.
use mathlib.Core.Bool.{false}
use Prim.Native.Nat.{ℕ, suc}
use Rattle.serial.specs.Machine.{PortName, port-0, set, other, ReplyBytes, Machine}
use Rattle.serial.specs.Core.{Phase, gathering, ready, running, replying, View, phase_at, local_at, CoreCall, take, tick, give, press, Answer, done, not-gathering, no_byte, console-held, idle, group-held, Effect, Core}
use Rattle.serial.specs.Calls.{call_of, press_if, FreshView, core_of}
use Rattle.serial.specs.Demand2.{ticked}

module _ (M : Machine) where
  open M use {Byte, get, console, hit}

  abbrev pub Calls : Type 0
  Calls = CoreCall M → View M → Effect M (View M)

  -- the machine's ports and devices, with other calls
  abbrev pub with_call : Calls → Core M
  with_call f = record { World = View M; Fresh = FreshView M; call = f; see = λ v. v }

  abbrev pub still : Answer M → View M → Effect M (View M)
  still a v = record { world = v; answer = a }

  -- port p comes to reply
  abbrev pub replied : PortName → ReplyBytes Byte → View M → View M
  replied p r v = record { ports = set p (record { local = local_at M p v; phase = replying r }) v.ports; devs = v.devs }

  -- another tick where the port is ready, or runs
  abbrev pub at_ready : Phase M → (PortName → View M → Effect M (View M)) → PortName → View M → Effect M (View M)
  at_ready (gathering x) f p v = call_of M (tick p) v
  at_ready (ready m) f p v = f p v
  at_ready (running g k) f p v = call_of M (tick p) v
  at_ready (replying r) f p v = call_of M (tick p) v

  abbrev pub at_running : Phase M → (PortName → View M → Effect M (View M)) → PortName → View M → Effect M (View M)
  at_running (gathering x) f p v = call_of M (tick p) v
  at_running (ready m) f p v = call_of M (tick p) v
  at_running (running g k) f p v = f p v
  at_running (replying r) f p v = call_of M (tick p) v

  abbrev pub when_ticked : (PortName → View M → Effect M (View M)) → Calls
  when_ticked f (take p b) v = call_of M (take p b) v
  when_ticked f (tick p) v = f p v
  when_ticked f (give p) v = call_of M (give p) v
  when_ticked f (press c) v = call_of M (press c) v

  abbrev pub when_ready : (PortName → View M → Effect M (View M)) → Calls
  when_ready f = when_ticked (λ p v. at_ready (phase_at M p v) f p v)

  abbrev pub when_running : (PortName → View M → Effect M (View M)) → Calls
  when_running f = when_ticked (λ p v. at_running (phase_at M p v) f p v)

  -- "an idle core earns nothing": every call is refused
  abbrev pub idles : Calls
  idles (take p b) v = still not-gathering v
  idles (tick p) v = still idle v
  idles (give p) v = still no_byte v
  idles (press c) v = still console-held v

  -- a key is taken while a request holds the console
  abbrev pub presses_through : Calls
  presses_through (take p b) v = call_of M (take p b) v
  presses_through (tick p) v = call_of M (tick p) v
  presses_through (give p) v = call_of M (give p) v
  presses_through (press c) v = press_if M false (hit c (get console v.devs)) v

  -- "Never starting a request": every ready port is answered 8; or 0, and nothing done
  abbrev pub never_starts : Calls
  never_starts = when_ready (λ p v. still group-held v)

  abbrev pub pretends : Calls
  pretends = when_ready (λ p v. still done v)

  -- "One lock over both groups": a ready port is answered 8 while the other runs anything
  abbrev pub locked_by : Phase M → PortName → View M → Effect M (View M)
  locked_by (gathering x) p v = call_of M (tick p) v
  locked_by (ready m) p v = call_of M (tick p) v
  locked_by (running g k) p v = still group-held v
  locked_by (replying r) p v = call_of M (tick p) v

  abbrev pub one_lock : Calls
  one_lock = when_ready (λ p v. locked_by (phase_at M (other p) v) p v)

  -- a tick that moves nothing and answers 0
  abbrev pub moves_nothing : Calls
  moves_nothing = when_running (λ p v. still done v)

  -- "Moving all in the start tick": n moves more
  abbrev pub all_at_once : ℕ → Calls
  all_at_once n = when_ready (λ p v. record { world = ticked M (core_of M) (suc n) p v; answer = done })

  -- "Doing the first character and claiming the rest", with this reply
  abbrev pub first_only : ReplyBytes Byte → Calls
  first_only r = when_running (λ p v. record { world = replied p r (call_of M (tick p) v).world; answer = done })

  -- "Always refusing, or always status 1": this reply, whatever is asked
  abbrev pub always : ReplyBytes Byte → Calls
  always r = when_ready (λ p v. record { world = replied p r v; answer = done })

  -- "Mixing two ports' bytes on the way in": one command buffer, port 0's
  abbrev pub one_buffer : Calls
  one_buffer (take p b) v = call_of M (take port-0 b) v
  one_buffer (tick p) v = call_of M (tick p) v
  one_buffer (give p) v = call_of M (give p) v
  one_buffer (press c) v = call_of M (press c) v

  -- "or out": a port is given the other's reply
  abbrev pub crossed : Calls
  crossed (take p b) v = call_of M (take p b) v
  crossed (tick p) v = call_of M (tick p) v
  crossed (give p) v = call_of M (give (other p)) v
  crossed (press c) v = call_of M (press c) v

  -- "Choosing the reply port when the request ends": the reply goes to the other port, where that gathers
  abbrev pub handed_over : Phase M → Phase M → PortName → View M → View M
  handed_over (replying r) (gathering x) p v =
      replied (other p) r (record { ports = set p (record { local = local_at M p v; phase = gathering x }) v.ports; devs = v.devs })
  handed_over (replying r) (ready m) p v = v
  handed_over (replying r) (running g k) p v = v
  handed_over (replying r) (replying q) p v = v
  handed_over (gathering x) b p v = v
  handed_over (ready m) b p v = v
  handed_over (running g k) b p v = v

  abbrev pub wrong_host : Calls
  wrong_host = when_ticked (λ p v.
      let e = call_of M (tick p) v in
      record { world = handed_over (phase_at M p e.world) (phase_at M (other p) e.world) p e.world; answer = e.answer })
