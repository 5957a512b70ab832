-- "No state reached from fresh by these calls is damaged." Assumes nothing.
use Rattle.std.specs.Prelude.{◌≡◌, false, List}
use Rattle.serial.specs.Machine.{PortName, port-0, port-1, Machine}
use Rattle.serial.specs.Core.{Phase, gathering, ready, running, replying, View, phase_at, local_at, locals, Core}
use Rattle.serial.specs.Run.{Reached}

module _ (M : Machine) where
  open M use {Byte, Local, Devs, get, clash, Gathered, Spells, Fit, OkRun}

  -- "a stored number outside its range", "a running request whose block, group, mode or buffer does not fit it": none of these
  abbrev pub OkPhase : Phase M → Local → Devs → Type 0
  OkPhase (gathering x) l d = (bs : List Byte) × Gathered bs x
  OkPhase (ready m) l d = (bs : List Byte) × Spells bs m
  OkPhase (running g k) l d = OkRun g k l (get g d)
  OkPhase (replying r) l d = Unit {0}

  -- "both ports holding one group": not so
  abbrev pub Apart : Phase M → Phase M → Type 0
  Apart (gathering x) b = Unit {0}
  Apart (ready m) b = Unit {0}
  Apart (running g k) (gathering x) = Unit {0}
  Apart (running g k) (ready m) = Unit {0}
  Apart (running g k) (running h j) = (clash g h ≡ false)
  Apart (running g k) (replying r) = Unit {0}
  Apart (replying r) b = Unit {0}

  pub record Undamaged (v : View M) : Type 0 where
    pub fit : Fit (locals M v) v.devs
    pub phases : (p : PortName) → OkPhase (phase_at M p v) (local_at M p v) v.devs
    pub apart : Apart (phase_at M port-0 v) (phase_at M port-1 v)

  abbrev pub NeverDamaged : Core M → Type 0
  NeverDamaged C = (w : C.World) → Reached M C w → Undamaged (C.see w)
