-- "No state reached from fresh by these calls is damaged", of every machine that meets the laws. Assumes nothing.
use mathlib.Core.Path.{◌≡◌, subst}
use mathlib.Core.Bool.{false}
use mathlib.Core.List.{List}
use Rattle.serial.specs.Machine.{port-0, port-1, Machine}
use Rattle.serial.specs.Core.{Phase, gathering, ready, running, replying, phase_at}
use Rattle.serial.specs.Calls.{core_of}
use Rattle.serial.specs.Run.{State, after, begin, PortSeen}
use Rattle.serial.specs.Undamaged.{OkPhase, Apart, Undamaged, NeverDamaged}
use Rattle.serial.specs.Demand3.{Whole, whole_of}
use Rattle.serial.specs.Laws.{Laws}
use Rattle.serial.proofs.Settle.{meets}
use Rattle.serial.proofs.Port.{PortInv}
use Rattle.serial.proofs.Invariant.{Holding, reached}

module _ (M : Machine) (L : Laws M) where
  open M use {Message, Local, Devs}

  port_ok : (a : Phase M) (l : Local) (d : Devs) (u : PortSeen M) (ms : List Message) → PortInv M L a l d u ms → OkPhase M a l d
  port_ok (gathering x) l d u ms h = (h.ins.behind, h.ins.still)
  port_ok (ready m) l d u ms h = (h.ins.behind, h.ins.still)
  port_ok (running g k) l d u ms h = h.pend.0
  port_ok (replying r) l d u ms h = tt

  apart_ok : (a b : Phase M) → meets M L a b ≡ false → Apart M a b
  apart_ok (gathering x) b e = tt
  apart_ok (ready m) b e = tt
  apart_ok (running g k) (gathering x) e = tt
  apart_ok (running g k) (ready m) e = tt
  apart_ok (running g k) (running h j) e = e
  apart_ok (running g k) (replying r) e = tt
  apart_ok (replying r) b e = tt

  pub undamaged_of : (y₀ : Whole M) (s : State M (core_of M)) → Holding M L y₀ s → Undamaged M s.world
  undamaged_of y₀ s h = record {
    fit = h.fit;
    phases = elim [ port-0 ↦ port_ok (phase_at M port-0 s.world) _ _ _ _ h.own | port-1 ↦ port_ok (phase_at M port-1 s.world) _ _ _ _ h.others ];
    apart = apart_ok (phase_at M port-0 s.world) (phase_at M port-1 s.world) h.apart;
  }

  pub never_damaged : NeverDamaged M (core_of M)
  never_damaged w r =
      let s = begin M (core_of M) r.from in
      subst (Undamaged M) r.there (undamaged_of (whole_of M (core_of M) s) (after M (core_of M) r.calls s) (reached M L r.from r.begun r.calls r.ok))
