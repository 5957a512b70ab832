-- Demand 3 of every machine that meets the laws. Assumes nothing.
use mathlib.Core.Path.{◌≡◌, sym, ◌∙◌}
use Rattle.serial.specs.Machine.{port-0, port-1, Machine}
use Rattle.serial.specs.Core.{phase_at}
use Rattle.serial.specs.Calls.{core_of}
use Rattle.serial.specs.Run.{State, after, begin}
use Rattle.serial.specs.Demand3.{Whole, serial, Finished, whole_of, Demand3}
use Rattle.serial.specs.Laws.{Laws}
use Rattle.serial.proofs.Settle.{settle_quiet}
use Rattle.serial.proofs.Reading.{taken_read}
use Rattle.serial.proofs.Invariant.{Holding, reached}

module _ (M : Machine) (L : Laws M) where
  pub serial_of : (y₀ : Whole M) (s : State M (core_of M)) → Holding M L y₀ s → Finished M (core_of M) s → whole_of M (core_of M) s ≡ serial M s.seen.log y₀
  serial_of y₀ s h f =
      sym (settle_quiet M L port-0 (phase_at M port-0 s.world) _ _ (phase_at M port-1 s.world) _ _ _ f.0 f.1) ∙ h.same

  pub demand3 : Demand3 M (core_of M)
  demand3 = record {
    as_serial = λ w b cs ok. let s = begin M (core_of M) w in serial_of (whole_of M (core_of M) s) (after M (core_of M) cs s) (reached M L w b cs ok);
    taken = λ w b cs ok. let h = reached M L w b cs ok in elim [ port-0 ↦ h.own.ins | port-1 ↦ h.others.ins ];
    read = λ w b cs ok.
        let v = (after M (core_of M) cs (begin M (core_of M) w)).world in
        let h = reached M L w b cs ok in
        elim [
          | port-0 ↦ taken_read M L (phase_at M port-0 v) _ _ h.own.ins
          | port-1 ↦ taken_read M L (phase_at M port-1 v) _ _ h.others.ins
        ];
    given = λ w b cs ok. let h = reached M L w b cs ok in elim [ port-0 ↦ h.own.outs | port-1 ↦ h.others.outs ];
  }
