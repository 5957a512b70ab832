-- Wrong cores against demand 1's numbers and the serial run, each refuted by a computed run. Assumes nothing.
use mathlib.Core.Path.{◌≡◌, refl, ap}
use mathlib.Core.List.{List, [], ◌∷◌}
use Prim.Native.Nat.{ℕ}
use native.Mathlib.Omega.{arith}
use lib.ListN.{get_or}
use Rattle.serial.specs.Machine.{port-0, ReplyBytes}
use Rattle.serial.specs.Core.{CoreCall, take, tick, press, number}
use Rattle.serial.specs.Run.{after}
use Rattle.serial.specs.Demand1.{Demand1}
use Rattle.serial.specs.Demand3.{Whole, serial, SerialRule}
use Rattle.serial.proofs.Toy.{toy}
use Rattle.serial.proofs.ToyRun.{ok_by, first, led, leads}
use Rattle.serial.proofs.WrongCores.{with_call, idles, presses_through}

pub idling_wrong : Demand1 toy (with_call toy (idles toy)) → ⊥
unfolding after
idling_wrong d =
    let e = d.takes (led (idles toy) []) (leads (idles toy) [] tt) port-0 0 (omega arith) in
    let z : ◌≡◌ {A = ℕ} 4 0 = ap (number toy) e in omega arith

-- port 0 starts to read the key, which is pressed only then
abbrev read_late : List (CoreCall toy)
read_late = take port-0 1 ∷ take port-0 0 ∷ tick port-0 ∷ press 60 ∷ tick port-0 ∷ []

abbrev key_read : List (ReplyBytes ℕ) → ℕ
key_read [] = 0
key_read (r ∷ rs) = get_or r.rest 0 0

pub pressing_through_wrong : SerialRule toy (with_call toy (presses_through toy)) → ⊥
unfolding after serial
pressing_through_wrong r =
    let e = r first (refl, tt) read_late (ok_by read_late tt) (tt, tt) in
    let z : ◌≡◌ {A = ℕ} 60 255 = ap (λ (y : Whole toy). key_read y.made.zeroth) e in omega arith
