-- Wrong cores against the last sentence of demand 3, each refuted by a computed run. Assumes nothing.
use mathlib.Core.Path.{◌≡◌, refl, ◌∙◌, ap}
use mathlib.Core.List.{List, [], ◌∷◌, ◌++◌}
use Prim.Native.Nat.{ℕ}
use native.Mathlib.Omega.{arith}
use lib.ListN.{length}
use Rattle.serial.specs.Machine.{port-0, port-1}
use Rattle.serial.specs.Core.{CoreCall, take, tick, give}
use Rattle.serial.specs.Run.{after}
use Rattle.serial.specs.Reading.{Spelled}
use Rattle.serial.specs.Demand3.{requests_of, TakenRule, GivenRule, bytes_of_all}
use Rattle.serial.proofs.Toy.{toy}
use Rattle.serial.proofs.ToyRun.{ok_by, first}
use Rattle.serial.proofs.WrongCores.{with_call, one_buffer, crossed, wrong_host}

pub mixed_in_wrong : TakenRule toy (with_call toy (one_buffer toy)) → ⊥
unfolding after requests_of Spelled
mixed_in_wrong r =
    let t = r first (refl, tt) (take port-1 5 ∷ []) (ok_by (take port-1 5 ∷ []) tt) port-1 in
    let e : ◌≡◌ {A = List ℕ} (5 ∷ []) [] = t.all ∙ ap (λ (z : List ℕ). z ++ t.behind) t.spelled ∙ t.still in
    let z : ◌≡◌ {A = ℕ} 1 0 = ap length e in omega arith

-- port 0's request is done, and port 1 is asked for a byte
abbrev given_across : List (CoreCall toy)
given_across = take port-0 0 ∷ take port-0 7 ∷ tick port-0 ∷ give port-1 ∷ []

pub mixed_out_wrong : GivenRule toy (with_call toy (crossed toy)) → ⊥
unfolding after bytes_of_all
mixed_out_wrong r =
    let e : ◌≡◌ {A = List ℕ} (144 ∷ []) [] = r first (refl, tt) given_across (ok_by given_across tt) port-1 in
    let z : ◌≡◌ {A = ℕ} 1 0 = ap length e in omega arith

pub wrong_host_wrong : GivenRule toy (with_call toy (wrong_host toy)) → ⊥
unfolding after bytes_of_all
wrong_host_wrong r =
    let e : ◌≡◌ {A = List ℕ} (144 ∷ 1 ∷ []) [] = r first (refl, tt) given_across (ok_by given_across tt) port-1 in
    let z : ◌≡◌ {A = ℕ} 2 0 = ap length e in omega arith
