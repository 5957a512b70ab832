-- Wrong cores against one character a tick, the bound and the request alone, each refuted by a computed run. Assumes nothing.
use mathlib.Core.Path.{◌≡◌, refl, ap}
use mathlib.Core.List.{List, [], ◌∷◌}
use Prim.Native.Nat.{ℕ}
use native.Mathlib.Omega.{arith}
use lib.ListN.{length, get_or}
use Rattle.serial.specs.Machine.{port-0}
use Rattle.serial.specs.Core.{Phase, gathering, ready, running, replying, View, phase_at, CoreCall, take, tick}
use Rattle.serial.specs.Run.{after}
use Rattle.serial.specs.Demand2.{OneCharacter, Bound, AloneRule, ticks, ticked}
use Rattle.serial.proofs.Toy.{toy, printer, replies}
use Rattle.serial.proofs.ToyRun.{ok_by, led, leads}
use Rattle.serial.proofs.WrongCores.{with_call, moves_nothing, all_at_once, first_only, always}

abbrev printed : View toy → ℕ
printed v = length v.devs.paper

abbrev status : Phase toy → ℕ
status (gathering x) = 0
status (ready m) = 0
status (running g k) = 0
status (replying r) = get_or r.rest 0 0

-- port 0 is to print two stars; and has started
abbrev asks : List (CoreCall toy)
asks = take port-0 2 ∷ take port-0 2 ∷ []

abbrev printing : List (CoreCall toy)
printing = take port-0 2 ∷ take port-0 2 ∷ tick port-0 ∷ []

pub moving_nothing_wrong : OneCharacter toy (with_call toy (moves_nothing toy)) → ⊥
unfolding after
moving_nothing_wrong o =
    let e = (o.move_tick (led (moves_nothing toy) printing) (leads (moves_nothing toy) printing tt) port-0 printer 1 refl).1 in
    let z : ◌≡◌ {A = ℕ} 0 1 = ap printed e in omega arith

-- and it never ends
pub never_ending_wrong : Bound toy (with_call toy (moves_nothing toy)) → ⊥
unfolding after ticks
never_ending_wrong b =
    let three = tick port-0 ∷ tick port-0 ∷ tick port-0 ∷ [] in
    let z = b (led (moves_nothing toy) printing) (leads (moves_nothing toy) printing tt) port-0 three (ok_by three tt) (tt, (tt, (tt, tt))) in omega arith

pub all_at_once_wrong : OneCharacter toy (with_call toy (all_at_once toy 3)) → ⊥
unfolding after ticked
all_at_once_wrong o =
    let e = o.start_tick (led (all_at_once toy 3) asks) (leads (all_at_once toy 3) asks tt) port-0 (record { tag = 2; value = 2 }) refl (λ h. h) in
    let z : ◌≡◌ {A = ℕ} 2 0 = ap printed e in omega arith

pub first_only_wrong : AloneRule toy (with_call toy (first_only toy (replies 1))) → ⊥
unfolding after ticked
first_only_wrong a =
    let e = a (led (first_only toy (replies 1)) asks) (leads (first_only toy (replies 1)) asks tt) port-0 (record { tag = 2; value = 2 }) refl (λ h. h) in
    let z : ◌≡◌ {A = ℕ} 1 2 = ap printed e in omega arith

pub always_refusing_wrong : AloneRule toy (with_call toy (always toy (replies 132))) → ⊥
unfolding after ticked
always_refusing_wrong a =
    let e = a (led (always toy (replies 132)) asks) (leads (always toy (replies 132)) asks tt) port-0 (record { tag = 2; value = 2 }) refl (λ h. h) in
    let z : ◌≡◌ {A = ℕ} 132 1 = ap (λ v. status (phase_at toy port-0 v)) e in omega arith

-- "always status 1": with the key not pressed, reading it is answered 255
abbrev asks_key : List (CoreCall toy)
asks_key = take port-0 1 ∷ take port-0 0 ∷ []

pub always_one_wrong : AloneRule toy (with_call toy (always toy (replies 1))) → ⊥
unfolding after ticked
always_one_wrong a =
    let e = a (led (always toy (replies 1)) asks_key) (leads (always toy (replies 1)) asks_key tt) port-0 (record { tag = 1; value = 0 }) refl (λ h. h) in
    let z : ◌≡◌ {A = ℕ} 1 255 = ap (λ v. status (phase_at toy port-0 v)) e in omega arith
