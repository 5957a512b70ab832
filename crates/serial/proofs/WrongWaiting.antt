-- Wrong cores against the waiting rule, each refuted by a computed run. Assumes nothing.
use mathlib.Core.Path.{refl, sym}
use mathlib.Core.Bool.{true≢false}
use mathlib.Core.List.{List, [], ◌∷◌}
use Rattle.serial.specs.Machine.{port-0, port-1}
use Rattle.serial.specs.Core.{CoreCall, take, tick}
use Rattle.serial.specs.Run.{after}
use Rattle.serial.specs.Demand2.{WaitingRule}
use Rattle.serial.proofs.Toy.{toy}
use Rattle.serial.proofs.ToyRun.{led, leads}
use Rattle.serial.proofs.WrongCores.{with_call, never_starts, pretends, one_lock}

-- port 0 has a request that needs no group
abbrev asks : List (CoreCall toy)
asks = take port-0 0 ∷ take port-0 7 ∷ []

pub never_starting_wrong : WaitingRule toy (with_call toy (never_starts toy)) → ⊥
unfolding after
never_starting_wrong w = (w.waits (led (never_starts toy) asks) (leads (never_starts toy) asks tt) port-0 (record { tag = 0; value = 7 }) refl).0 refl

pub pretending_wrong : WaitingRule toy (with_call toy (pretends toy)) → ⊥
unfolding after
pretending_wrong w = (w.starts (led (pretends toy) asks) (leads (pretends toy) asks tt) port-0 (record { tag = 0; value = 7 }) refl (λ h. h)).1

-- port 0 prints, port 1 asks for the key
abbrev printing : List (CoreCall toy)
printing = take port-0 2 ∷ take port-0 2 ∷ tick port-0 ∷ take port-1 1 ∷ take port-1 0 ∷ []

pub one_lock_wrong : WaitingRule toy (with_call toy (one_lock toy)) → ⊥
unfolding after
one_lock_wrong w =
    true≢false (sym ((w.waits (led (one_lock toy) printing) (leads (one_lock toy) printing tt) port-1 (record { tag = 1; value = 0 }) refl).0 refl))
