-- Not vacuous: a run of the toy machine with both ports busy and a key, in which the answers 0 and 4 to 8 all come, that meets
-- every premise; and the toy machine has every demand. Assumes nothing.
use mathlib.Core.Path.{◌≡◌, refl}
use mathlib.Core.List.{List, [], ◌∷◌}
use lib.Dec.{T, ltb, ltb→lt}
use Rattle.serial.specs.Machine.{port-0, port-1}
use Rattle.serial.specs.Core.{View, CoreCall, take, tick, give, press}
use Rattle.serial.specs.Calls.{core_of, idle_over}
use Rattle.serial.specs.Run.{started, pressed, OkCalls, after, begin, State, Reached}
use Rattle.serial.specs.Undamaged.{NeverDamaged}
use Rattle.serial.specs.Demand1.{Demand1}
use Rattle.serial.specs.Demand2.{Demand2, Along}
use Rattle.serial.specs.Demand3.{Demand3, Finished, whole_of, serial, UnfinishedRule}
use Rattle.serial.proofs.Toy.{toy}
use Rattle.serial.proofs.ToyLaws.{toy_laws}
use Rattle.serial.proofs.Tested.{all_ok, all_ok_lem, answers}
use Rattle.serial.proofs.WrongCores.{Calls, with_call}
use Rattle.serial.proofs.Demanded.{demand1, demand2, demand3, unfinished, never_damaged}

pub toy_demand1 : Demand1 toy (core_of toy)
toy_demand1 = demand1 toy toy_laws

pub toy_demand2 : Demand2 toy (core_of toy)
toy_demand2 = demand2 toy toy_laws

pub toy_demand3 : Demand3 toy (core_of toy)
toy_demand3 = demand3 toy toy_laws

pub toy_unfinished : UnfinishedRule toy (core_of toy)
toy_unfinished = unfinished toy toy_laws

pub toy_never_damaged : NeverDamaged toy (core_of toy)
toy_never_damaged = never_damaged toy toy_laws

pub ok_by : (cs : List (CoreCall toy)) → T (all_ok toy (λ b. ltb b 256) cs) → OkCalls toy cs
ok_by cs t = all_ok_lem toy (λ b. ltb b 256) (λ b h. ltb→lt b 256 h) cs t

abbrev pub first : View toy
first = idle_over toy (record { zeroth = []; first = [] }) (record { key = 255; paper = [] })

-- what these calls lead to, where they are done so
abbrev pub led : Calls toy → List (CoreCall toy) → View toy
led f cs = (after toy (with_call toy f) cs (begin toy (with_call toy f) first)).world

pub leads : (f : Calls toy) (cs : List (CoreCall toy)) → T (all_ok toy (λ b. ltb b 256) cs) → Reached toy (with_call toy f) (led f cs)
leads f cs t = record { from = first; begun = (refl, tt); calls = cs; ok = ok_by cs t; there = refl }

-- port 0 prints two stars; meanwhile a key is pressed, port 1 reads it, and its own print waits
abbrev toy_busy : List (CoreCall toy)
toy_busy =
    take port-0 2 ∷ take port-0 2 ∷ tick port-0 ∷ take port-0 1 ∷ give port-0 ∷ tick port-1 ∷ press 60 ∷
    take port-1 1 ∷ take port-1 0 ∷ tick port-1 ∷ press 61 ∷ tick port-1 ∷ give port-1 ∷ give port-1 ∷ tick port-0 ∷
    take port-1 2 ∷ take port-1 1 ∷ tick port-1 ∷ tick port-0 ∷ tick port-1 ∷ tick port-1 ∷
    give port-0 ∷ give port-0 ∷ give port-1 ∷ []

abbrev pub toy_end : State toy (core_of toy)
toy_end = after toy (core_of toy) toy_busy (begin toy (core_of toy) first)

toy_answers : answers toy (core_of toy) toy_busy first ≡
    0 ∷ 0 ∷ 0 ∷ 4 ∷ 5 ∷ 7 ∷ 0 ∷
    0 ∷ 0 ∷ 0 ∷ 6 ∷ 0 ∷ 0 ∷ 0 ∷ 0 ∷
    0 ∷ 0 ∷ 8 ∷ 0 ∷ 0 ∷ 0 ∷
    0 ∷ 0 ∷ 0 ∷ []
toy_answers = refl

toy_log : toy_end.seen.log ≡
    started port-0 (record { tag = 2; value = 2 }) ∷ pressed 60 ∷ started port-1 (record { tag = 1; value = 0 }) ∷ started port-1 (record { tag = 2; value = 1 }) ∷ []
unfolding after
toy_log = refl

toy_devices : toy_end.world.devs ≡ record { key = 255; paper = 42 ∷ 42 ∷ 42 ∷ [] }
unfolding after
toy_devices = refl

toy_given : toy_end.seen.port.first.given ≡ 144 ∷ 60 ∷ 144 ∷ []
unfolding after
toy_given = refl

toy_finished : Finished toy (core_of toy) toy_end
unfolding after
toy_finished = (tt, tt)

toy_serial : whole_of toy (core_of toy) toy_end ≡ serial toy toy_end.seen.log (whole_of toy (core_of toy) (begin toy (core_of toy) first))
toy_serial = toy_demand3.as_serial first (refl, tt) toy_busy (ok_by toy_busy tt) toy_finished

-- the bound is met with nothing to spare: three stars run still after two further ticks
abbrev long : List (CoreCall toy)
long = take port-0 2 ∷ take port-0 3 ∷ tick port-0 ∷ []

long_runs : Along toy (core_of toy) port-0 (tick port-0 ∷ tick port-0 ∷ []) (after toy (core_of toy) long (begin toy (core_of toy) first)).world
unfolding after
long_runs = (tt, (tt, tt))
