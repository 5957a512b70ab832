-- For computed runs: that each byte of a list of calls is a byte, by a test; and the numbers that a core answers. Assumes nothing.
use mathlib.Core.Bool.{Bool, true}
use mathlib.Core.List.{List, [], ◌∷◌}
use Prim.Native.Nat.{ℕ}
use lib.Dec.{T}
use Rattle.base.proofs.Table.{both, both_left, both_right}
use Rattle.serial.specs.Machine.{Machine}
use Rattle.serial.specs.Core.{CoreCall, take, tick, give, press, number, Core}
use Rattle.serial.specs.Run.{OkCall, OkCalls, no_call, one_more_case}

module _ (M : Machine) (test : Machine.Byte M → Bool) where
  open M use {Byte, OkByte}

  abbrev pub ok_call : CoreCall M → Bool
  ok_call (take p b) = test b
  ok_call (tick p) = true
  ok_call (give p) = true
  ok_call (press c) = true

  abbrev pub all_ok : List (CoreCall M) → Bool
  all_ok [] = true
  all_ok (c ∷ cs) = both (ok_call c) (all_ok cs)

  ok_one : ((b : Byte) → T (test b) → OkByte b) → (c : CoreCall M) → T (ok_call c) → OkCall M c
  ok_one f (take p b) t = f b t
  ok_one f (tick p) t = tt
  ok_one f (give p) t = tt
  ok_one f (press c) t = tt

  pub all_ok_lem : ((b : Byte) → T (test b) → OkByte b) → (cs : List (CoreCall M)) → T (all_ok cs) → OkCalls M cs
  all_ok_lem f [] t = no_call
  all_ok_lem f (c ∷ cs) t = one_more_case (ok_one f c (both_left (ok_call c) (all_ok cs) t)) (all_ok_lem f cs (both_right (ok_call c) (all_ok cs) t))

module _ (M : Machine) (C : Core M) where
  abbrev pub answers : List (CoreCall M) → C.World → List ℕ
  answers [] w = []
  answers (c ∷ cs) w = let e = C.call c w in number M e.answer ∷ answers cs e.world
