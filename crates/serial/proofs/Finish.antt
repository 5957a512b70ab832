-- Finishing by moves: what has ended stays, and what ends in n moves ends the same after one of them. Assumes nothing.
use mathlib.Core.Path.{◌≡◌, refl}
use Prim.Native.Nat.{ℕ, zero, suc}
use Rattle.serial.specs.Machine.{ReplyBytes, Becomes, goes, ends, Machine, finish, finish_out}

module _ (M : Machine) where
  open M use {Byte, Local, Run, Group, Dev, move}

  abbrev pub Ended : Becomes Byte Run → Type 0
  Ended (goes k) = ⊥
  Ended (ends r) = Unit {0}

  pub finish_ends : (n : ℕ) (g : Group) (l : Local) (x : Dev g) (r : ReplyBytes Byte) → finish_out M n g (ends r) l x ≡ record { local = l; dev = x; out = ends r }
  unfolding finish_out
  finish_ends zero g l x r = refl
  finish_ends (suc n) g l x r = refl

  finish_more : (n : ℕ) (g : Group) (o : Becomes Byte Run) (l : Local) (x : Dev g) → Ended (finish_out M n g o l x).out → finish_out M (suc n) g o l x ≡ finish_out M n g o l x
  unfolding finish_out
  finish_more zero g (goes k) l x e = absurd e
  finish_more zero g (ends r) l x e = refl
  finish_more (suc n) g (goes k) l x e = let s = move g k l x in finish_more n g s.out s.local s.dev e
  finish_more (suc n) g (ends r) l x e = refl

  pub finish_move : (n : ℕ) (g : Group) (k : Run) (l : Local) (x : Dev g) → Ended (finish_out M n g (goes k) l x).out
      → finish M n g (move g k l x) ≡ finish_out M n g (goes k) l x
  unfolding finish_out
  finish_move zero g k l x e = absurd e
  finish_move (suc n) g k l x e = let s = move g k l x in finish_more n g s.out s.local s.dev e
