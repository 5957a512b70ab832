-- The end of what a port runs, by its own moves: what it leaves, that others' devices stand aside of it, and that it keeps
-- what is not damaged. Assumes nothing.
use mathlib.Core.Path.{◌≡◌, refl, ◌∙◌, subst}
use mathlib.Core.Bool.{false}
use mathlib.Core.List.{List, [], ◌∷◌, ◌++◌}
use Prim.Native.Nat.{ℕ, zero, suc}
use Rattle.serial.specs.Machine.{PortName, port-0, port-1, Two, ReplyBytes, Becomes, goes, ends, Machine, StepOf, finish_out}
use Rattle.serial.specs.Core.{Phase, gathering, ready, running, replying, Quiet}
use Rattle.serial.specs.Calls.{holds, phase_of}
use Rattle.serial.specs.Run.{reply_in}
use Rattle.serial.specs.Laws.{OkOut, Laws}
use Rattle.serial.proofs.Finish.{Ended, finish_ends}

-- a port's own and the other's, as a pair for both ports
abbrev pub duo : {X : Type 0} → PortName → X → X → Two X
duo port-0 x y = record { zeroth = x; first = y }
duo port-1 x y = record { zeroth = y; first = x }

module _ (M : Machine) (L : Laws M) where
  open M use {Byte, Local, Group, Devs, Dev, get, put, Run, move, fuel, Fit, OkRun}
  open L use {get_put, put_put, clash_sym, get_apart, put_apart, move_fit}

  abbrev pub replies_of : Becomes Byte Run → List (ReplyBytes Byte)
  replies_of (goes k) = []
  replies_of (ends r) = r ∷ []

  pub record Part : Type 0 where
    pub local : Local
    pub devs : Devs
    pub made : List (ReplyBytes Byte)

  abbrev pub part : (g : Group) → StepOf M g → Devs → Part
  part g s d = record { local = s.local; devs = put g s.dev d; made = replies_of s.out }

  abbrev pub going : (g : Group) → Run → Local → Devs → StepOf M g
  going g k l d = finish_out M fuel g (goes k) l (get g d)

  abbrev pub end_of : Phase M → Local → Devs → Part
  end_of (gathering x) l d = record { local = l; devs = d; made = [] }
  end_of (ready m) l d = record { local = l; devs = d; made = [] }
  end_of (running g k) l d = part g (going g k l d) d
  end_of (replying r) l d = record { local = l; devs = d; made = [] }

  pub end_quiet : (a : Phase M) (l : Local) (d : Devs) → Quiet M a → end_of a l d ≡ record { local = l; devs = d; made = [] }
  end_quiet (gathering x) l d t = refl
  end_quiet (ready m) l d t = refl
  end_quiet (replying r) l d t = refl
  end_quiet (running g k) l d t = absurd t

  -- a step and then its end is the end of the step
  abbrev pub more_made : List (ReplyBytes Byte) → Part → Part
  more_made rs e = record { local = e.local; devs = e.devs; made = rs ++ e.made }

  pub end_land : (g : Group) (o : Becomes Byte Run) (l : Local) (x : Dev g) (d : Devs)
      → more_made (reply_in M (phase_of M g o)) (end_of (phase_of M g o) l (put g x d)) ≡ part g (finish_out M fuel g o l x) d
  end_land g (goes k) l x d = simp (get_put, put_put)
  end_land g (ends r) l x d = rw (finish_ends M fuel g l x r)

  -- another group's device stands aside of it
  abbrev pub over : (g : Group) → Dev g → Part → Part
  over g x e = record { local = e.local; devs = put g x e.devs; made = e.made }

  pub end_apart : (g : Group) (x : Dev g) (ph : Phase M) (l : Local) (d : Devs) → holds M g ph ≡ false → end_of ph l (put g x d) ≡ over g x (end_of ph l d)
  end_apart g x (gathering y) l d e = refl
  end_apart g x (ready m) l d e = refl
  end_apart g x (running h k) l d e = rw (get_apart h g x d (clash_sym h g ∙ e), put_apart h g _ x d (clash_sym h g ∙ e))
  end_apart g x (replying r) l d e = refl

  pub get_end : (g : Group) (ph : Phase M) (l : Local) (d : Devs) → holds M g ph ≡ false → get g (end_of ph l d).devs ≡ get g d
  get_end g (gathering y) l d e = refl
  get_end g (ready m) l d e = refl
  get_end g (running h k) l d e = get_apart g h _ d e
  get_end g (replying r) l d e = refl

  -- what runs is sound, and ends
  abbrev pub Pending : Phase M → Local → Devs → Type 0
  Pending (gathering x) l d = Unit {0}
  Pending (ready m) l d = Unit {0}
  Pending (running g k) l d = OkRun g k l (get g d) × Ended M (going g k l d).out
  Pending (replying r) l d = Unit {0}

  -- its end keeps what is not damaged
  pub own_move_fit : (p : PortName) (g : Group) (j : Run) (l k : Local) (d : Devs) → Fit (duo p l k) d → OkRun g j l (get g d)
      → let s = move g j l (get g d) in
      Fit (duo p s.local k) (put g s.dev d) × OkOut M (λ j. OkRun g j s.local s.dev) s.out
  own_move_fit port-0 g j l k d f o = move_fit port-0 g j (duo port-0 l k) d f o
  own_move_fit port-1 g j l k d f o = move_fit port-1 g j (duo port-1 l k) d f o

  finish_fit : (n : ℕ) (p : PortName) (g : Group) (o : Becomes Byte Run) (l k : Local) (x : Dev g) (d : Devs) → Fit (duo p l k) (put g x d) → OkOut M (λ j. OkRun g j l x) o
      → let s = finish_out M n g o l x in
      Fit (duo p s.local k) (put g s.dev d)
  unfolding finish_out
  finish_fit zero p g (goes j) l k x d f o = f
  finish_fit zero p g (ends r) l k x d f o = f
  finish_fit (suc n) p g (ends r) l k x d f o = f
  finish_fit (suc n) p g (goes j) l k x d f o =
      let e = get_put g x d in
      let i = own_move_fit p g j l k (put g x d) f (rw e o) in
      let s = move g j l x in
      let q = subst (λ (y : Dev g). let s = move g j l y in Fit (duo p s.local k) (put g s.dev (put g x d)) × OkOut M (λ j. OkRun g j s.local s.dev) s.out) e i in
      finish_fit n p g s.out s.local k s.dev d (subst (Fit (duo p s.local k)) (put_put g s.dev x d) q.0) q.1

  running_fit : (n : ℕ) (p : PortName) (g : Group) (j : Run) (l k : Local) (d : Devs) → Fit (duo p l k) d → OkRun g j l (get g d)
      → let s = finish_out M n g (goes j) l (get g d) in
      Ended M s.out → Fit (duo p s.local k) (put g s.dev d)
  unfolding finish_out
  running_fit zero p g j l k d f o e = absurd e
  running_fit (suc n) p g j l k d f o e =
      let i = own_move_fit p g j l k d f o in
      let s = move g j l (get g d) in
      finish_fit n p g s.out s.local k s.dev d i.0 i.1

  pub end_fit : (p : PortName) (a : Phase M) (l k : Local) (d : Devs) → Fit (duo p l k) d → Pending a l d → Fit (duo p (end_of a l d).local k) (end_of a l d).devs
  end_fit p (gathering x) l k d f h = f
  end_fit p (ready m) l k d f h = f
  end_fit p (running g j) l k d f h = running_fit fuel p g j l k d f h.0 h.1
  end_fit p (replying r) l k d f h = f
