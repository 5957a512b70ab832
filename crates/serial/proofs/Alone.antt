-- Demand 2's request alone, by ticks of its port: the start tick and then at most `fuel` moves leave what `alone` says, and
-- the ticks after them nothing. Assumes nothing.
use mathlib.Core.Path.{◌≡◌, refl, sym, ◌∙◌, ap}
use Prim.Native.Nat.{ℕ, zero, suc}
use Rattle.serial.specs.Machine.{PortName, port-0, port-1, set, Becomes, goes, ends, Machine, StepOf, finish, finish_out}
use Rattle.serial.specs.Core.{replying, View, local_at, locals, tick, Effect}
use Rattle.serial.specs.Calls.{landed, call_of, core_of}
use Rattle.serial.specs.Demand2.{ticked, LaterRule, AloneRule}
use Rattle.serial.specs.Laws.{Laws}
use Rattle.serial.proofs.Finish.{finish_ends}
use Rattle.serial.proofs.Waiting.{began}
use Rattle.serial.proofs.Undamaged.{never_damaged}

module _ (M : Machine) (L : Laws M) where
  open M use {Byte, Local, Message, Group, Devs, Dev, get, put, Run, need, start, move, fuel, alone, Fit}
  open L use {get_put, put_put, alone_is, alone_else}

  -- a tick behind a step is the next step
  tick_landed : (p : PortName) (g : Group) (k : Run) (l : Local) (x : Dev g) (v : View M)
      → (call_of M (tick p) (landed M p g (record { local = l; dev = x; out = goes k }) v)).world ≡ landed M p g (move g k l x) v
  tick_landed port-0 g k l x v = rw (get_put g x v.devs, put_put g (move g k l x).dev x v.devs)
  tick_landed port-1 g k l x v = rw (get_put g x v.devs, put_put g (move g k l x).dev x v.devs)

  ticked_landed : (n : ℕ) (p : PortName) (g : Group) (o : Becomes Byte Run) (l : Local) (x : Dev g) (v : View M)
      → ticked M (core_of M) n p (landed M p g (record { local = l; dev = x; out = o }) v) ≡ landed M p g (finish_out M n g o l x) v
  unfolding ticked finish_out
  ticked_landed zero p g (goes k) l x v = refl
  ticked_landed zero p g (ends r) l x v = refl
  ticked_landed (suc n) p g (goes k) l x v =
      let s = move g k l x in
      ap (ticked M (core_of M) n p) (tick_landed p g k l x v) ∙ ticked_landed n p g s.out s.local s.dev v
  ticked_landed (suc n) port-0 g (ends r) l x v = ticked_landed n port-0 g (ends r) l x v ∙ ap (λ s. landed M port-0 g s v) (finish_ends M n g l x r)
  ticked_landed (suc n) port-1 g (ends r) l x v = ticked_landed n port-1 g (ends r) l x v ∙ ap (λ s. landed M port-1 g s v) (finish_ends M n g l x r)

  at_is : (p : PortName) (m : Message) (v : View M) → Fit (locals M v) v.devs
      → let l = local_at M p v in
      let g = need l m in
      let a = alone m l v.devs in
      finish M fuel g (start g m l (get g v.devs)) ≡ record { local = a.local; dev = get g a.devs; out = ends a.reply }
  at_is port-0 m v f = alone_is port-0 m (locals M v) v.devs f
  at_is port-1 m v f = alone_is port-1 m (locals M v) v.devs f

  at_else : (p : PortName) (m : Message) (v : View M) → Fit (locals M v) v.devs
      → let l = local_at M p v in
      let g = need l m in
      let a = alone m l v.devs in
      a.devs ≡ put g (get g a.devs) v.devs
  at_else port-0 m v f = alone_else port-0 m (locals M v) v.devs f
  at_else port-1 m v f = alone_else port-1 m (locals M v) v.devs f

  pub later_rule : LaterRule M (core_of M)
  unfolding ticked
  later_rule v r p m e w n =
      let l = local_at M p v in
      let g = need l m in
      let s = start g m l (get g v.devs) in
      ap (λ (c : Effect M (View M)). ticked M (core_of M) n p c.world) (began M p m v e w) ∙ ticked_landed n p g s.out s.local s.dev v

  pub alone_rule : AloneRule M (core_of M)
  alone_rule v r p m e n =
      let f = (never_damaged M L v r).fit in
      let g = need (local_at M p v) m in
      let a = alone m (local_at M p v) v.devs in
      later_rule v r p m e n fuel
      ∙ ap (λ (s : StepOf M g). landed M p g s v) (at_is p m v f)
      ∙ ap (λ (d : Devs). record { ports = set p (record { local = a.local; phase = replying a.reply }) v.ports; devs = d }) (sym (at_else p m v f))
