-- Both ports' ends: a start is the serial run's next event, a move changes nothing, a key falls through to its place, and
-- the order of the two ports is free. Assumes nothing.
use mathlib.Core.Path.{◌≡◌, refl, sym, ◌∙◌, ap, subst}
use mathlib.Core.Bool.{Bool, false}
use mathlib.Core.List.{List, [], ◌∷◌, ◌++◌, append-nil, append_assoc}
use Rattle.serial.specs.Machine.{PortName, port-0, port-1, other, ReplyBytes, Becomes, goes, ends, Machine, StepOf, finish}
use Rattle.serial.specs.Core.{Phase, gathering, ready, running, replying, Quiet}
use Rattle.serial.specs.Calls.{holds, phase_of}
use Rattle.serial.specs.Run.{Event, started, reply_in}
use Rattle.serial.specs.Demand3.{Whole, one, serial}
use Rattle.serial.specs.Laws.{Laws}
use Rattle.serial.proofs.Finish.{Ended, finish_move}
use Rattle.serial.proofs.Ends.{duo, replies_of, Part, going, end_of, end_quiet, end_land, end_apart, get_end, Pending, end_fit}

module _ (M : Machine) (L : Laws M) where
  open M use {Byte, Local, Message, Group, Devs, Dev, get, put, Run, need, start, move, fuel, alone, console, Fit}
  open L use {clash_sym, alone_is, alone_else}

  -- who holds what

  abbrev pub meets : Phase M → Phase M → Bool
  meets (gathering x) b = false
  meets (ready m) b = false
  meets (running g k) b = holds M g b
  meets (replying r) b = false

  pub meets_sym : (a b : Phase M) → meets a b ≡ false → meets b a ≡ false
  meets_sym a (gathering x) e = refl
  meets_sym a (ready m) e = refl
  meets_sym a (replying r) e = refl
  meets_sym (gathering x) (running g k) e = refl
  meets_sym (ready m) (running g k) e = refl
  meets_sym (running h j) (running g k) e = clash_sym g h ∙ e
  meets_sym (replying r) (running g k) e = refl

  pub meets_land : (g : Group) (o : Becomes Byte Run) (b : Phase M) → holds M g b ≡ false → meets (phase_of M g o) b ≡ false
  meets_land g (goes k) b e = e
  meets_land g (ends r) b e = refl

  pub meets_quiet : (a b : Phase M) → Quiet M a → meets a b ≡ false
  meets_quiet (gathering x) b t = refl
  meets_quiet (ready m) b t = refl
  meets_quiet (replying r) b t = refl
  meets_quiet (running h k) b t = absurd t

  -- what both ports leave, each gone on to its end: port p (phase a, data l, replies r) before the other (b, k, q)

  abbrev pub settle : PortName → Phase M → Local → List (ReplyBytes Byte) → Phase M → Local → List (ReplyBytes Byte) → Devs → Whole M
  settle p a l r b k q d = record {
    local = duo p (end_of M L a l d).local (end_of M L b k d).local;
    devs = (end_of M L b k (end_of M L a l d).devs).devs;
    made = duo p (r ++ (end_of M L a l d).made) (q ++ (end_of M L b k d).made);
  }

  devs_swap : (a : Phase M) (l : Local) (b : Phase M) (k : Local) (d : Devs) → meets a b ≡ false
      → (end_of M L a l (end_of M L b k d).devs).devs ≡ (end_of M L b k (end_of M L a l d).devs).devs
  devs_swap (gathering x) l b k d e = refl
  devs_swap (ready m) l b k d e = refl
  devs_swap (running g j) l b k d e =
      rw (get_end M L g b k d e, end_apart M L g (going M L g j l d).dev b k d e)
  devs_swap (replying r) l b k d e = refl

  pub settle_swap : (p : PortName) (a : Phase M) (l : Local) (r : List (ReplyBytes Byte)) (b : Phase M) (k : Local) (q : List (ReplyBytes Byte)) (d : Devs) → meets a b ≡ false
      → settle (other p) b k q a l r d ≡ settle p a l r b k q d
  settle_swap port-0 a l r b k q d e = let f = devs_swap a l b k d e in λ i. record { local = (settle port-0 a l r b k q d).local; devs = f i; made = (settle port-0 a l r b k q d).made }
  settle_swap port-1 a l r b k q d e = let f = devs_swap a l b k d e in λ i. record { local = (settle port-1 a l r b k q d).local; devs = f i; made = (settle port-1 a l r b k q d).made }

  pub settle_quiet : (p : PortName) (a : Phase M) (l : Local) (r : List (ReplyBytes Byte)) (b : Phase M) (k : Local) (q : List (ReplyBytes Byte)) (d : Devs) → Quiet M a → Quiet M b
      → settle p a l r b k q d ≡ record { local = duo p l k; devs = d; made = duo p r q }
  settle_quiet p a l r b k q d qa qb = rw (end_quiet M L a l d qa, end_quiet M L b k d qb, append-nil r, append-nil q)

  -- a step of port p, where the other does not hold its group

  abbrev pub landing : PortName → (g : Group) → StepOf M g → List (ReplyBytes Byte) → Phase M → Local → List (ReplyBytes Byte) → Devs → Whole M
  landing p g s r b k q d = record {
    local = duo p s.local (end_of M L b k d).local;
    devs = put g s.dev (end_of M L b k d).devs;
    made = duo p (r ++ replies_of M L s.out) (q ++ (end_of M L b k d).made);
  }

  pub settle_land : (p : PortName) (g : Group) (s : StepOf M g) (r : List (ReplyBytes Byte)) (b : Phase M) (k : Local) (q : List (ReplyBytes Byte)) (d : Devs) → holds M g b ≡ false
      → settle p (phase_of M g s.out) s.local (r ++ reply_in M (phase_of M g s.out)) b k q (put g s.dev d) ≡ landing p g (finish M fuel g s) r b k q d
  settle_land p g s r b k q d e =
      let x = end_land M L g s.out s.local s.dev d in
      let y = end_apart M L g s.dev b k d e in
      let z = end_apart M L g (finish M fuel g s).dev b k d e in
      let v = ap (λ (u : Part M L). (end_of M L b k u.devs).devs) x ∙ ap (λ (u : Part M L). u.devs) z in
      let w : (r ++ reply_in M (phase_of M g s.out)) ++ (end_of M L (phase_of M g s.out) s.local (put g s.dev d)).made ≡ r ++ replies_of M L (finish M fuel g s).out =
      append_assoc r _ _ ∙ ap (λ (u : Part M L). r ++ u.made) x in
      λ i. record { local = duo p (x i).local (y i).local; devs = v i; made = duo p (w i) (q ++ (y i).made) }

  pub settle_move : (p : PortName) (g : Group) (j : Run) (l : Local) (r : List (ReplyBytes Byte)) (b : Phase M) (k : Local) (q : List (ReplyBytes Byte)) (d : Devs) → holds M g b ≡ false
      → Ended M (going M L g j l d).out
      → let s = move g j l (get g d) in
      settle p (phase_of M g s.out) s.local (r ++ reply_in M (phase_of M g s.out)) b k q (put g s.dev d) ≡ settle p (running g j) l r b k q d
  settle_move p g j l r b k q d e f =
      settle_land p g (move g j l (get g d)) r b k q d e
      ∙ rw (finish_move M fuel g j l (get g d) f, end_apart M L g (going M L g j l d).dev b k d e)

  -- a start: the request alone, put behind what was

  one_own : (p : PortName) (m : Message) (l k : Local) (e : Devs) (r q : List (ReplyBytes Byte))
      → let a = alone m l e in
      one M (started p m) (record { local = duo p l k; devs = e; made = duo p r q }) ≡ record { local = duo p a.local k; devs = a.devs; made = duo p (r ++ (a.reply ∷ [])) q }
  one_own port-0 m l k e r q = refl
  one_own port-1 m l k e r q = refl

  own_alone_is : (p : PortName) (m : Message) (l k : Local) (d : Devs) → Fit (duo p l k) d
      → let g = need l m in
      let a = alone m l d in
      finish M fuel g (start g m l (get g d)) ≡ record { local = a.local; dev = get g a.devs; out = ends a.reply }
  own_alone_is port-0 m l k d f = alone_is port-0 m (duo port-0 l k) d f
  own_alone_is port-1 m l k d f = alone_is port-1 m (duo port-1 l k) d f

  own_alone_else : (p : PortName) (m : Message) (l k : Local) (d : Devs) → Fit (duo p l k) d
      → let g = need l m in
      let a = alone m l d in
      a.devs ≡ put g (get g a.devs) d
  own_alone_else port-0 m l k d f = alone_else port-0 m (duo port-0 l k) d f
  own_alone_else port-1 m l k d f = alone_else port-1 m (duo port-1 l k) d f

  other_fit : (p : PortName) (b : Phase M) (k l : Local) (d : Devs) → Fit (duo p l k) d → Pending M L b k d → Fit (duo p l (end_of M L b k d).local) (end_of M L b k d).devs
  other_fit port-0 b k l d f h = end_fit M L port-1 b k l d f h
  other_fit port-1 b k l d f h = end_fit M L port-0 b k l d f h

  pub start_ends : (p : PortName) (m : Message) (l k : Local) (d : Devs) → Fit (duo p l k) d → let g = need l m in Ended M (finish M fuel g (start g m l (get g d))).out
  start_ends p m l k d f = subst (λ (s : StepOf M (need l m)). Ended M s.out) (sym (own_alone_is p m l k d f)) tt

  pub settle_start : (p : PortName) (m : Message) (l : Local) (r : List (ReplyBytes Byte)) (b : Phase M) (k : Local) (q : List (ReplyBytes Byte)) (d : Devs) → holds M (need l m) b ≡ false
      → Fit (duo p l k) d → Pending M L b k d
      → let g = need l m in
      let s = start g m l (get g d) in
      settle p (phase_of M g s.out) s.local (r ++ reply_in M (phase_of M g s.out)) b k q (put g s.dev d)
      ≡ one M (started p m) (settle p (ready m) l r b k q d)
  settle_start p m l r b k q d e f h =
      let g = need l m in
      let v = end_of M L b k d in
      let a = alone m l v.devs in
      let i = other_fit p b k l d f h in
      let x : finish M fuel g (start g m l (get g d)) ≡ record { local = a.local; dev = get g a.devs; out = ends a.reply } =
      ap (λ (y : Dev g). finish M fuel g (start g m l y)) (sym (get_end M L g b k d e)) ∙ own_alone_is p m l v.local v.devs i in
      settle_land p g (start g m l (get g d)) r b k q d e
      ∙ ap (λ (s : StepOf M g). landing p g s r b k q d) x
      ∙ ap (λ (w : Devs). record { local = duo p a.local v.local; devs = w; made = duo p (r ++ (a.reply ∷ [])) (q ++ v.made) }) (sym (own_alone_else p m l v.local v.devs i))
      ∙ sym (one_own p m l v.local v.devs r (q ++ v.made))
      ∙ ap (λ (z : List (ReplyBytes Byte)). one M (started p m) (record { local = duo p l v.local; devs = v.devs; made = duo p z (q ++ v.made) })) (sym (append-nil r))

  -- a key

  pub settle_hit : (x : Dev console) (p : PortName) (a : Phase M) (l : Local) (r : List (ReplyBytes Byte)) (b : Phase M) (k : Local) (q : List (ReplyBytes Byte)) (d : Devs)
      → holds M console a ≡ false → holds M console b ≡ false
      → let y = settle p a l r b k q d in
      settle p a l r b k q (put console x d) ≡ record { local = y.local; devs = put console x y.devs; made = y.made }
  settle_hit x p a l r b k q d e f = rw (end_apart M L console x a l d e, end_apart M L console x b k d f, end_apart M L console x b k (end_of M L a l d).devs f)

  pub get_settle : (g : Group) (a : Phase M) (l : Local) (b : Phase M) (k : Local) (d : Devs) → holds M g a ≡ false → holds M g b ≡ false
      → get g (end_of M L b k (end_of M L a l d).devs).devs ≡ get g d
  get_settle g a l b k d e f = get_end M L g b k (end_of M L a l d).devs f ∙ get_end M L g a l d e

  pub serial_add : (es : List (Event M)) (e : Event M) (y : Whole M) → serial M (es ++ (e ∷ [])) y ≡ one M e (serial M es y)
  unfolding serial
  serial_add [] e y = refl
  serial_add (x ∷ es) e y = serial_add es e (one M x y)
