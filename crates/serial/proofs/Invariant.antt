-- What holds all along a run, of a port and the other, and that each call keeps it. Each call is looked at once, from its own
-- port; `swap` turns the view round. Assumes nothing.
use mathlib.Core.Path.{◌≡◌, refl, sym, ◌∙◌, ap, subst}
use mathlib.Core.Bool.{Bool, true, false, ◌||◌}
use mathlib.Core.Option.{Option, none, some}
use mathlib.Core.List.{List, [], ◌∷◌, ◌++◌, append-nil}
use Rattle.serial.specs.Machine.{PortName, port-0, port-1, Two, other, Becomes, goes, ends, Fed, more, full, Machine, finish}
use Rattle.serial.specs.Core.{Phase, gathering, ready, running, replying, Quiet, View, phase_at, local_at, locals, CoreCall, take, tick, give, press}
use Rattle.serial.specs.Calls.{Act, holds, phase_of, land, start_if, tick_act, take_act, give_act, fed_phase, rest_phase, press_if, idle_over, core_of}
use Rattle.serial.specs.Run.{Event, started, pressed, PortSeen, left_ready, started_by, made_by, if_done, byte_in, took_more, gave_more, made_more, OkCall, OkCalls, one_more_case, State, next, after, Begun, begin}
use Rattle.serial.specs.Demand3.{Whole, one, serial, whole_of, requests_of, bytes_of_all}
use Rattle.serial.specs.Reading.{Spelled}
use Rattle.serial.specs.Laws.{OkOut, Laws}
use Rattle.serial.proofs.Finish.{Ended, finish_move}
use Rattle.serial.proofs.Ends.{duo, own_move_fit, end_quiet}
use Rattle.serial.proofs.Settle.{meets, meets_sym, meets_land, meets_quiet, settle, settle_swap, settle_move, settle_start, settle_hit, get_settle, serial_add, start_ends}
use Rattle.serial.proofs.Bytes.{requests_own, requests_other, requests_key}
use Rattle.serial.proofs.Port.{PortInv, port_apart, port_land, port_take, port_give, spelled_ready, spelled_run}

module _ (M : Machine) (L : Laws M) (y₀ : Whole M) where
  open M use {Byte, Local, Gather, Message, feed, Group, Devs, Dev, get, put, Run, need, start, move, fuel, Key, console, hit, OkByte, Fit, OkRun}
  open L use {start_fit, hit_fit}

  -- port p with phase a, data l and what is seen of it; the other with b, k and v; the devices; the events
  pub record Inv (p : PortName) (a : Phase M) (l : Local) (u : PortSeen M) (b : Phase M) (k : Local) (v : PortSeen M) (d : Devs) (log : List (Event M)) : Type 0 where
    pub same : settle M L p a l u.made b k v.made d ≡ serial M log y₀
    pub apart : meets M L a b ≡ false
    pub fit : Fit (duo p l k) d
    pub own : PortInv M L a l d u (requests_of M p log)
    pub others : PortInv M L b k d v (requests_of M (other p) log)

  swap : (p : PortName) (a : Phase M) (l : Local) (u : PortSeen M) (b : Phase M) (k : Local) (v : PortSeen M) (d : Devs) (log : List (Event M))
      → Inv p a l u b k v d log → Inv (other p) b k v a l u d log
  swap port-0 a l u b k v d log h = record
      { same = settle_swap M L port-0 a l u.made b k v.made d h.apart ∙ h.same; apart = meets_sym M L a b h.apart; fit = h.fit; own = h.others; others = h.own }
  swap port-1 a l u b k v d log h = record
      { same = settle_swap M L port-1 a l u.made b k v.made d h.apart ∙ h.same; apart = meets_sym M L a b h.apart; fit = h.fit; own = h.others; others = h.own }

  -- a tick of port p that does this
  abbrev Ticked : PortName → Phase M → PortSeen M → Phase M → Local → PortSeen M → List (Event M) → Act M → Type 0
  Ticked p a u b k v log e =
      Inv p e.port.phase e.port.local (made_more M (made_by M a e.port.phase) u) b k v e.devs (log ++ started_by M p a e.port.phase)

  own_start_fit : (p : PortName) (m : Message) (l k : Local) (d : Devs) → Fit (duo p l k) d
      → let g = need l m in
      let s = start g m l (get g d) in
      Fit (duo p s.local k) (put g s.dev d) × OkOut M (λ k. OkRun g k s.local s.dev) s.out
  own_start_fit port-0 m l k d f = start_fit port-0 m (duo port-0 l k) d f
  own_start_fit port-1 m l k d f = start_fit port-1 m (duo port-1 l k) d f

  left_land : (p : PortName) (m : Message) (g : Group) (o : Becomes Byte Run) → left_ready M p m (phase_of M g o) ≡ started p m ∷ []
  left_land p m g (goes k) = refl
  left_land p m g (ends r) = refl

  start_inv : (p : PortName) (m : Message) (l : Local) (u : PortSeen M) (b : Phase M) (k : Local) (v : PortSeen M) (d : Devs) (log : List (Event M)) → holds M (need l m) b ≡ false
      → Inv p (ready m) l u b k v d log → Ticked p (ready m) u b k v log (land M (need l m) (start (need l m) m l (get (need l m) d)) d)
  start_inv p m l u b k v d log e h =
      let g = need l m in
      let s = start g m l (get g d) in
      let ok = own_start_fit p m l k d h.fit in
      rw (left_land p m g s.out) (record {
        same =
            settle_start M L p m l u.made b k v.made d e h.fit h.others.pend ∙ ap (one M (started p m)) h.same ∙ sym (serial_add M L log (started p m) y₀);
        apart = meets_land M L g s.out b e;
        fit = ok.0;
        own = rw (requests_own M p log m) (port_land M L g s d u ok.1 (start_ends M L p m l k d h.fit) (spelled_ready M L h.own.ins) h.own.outs);
        others = rw (requests_other M p log m) (port_apart M L g s.dev b k d e h.others);
      })

  move_inv : (p : PortName) (g : Group) (j : Run) (l : Local) (u : PortSeen M) (b : Phase M) (k : Local) (v : PortSeen M) (d : Devs) (log : List (Event M))
      → Inv p (running g j) l u b k v d log → Ticked p (running g j) u b k v log (land M g (move g j l (get g d)) d)
  move_inv p g j l u b k v d log h =
      let s = move g j l (get g d) in
      let ok = own_move_fit M L p g j l k d h.fit h.own.pend.0 in
      let en : Ended M (finish M fuel g s).out = rw (finish_move M fuel g j l (get g d) h.own.pend.1) h.own.pend.1 in
      rw (append-nil log) (record {
        same = settle_move M L p g j l u.made b k v.made d h.apart h.own.pend.1 ∙ h.same;
        apart = meets_land M L g s.out b h.apart;
        fit = ok.0;
        own = port_land M L g s d u ok.1 en (spelled_run M L h.own.ins) h.own.outs;
        others = port_apart M L g s.dev b k d h.apart h.others;
      })

  still_inv : (p : PortName) (a : Phase M) (l : Local) (u : PortSeen M) (b : Phase M) (k : Local) (v : PortSeen M) (d : Devs) (log : List (Event M))
      → Inv p a l u b k v d log → Inv p a l (made_more M [] u) b k v d (log ++ [])
  still_inv p a l u b k v d log h = rw (append-nil log, append-nil u.made) h

  tick_inv : (p : PortName) (a : Phase M) (l : Local) (u : PortSeen M) (b : Phase M) (k : Local) (v : PortSeen M) (d : Devs) (log : List (Event M))
      → Inv p a l u b k v d log → Ticked p a u b k v log (tick_act M a l b d)
  tick_inv p (gathering x) l u b k v d log h = still_inv p (gathering x) l u b k v d log h
  tick_inv p (ready m) l u b k v d log h = go (holds M (need l m) b) refl
    where
      go : (t : Bool) → holds M (need l m) b ≡ t → Ticked p (ready m) u b k v log (start_if M t (need l m) m l d)
      go true e = still_inv p (ready m) l u b k v d log h
      go false e = start_inv p m l u b k v d log e h
  tick_inv p (running g j) l u b k v d log h = move_inv p g j l u b k v d log h
  tick_inv p (replying r) l u b k v d log h = still_inv p (replying r) l u b k v d log h

  -- bytes in and out: what does not run changes only what is seen
  calm : (p : PortName) (a a' : Phase M) (l : Local) (u u' : PortSeen M) (b : Phase M) (k : Local) (v : PortSeen M) (d : Devs) (log : List (Event M)) → Quiet M a → Quiet M a'
      → u'.made ≡ u.made → Inv p a l u b k v d log → PortInv M L a' l d u' (requests_of M p log) → Inv p a' l u' b k v d log
  calm p a a' l u u' b k v d log qa qa' e h i = record {
    same =
        let f : settle M L p a' l u'.made b k v.made d ≡ settle M L p a l u.made b k v.made d = rw (end_quiet M L a l d qa, end_quiet M L a' l d qa', e) in
        f ∙ h.same;
    apart = meets_quiet M L a' b qa';
    fit = h.fit;
    own = i;
    others = h.others;
  }

  quiet_fed : (f : Fed Gather Message) → Quiet M (fed_phase M f)
  quiet_fed (more x) = tt
  quiet_fed (full m) = tt

  quiet_rest : (bs : List Byte) → Quiet M (rest_phase M bs)
  quiet_rest [] = tt
  quiet_rest (b ∷ bs) = tt

  take_inv : (c : Byte) (p : PortName) (a : Phase M) (l : Local) (u : PortSeen M) (b : Phase M) (k : Local) (v : PortSeen M) (d : Devs) (log : List (Event M)) → OkByte c
      → Inv p a l u b k v d log → let e = take_act M a c l d in Inv p e.port.phase e.port.local (took_more M (if_done M e.answer c) u) b k v e.devs log
  take_inv c p (gathering x) l u b k v d log ok h =
      calm p (gathering x) (fed_phase M (feed x c)) l u (took_more M (c ∷ []) u) b k v d log tt (quiet_fed (feed x c)) refl h (port_take M L x c l d u ok h.own)
  take_inv c p (ready m) l u b k v d log ok h = rw (append-nil u.taken) h
  take_inv c p (running g j) l u b k v d log ok h = rw (append-nil u.taken) h
  take_inv c p (replying r) l u b k v d log ok h = rw (append-nil u.taken) h

  give_inv : (p : PortName) (a : Phase M) (l : Local) (u : PortSeen M) (b : Phase M) (k : Local) (v : PortSeen M) (d : Devs) (log : List (Event M))
      → Inv p a l u b k v d log → let e = give_act M a l d in Inv p e.port.phase e.port.local (gave_more M (byte_in M e.answer) u) b k v e.devs log
  give_inv p (gathering x) l u b k v d log h = rw (append-nil u.given) h
  give_inv p (ready m) l u b k v d log h = rw (append-nil u.given) h
  give_inv p (running g j) l u b k v d log h = rw (append-nil u.given) h
  give_inv p (replying r) l u b k v d log h =
      calm p (replying r) (rest_phase M r.rest) l u (gave_more M (r.head ∷ []) u) b k v d log tt (quiet_rest r.rest) refl h (port_give M L r.head r.rest l d u h.own)

  -- a key
  abbrev Pressed : Key → Bool → Option (Dev console) → Phase M → Local → PortSeen M → Phase M → Local → PortSeen M → Devs → List (Event M) → Type 0
  Pressed c t o a l u b k v d log =
      let w : View M = record { ports = record { zeroth = record { local = l; phase = a }; first = record { local = k; phase = b } }; devs = d } in
      let e = press_if M t o w in
      let f = e.world in
      Inv port-0 (phase_at M port-0 f) (local_at M port-0 f) u (phase_at M port-1 f) (local_at M port-1 f) v f.devs (log ++ if_done M e.answer (pressed c))

  hit_inv : (c : Key) (o : Option (Dev console)) (a : Phase M) (l : Local) (u : PortSeen M) (b : Phase M) (k : Local) (v : PortSeen M) (d : Devs) (log : List (Event M))
      → hit c (get console d) ≡ o → holds M console a ≡ false → holds M console b ≡ false → Inv port-0 a l u b k v d log → Pressed c false o a l u b k v d log
  hit_inv c none a l u b k v d log e f f' h = rw (append-nil log) h
  hit_inv c (some x) a l u b k v d log e f f' h =
      let y = settle M L port-0 a l u.made b k v.made d in
      let z : one M (pressed c) y ≡ record { local = y.local; devs = put console x y.devs; made = y.made } = rw (get_settle M L console a l b k d f f', e) in
      record {
        same =
            settle_hit M L x port-0 a l u.made b k v.made d f f' ∙ sym z ∙ ap (one M (pressed c)) h.same ∙ sym (serial_add M L log (pressed c) y₀);
        apart = h.apart;
        fit = hit_fit c x _ d h.fit e;
        own = rw (requests_key M port-0 log c) (port_apart M L console x a l d f h.own);
        others = rw (requests_key M port-1 log c) (port_apart M L console x b k d f' h.others);
      }

  press_inv : (c : Key) (a : Phase M) (l : Local) (u : PortSeen M) (b : Phase M) (k : Local) (v : PortSeen M) (d : Devs) (log : List (Event M))
      → Inv port-0 a l u b k v d log → Pressed c (holds M console a || holds M console b) (hit c (get console d)) a l u b k v d log
  press_inv c a l u b k v d log h = go (holds M console a) (holds M console b) refl refl
    where
      go : (t s : Bool) → holds M console a ≡ t → holds M console b ≡ s → Pressed c (t || s) (hit c (get console d)) a l u b k v d log
      go true s e f = rw (append-nil log) h
      go false true e f = rw (append-nil log) h
      go false false e f = hit_inv c (hit c (get console d)) a l u b k v d log refl e f h

  -- every call, and every run
  abbrev pub Holding : State M (core_of M) → Type 0
  Holding s =
      let w = s.world in
      Inv port-0 (phase_at M port-0 w) (local_at M port-0 w) s.seen.port.zeroth (phase_at M port-1 w) (local_at M port-1 w) s.seen.port.first w.devs s.seen.log

  turned : (s : State M (core_of M)) → Holding s
      → let w = s.world in
      Inv port-1 (phase_at M port-1 w) (local_at M port-1 w) s.seen.port.first (phase_at M port-0 w) (local_at M port-0 w) s.seen.port.zeroth w.devs s.seen.log
  turned s h = swap port-0 _ _ _ _ _ _ _ _ h

  pub inv_next : (c : CoreCall M) (s : State M (core_of M)) → OkCall M c → Holding s → Holding (next M (core_of M) c s)
  inv_next (take port-0 c) s ok h = take_inv c port-0 _ _ _ _ _ _ _ _ ok h
  inv_next (take port-1 c) s ok h = swap port-1 _ _ _ _ _ _ _ _ (take_inv c port-1 _ _ _ _ _ _ _ _ ok (turned s h))
  inv_next (tick port-0) s ok h = tick_inv port-0 _ _ _ _ _ _ _ _ h
  inv_next (tick port-1) s ok h = swap port-1 _ _ _ _ _ _ _ _ (tick_inv port-1 _ _ _ _ _ _ _ _ (turned s h))
  inv_next (give port-0) s ok h = give_inv port-0 _ _ _ _ _ _ _ _ h
  inv_next (give port-1) s ok h = swap port-1 _ _ _ _ _ _ _ _ (give_inv port-1 _ _ _ _ _ _ _ _ (turned s h))
  inv_next (press c) s ok h = press_inv c _ _ _ _ _ _ _ _ h

  pub inv_after : (cs : List (CoreCall M)) (s : State M (core_of M)) → OkCalls M cs → Holding s → Holding (after M (core_of M) cs s)
  unfolding after
  inv_after [] s ok h = h
  inv_after (c ∷ cs) s (one_more_case oc ok) h = inv_after cs (next M (core_of M) c s) ok (inv_next c s oc h)

module _ (M : Machine) (L : Laws M) where
  open M use {Local, none_yet, Devs, Fit}
  open L use {begun}

  port_begin : (l : Local) (d : Devs) (p : PortName) → PortInv M L (gathering none_yet) l d (record { taken = []; given = []; made = [] }) (requests_of M p [])
  unfolding requests_of bytes_of_all Spelled
  port_begin l d p = record { pend = tt; ins = record { front = []; behind = []; all = refl; spelled = refl; still = begun }; outs = refl }

  inv_idle : (t : Two Local) (d : Devs) → Fit t d → let s = begin M (core_of M) (idle_over M t d) in Holding M L (whole_of M (core_of M) s) s
  unfolding serial
  inv_idle t d f = record { same = refl; apart = refl; fit = f; own = port_begin t.zeroth d port-0; others = port_begin t.first d port-1 }

  pub inv_begin : (w : View M) → Begun M (core_of M) w → let s = begin M (core_of M) w in Holding M L (whole_of M (core_of M) s) s
  inv_begin w b = subst (λ v. let s = begin M (core_of M) v in Holding M L (whole_of M (core_of M) s) s) (sym b.0) (inv_idle (locals M w) w.devs b.1)

  pub reached : (w : View M) → Begun M (core_of M) w → (cs : List (CoreCall M)) → OkCalls M cs
      → let s = begin M (core_of M) w in
      Holding M L (whole_of M (core_of M) s) (after M (core_of M) cs s)
  reached w b cs ok = let s = begin M (core_of M) w in inv_after M L (whole_of M (core_of M) s) cs s ok (inv_begin w b)
