-- What holds of one port all along a run: what it runs is sound and ends, the bytes it took spell what it started and then
-- what it holds, the bytes it gave are its replies'. Kept by its own steps, and by the other's. Assumes nothing.
use mathlib.Core.Path.{◌≡◌, refl, sym, ◌∙◌, ap, subst}
use mathlib.Core.Bool.{false}
use mathlib.Core.List.{List, [], ◌∷◌, ◌++◌, append-nil, append_assoc}
use Rattle.serial.specs.Machine.{ReplyBytes, Becomes, goes, ends, Fed, more, full, Machine, StepOf, finish}
use Rattle.serial.specs.Core.{Phase, gathering, ready, running, replying}
use Rattle.serial.specs.Calls.{holds, phase_of, fed_phase, rest_phase}
use Rattle.serial.specs.Run.{PortSeen, took_more, gave_more, made_more, reply_in}
use Rattle.serial.specs.Demand3.{Behind, Taken, bytes_of_all, left}
use Rattle.serial.specs.Reading.{Spelled}
use Rattle.serial.specs.Laws.{OkOut, Laws}
use Rattle.serial.proofs.Finish.{Ended}
use Rattle.serial.proofs.Ends.{Pending}
use Rattle.serial.proofs.Bytes.{spelled_add, bytes_add}

module _ (M : Machine) (L : Laws M) where
  open M use {Byte, Local, Gather, Message, feed, Group, Devs, Dev, put, Run, fuel, OkByte, OkRun}
  open L use {get_put, clash_sym, get_apart, begun, more_is, full_is}

  pub record PortInv (ph : Phase M) (l : Local) (d : Devs) (u : PortSeen M) (ms : List Message) : Type 0 where
    pub pend : Pending M L ph l d
    pub ins : Taken M ph u.taken ms
    pub outs : u.given ++ left M ph ≡ bytes_of_all M u.made

  -- another group's device changes nothing of it
  pub port_apart : (g : Group) (x : Dev g) (ph : Phase M) (l : Local) (d : Devs) {u : PortSeen M} {ms : List Message}
      → holds M g ph ≡ false → PortInv ph l d u ms → PortInv ph l (put g x d) u ms
  port_apart g x ph l d e h = record { pend = go ph e h.pend; ins = h.ins; outs = h.outs }
    where
      go : (ph : Phase M) → holds M g ph ≡ false → Pending M L ph l d → Pending M L ph l (put g x d)
      go (gathering y) e p = tt
      go (ready m) e p = tt
      go (running h k) e p = rw (get_apart h g x d (clash_sym h g ∙ e)) p
      go (replying r) e p = tt

  -- its start or its move
  land_pend : (g : Group) (o : Becomes Byte Run) (l : Local) (x : Dev g) (d : Devs) → OkOut M (λ k. OkRun g k l x) o
      → Ended M (finish M fuel g (record { local = l; dev = x; out = o })).out → Pending M L (phase_of M g o) l (put g x d)
  land_pend g (goes k) l x d h e = rw (get_put g x d) (h, e)
  land_pend g (ends r) l x d h e = tt

  land_outs : (g : Group) (o : Becomes Byte Run) (v : List Byte) (rs : List (ReplyBytes Byte)) → v ++ [] ≡ bytes_of_all M rs
      → v ++ left M (phase_of M g o) ≡ bytes_of_all M (rs ++ reply_in M (phase_of M g o))
  land_outs g (goes k) v rs e = rw (append-nil rs) e
  land_outs g (ends r) v rs e = rw (bytes_add M rs r, ← e, append-nil v)

  land_behind : (g : Group) (o : Becomes Byte Run) → Behind M (phase_of M g o) []
  land_behind g (goes k) = refl
  land_behind g (ends r) = refl

  pub port_land : (g : Group) (s : StepOf M g) (d : Devs) (u : PortSeen M) {ms : List Message}
      → OkOut M (λ k. OkRun g k s.local s.dev) s.out → Ended M (finish M fuel g s).out → Spelled M ms u.taken → u.given ++ [] ≡ bytes_of_all M u.made
      → PortInv (phase_of M g s.out) s.local (put g s.dev d) (made_more M (reply_in M (phase_of M g s.out)) u) ms
  port_land g s d u ok e sp o = record {
    pend = land_pend g s.out s.local s.dev d ok e;
    ins = record { front = u.taken; behind = []; all = sym (append-nil u.taken); spelled = sp; still = land_behind g s.out };
    outs = land_outs g s.out u.given u.made o;
  }

  pub spelled_ready : {m : Message} {t : List Byte} {ms : List Message} → Taken M (ready m) t ms → Spelled M (ms ++ (m ∷ [])) t
  spelled_ready {m} {t} {ms} h = subst (λ z. Spelled M (ms ++ (m ∷ [])) z) (sym h.all) (spelled_add M ms h.front h.behind m h.spelled h.still)

  pub spelled_run : {g : Group} {k : Run} {t : List Byte} {ms : List Message} → Taken M (running g k) t ms → Spelled M ms t
  spelled_run {g} {k} {t} {ms} h = subst (λ z. Spelled M ms z) (sym (h.all ∙ ap (λ z. h.front ++ z) h.still ∙ append-nil h.front)) h.spelled

  -- a byte taken
  fed_still : (x : Gather) (b : Byte) (f : Fed Gather Message) (bs : List Byte) → OkByte b → feed x b ≡ f → Behind M (gathering x) bs → Behind M (fed_phase M f) (bs ++ (b ∷ []))
  fed_still x b (more y) bs ok e h = more_is bs x y b ok h e
  fed_still x b (full m) bs ok e h = full_is bs x m b ok h e

  fed_left : (f : Fed Gather Message) → left M (fed_phase M f) ≡ []
  fed_left (more y) = refl
  fed_left (full m) = refl

  fed_pend : (f : Fed Gather Message) (l : Local) (d : Devs) → Pending M L (fed_phase M f) l d
  fed_pend (more y) l d = tt
  fed_pend (full m) l d = tt

  pub port_take : (x : Gather) (b : Byte) (l : Local) (d : Devs) (u : PortSeen M) {ms : List Message}
      → OkByte b → PortInv (gathering x) l d u ms → PortInv (fed_phase M (feed x b)) l d (took_more M (b ∷ []) u) ms
  port_take x b l d u ok h = record {
    pend = fed_pend (feed x b) l d;
    ins = record {
      front = h.ins.front;
      behind = h.ins.behind ++ (b ∷ []);
      all = ap (λ z. z ++ (b ∷ [])) h.ins.all ∙ append_assoc h.ins.front _ _;
      spelled = h.ins.spelled;
      still = fed_still x b (feed x b) h.ins.behind ok refl h.ins.still;
    };
    outs = ap (λ z. u.given ++ z) (fed_left (feed x b)) ∙ h.outs;
  }

  -- a byte given
  pub port_give : (b : Byte) (bs : List Byte) (l : Local) (d : Devs) (u : PortSeen M) {ms : List Message}
      → PortInv (replying (record { head = b; rest = bs })) l d u ms → PortInv (rest_phase M bs) l d (gave_more M (b ∷ []) u) ms
  port_give b [] l d u h = record {
    pend = tt;
    ins = record {
      front = h.ins.front;
      behind = [];
      all = h.ins.all ∙ ap (λ z. h.ins.front ++ z) h.ins.still;
      spelled = h.ins.spelled;
      still = begun;
    };
    outs = append-nil _ ∙ h.outs;
  }
  port_give b (c ∷ bs) l d u h = record {
    pend = tt;
    ins = record { front = h.ins.front; behind = h.ins.behind; all = h.ins.all; spelled = h.ins.spelled; still = h.ins.still };
    outs = append_assoc u.given _ _ ∙ h.outs;
  }
