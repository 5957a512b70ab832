-- A run of a core: calls after one fresh start, and what is seen of them. Assumes nothing.
use Rattle.std.specs.Prelude.{◌≡◌, List, [], ◌∷◌, ◌++◌}
use Rattle.serial.specs.Machine.{PortName, Two, at, set, ReplyBytes, Machine}
use Rattle.serial.specs.Core.{Phase, gathering, ready, running, replying, phase_at, locals, CoreCall, take, tick, give, press, Answer, done, gave, not-gathering, no_byte, console-held, idle, group-held, key-refused, Core}

module _ (M : Machine) where
  open M use {Byte, Message, Key, OkByte, Fit}

  -- "the started requests and the taken keys ... in the order of start or press"
  pub data Event : Type 0 where
    started : PortName → Message → Event
    pressed : Key → Event

  -- of a port: the bytes taken on it, the bytes given on it, the replies made for it
  pub record PortSeen : Type 0 where
    pub taken : List Byte
    pub given : List Byte
    pub made : List (ReplyBytes Byte)

  pub record Seen : Type 0 where
    pub log : List Event
    pub port : Two PortSeen

  -- a request is started when its port's tick finds it ready and leaves it not ready
  abbrev pub left_ready : PortName → Message → Phase M → List Event
  left_ready p m (gathering x) = started p m ∷ []
  left_ready p m (ready n) = []
  left_ready p m (running g k) = started p m ∷ []
  left_ready p m (replying r) = started p m ∷ []

  abbrev pub started_by : PortName → Phase M → Phase M → List Event
  started_by p (gathering x) q = []
  started_by p (ready m) q = left_ready p m q
  started_by p (running g k) q = []
  started_by p (replying r) q = []

  -- a reply is made when its port's tick finds it ready or running and leaves it replying
  abbrev pub reply_in : Phase M → List (ReplyBytes Byte)
  reply_in (gathering x) = []
  reply_in (ready m) = []
  reply_in (running g k) = []
  reply_in (replying r) = r ∷ []

  abbrev pub made_by : Phase M → Phase M → List (ReplyBytes Byte)
  made_by (gathering x) q = []
  made_by (ready m) q = reply_in q
  made_by (running g k) q = reply_in q
  made_by (replying r) q = []

  -- a byte is taken, and a key, when the call is answered done; a byte is given when the answer has one
  abbrev pub if_done : {X : Type 0} → Answer M → X → List X
  if_done done x = x ∷ []
  if_done (gave b) x = []
  if_done not-gathering x = []
  if_done no_byte x = []
  if_done console-held x = []
  if_done idle x = []
  if_done group-held x = []
  if_done key-refused x = []

  abbrev pub byte_in : Answer M → List Byte
  byte_in done = []
  byte_in (gave b) = b ∷ []
  byte_in not-gathering = []
  byte_in no_byte = []
  byte_in console-held = []
  byte_in idle = []
  byte_in group-held = []
  byte_in key-refused = []

  abbrev pub took_more : List Byte → PortSeen → PortSeen
  took_more bs u = record { taken = u.taken ++ bs; given = u.given; made = u.made }

  abbrev pub gave_more : List Byte → PortSeen → PortSeen
  gave_more bs u = record { taken = u.taken; given = u.given ++ bs; made = u.made }

  abbrev pub made_more : List (ReplyBytes Byte) → PortSeen → PortSeen
  made_more rs u = record { taken = u.taken; given = u.given; made = u.made ++ rs }

  -- from the call, its answer, and its port's phase before and after
  abbrev pub watch : CoreCall M → (before after : PortName → Phase M) → Answer M → Seen → Seen
  watch (take p b) f g a s = record { log = s.log; port = set p (took_more (if_done a b) (at p s.port)) s.port }
  watch (tick p) f g a s = record { log = s.log ++ started_by p (f p) (g p); port = set p (made_more (made_by (f p) (g p)) (at p s.port)) s.port }
  watch (give p) f g a s = record { log = s.log; port = set p (gave_more (byte_in a) (at p s.port)) s.port }
  watch (press c) f g a s = record { log = s.log ++ if_done a (pressed c); port = s.port }

  abbrev pub nothing_seen : Seen
  nothing_seen =
      let u : PortSeen = record { taken = []; given = []; made = [] } in
      record { log = []; port = record { zeroth = u; first = u } }

  -- "Whatever bytes the two hosts send": a byte is a byte
  abbrev pub OkCall : CoreCall M → Type 0
  OkCall (take p b) = OkByte b
  OkCall (tick p) = Unit {0}
  OkCall (give p) = Unit {0}
  OkCall (press c) = Unit {0}

  pub data OkCalls : List (CoreCall M) → Type 0 where
    no_call : OkCalls []
    one_more_case : {c : CoreCall M} {cs : List (CoreCall M)} → OkCall c → OkCalls cs → OkCalls (c ∷ cs)

  module _ (C : Core M) where
    pub record State : Type 0 where
      pub world : C.World
      pub seen : Seen

    abbrev pub phase_in : C.World → PortName → Phase M
    phase_in w p = phase_at M p (C.see w)

    abbrev pub next : CoreCall M → State → State
    next c s =
        let e = C.call c s.world in
        record { world = e.world; seen = watch c (phase_in s.world) (phase_in e.world) e.answer s.seen }

    unfoldable pub after : List (CoreCall M) → State → State
    after [] s = s
    after (c ∷ cs) s = after cs (next c s)

    -- "one fresh start that gives 0"; data and devices are not damaged then, as has to be shown of a core
    abbrev pub Begun : C.World → Type 0
    Begun w = C.Fresh w × Fit (locals M (C.see w)) (C.see w).devs

    abbrev pub begin : C.World → State
    begin w = record { world = w; seen = nothing_seen }

    -- "any sequence of calls after one fresh start", "both ports and the key presses mixed in any order"
    pub record Reached (w : C.World) : Type 0 where
      pub from : C.World
      pub begun : Begun from
      pub calls : List (CoreCall M)
      pub ok : OkCalls calls
      pub there : (after calls (begin from)).world ≡ w
