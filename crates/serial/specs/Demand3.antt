-- Demand 3 of any core: the run is as the serial run, and the bytes taken and given are its own. Assumes nothing.
use Rattle.std.specs.Prelude.{◌≡◌, List, [], ◌∷◌, ◌++◌}
use Rattle.serial.specs.Machine.{PortName, port-0, port-1, Two, at, set, ReplyBytes, Machine}
use Rattle.serial.specs.Core.{Phase, gathering, ready, running, replying, Runs, Quiet, phase_at, locals, CoreCall, take, tick, give, press, Core}
use Rattle.serial.specs.Calls.{hit_to}
use Rattle.serial.specs.Reading.{Spelled, Reads}
use Rattle.serial.specs.Run.{Event, started, pressed, State, OkCalls, Begun, after, begin}

module _ (M : Machine) where
  open M use {Byte, Local, Message, Devs, get, alone, console, hit, Gathered, Spells}

  -- "The replies made for each port, both memory areas, both control-block tables, the console and the paper"
  pub record Whole : Type 0 where
    pub local : Two Local
    pub devs : Devs
    pub made : Two (List (ReplyBytes Byte))

  -- a request alone, "to its end as demand 2 says", or a key
  abbrev pub one : Event M → Whole → Whole
  one (started p m) y =
      let a = alone m (at p y.local) y.devs in
      record { local = set p a.local y.local; devs = a.devs; made = set p (at p y.made ++ (a.reply ∷ [])) y.made }
  one (pressed c) y = record { local = y.local; devs = hit_to M (hit c (get console y.devs)) y.devs; made = y.made }

  -- "the run in which the started requests and the taken keys go one at a time, ... in the order of start or press"
  unfoldable pub serial : List (Event M) → Whole → Whole
  serial [] y = y
  serial (e ∷ es) y = serial es (one e y)

  -- the requests that a port started, in order
  abbrev pub request_in : PortName → Event M → List Message
  request_in port-0 (started port-0 m) = m ∷ []
  request_in port-0 (started port-1 m) = []
  request_in port-1 (started port-0 m) = []
  request_in port-1 (started port-1 m) = m ∷ []
  request_in p (pressed c) = []

  unfoldable pub requests_of : PortName → List (Event M) → List Message
  requests_of p [] = []
  requests_of p (e ∷ es) = request_in p e ++ requests_of p es

  -- the bytes that a port still gathers or has ready
  abbrev pub Behind : Phase M → List Byte → Type 0
  Behind (gathering x) bs = Gathered bs x
  Behind (ready m) bs = Spells bs m
  Behind (running g k) bs = (bs ≡ [])
  Behind (replying r) bs = (bs ≡ [])

  -- "The bytes taken on a port spell its started requests, in order and unmixed, then what it still gathers or has ready"
  pub record Taken (ph : Phase M) (taken : List Byte) (requests : List Message) : Type 0 where
    pub front : List Byte
    pub behind : List Byte
    pub all : taken ≡ front ++ behind
    pub spelled : Spelled M requests front
    pub still : Behind ph behind

  -- the message that a port has ready
  abbrev pub ready_in : Phase M → List Message
  ready_in (gathering x) = []
  ready_in (ready m) = m ∷ []
  ready_in (running g k) = []
  ready_in (replying r) = []

  abbrev pub bytes_of : ReplyBytes Byte → List Byte
  bytes_of r = r.head ∷ r.rest

  unfoldable pub bytes_of_all : List (ReplyBytes Byte) → List Byte
  bytes_of_all [] = []
  bytes_of_all (r ∷ rs) = bytes_of r ++ bytes_of_all rs

  -- what of the last reply is not called for yet
  abbrev pub left : Phase M → List Byte
  left (gathering x) = []
  left (ready m) = []
  left (running g k) = []
  left (replying r) = bytes_of r

  module _ (C : Core M) where
    abbrev pub whole_of : State M C → Whole
    whole_of s = record {
      local = locals M (C.see s.world);
      devs = (C.see s.world).devs;
      made = record { zeroth = s.seen.port.zeroth.made; first = s.seen.port.first.made };
    }

    -- "every started request finished"
    abbrev pub Finished : State M C → Type 0
    Finished s = Quiet M (phase_at M port-0 (C.see s.world)) × Quiet M (phase_at M port-1 (C.see s.world))

    -- "The replies made for each port, ... are those of the run in which the started requests and the taken keys go one at a time"
    abbrev pub SerialRule : Type 0
    SerialRule = (w : C.World) → Begun M C w → (cs : List (CoreCall M)) → OkCalls M cs
        → let s = after M C cs (begin M C w) in
        Finished s → whole_of s ≡ serial s.seen.log (whole_of (begin M C w))

    abbrev pub TakenRule : Type 0
    TakenRule = (w : C.World) → Begun M C w → (cs : List (CoreCall M)) → OkCalls M cs → (p : PortName)
        → let s = after M C cs (begin M C w) in
        Taken (phase_at M p (C.see s.world)) (at p s.seen.port).taken (requests_of p s.seen.log)

    -- so what a host sent decides what its port started: the taken bytes are read in one way, as its started requests and the ready one
    abbrev pub ReadRule : Type 0
    ReadRule = (w : C.World) → Begun M C w → (cs : List (CoreCall M)) → OkCalls M cs → (p : PortName)
        → let s = after M C cs (begin M C w) in
        (ms : List Message) (rest : List Byte) → Reads M ms rest (at p s.seen.port).taken → ms ≡ requests_of p s.seen.log ++ ready_in (phase_at M p (C.see s.world))

    -- "the bytes given on it are those of its own replies, in order, as far as called for"
    abbrev pub GivenRule : Type 0
    GivenRule = (w : C.World) → Begun M C w → (cs : List (CoreCall M)) → OkCalls M cs → (p : PortName)
        → let s = after M C cs (begin M C w) in
        (at p s.seen.port).given ++ left (phase_at M p (C.see s.world)) ≡ bytes_of_all (at p s.seen.port).made

    pub record Demand3 : Type 0 where
      pub as_serial : SerialRule
      pub taken : TakenRule
      pub read : ReadRule
      pub given : GivenRule

    -- each of these calls is a tick of a port that runs a request then
    abbrev pub IsMove : CoreCall M → C.World → Type 0
    IsMove (take p b) w = ⊥
    IsMove (tick p) w = Runs M (phase_at M p (C.see w))
    IsMove (give p) w = ⊥
    IsMove (press c) w = ⊥

    abbrev pub Moves : List (CoreCall M) → C.World → Type 0
    Moves [] w = Unit {0}
    Moves (c ∷ cs) w = IsMove c w × Moves cs (C.call c w).world

    -- where some request is not finished: it can be, and however the two ports' moves are mixed, the serial result is there then
    pub record UnfinishedRule : Type 0 where
      pub can_finish : (w : C.World) → Begun M C w → (cs : List (CoreCall M)) → OkCalls M cs
          → let s = after M C cs (begin M C w) in
          (ds : List (CoreCall M)) × Moves ds s.world × Finished (after M C ds s)
      pub as_serial : (w : C.World) → Begun M C w → (cs : List (CoreCall M)) → OkCalls M cs
          → let s = after M C cs (begin M C w) in
          (ds : List (CoreCall M)) → Moves ds s.world → Finished (after M C ds s)
          → whole_of (after M C ds s) ≡ serial s.seen.log (whole_of (begin M C w))
