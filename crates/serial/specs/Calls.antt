-- The machine's own core: its ports and devices, and what each call does to them. Assumes nothing.
use Rattle.std.specs.Prelude.{◌≡◌, Bool, true, false, ◌||◌, List, [], ◌∷◌}
use Rattle.std.proofs.Math.Option.{Option, none, some}
use Rattle.serial.specs.Machine.{PortName, port-0, port-1, Two, set, other, Becomes, goes, ends, Fed, more, full, Machine, StepOf}
use Rattle.serial.specs.Core.{Phase, gathering, ready, running, replying, PortView, View, phase_at, local_at, locals, CoreCall, take, tick, give, press, Answer, done, gave, not-gathering, no_byte, console-held, idle, group-held, key-refused, Effect, Core}

module _ (M : Machine) where
  open M use {Byte, Local, Gather, Message, none_yet, feed, Group, Devs, Dev, get, put, clash, Run, need, start, move, console, hit}

  -- what a call does at its port and to the devices
  pub record Act : Type 0 where
    pub port : PortView M
    pub devs : Devs
    pub answer : Answer M

  abbrev pub keep : Phase M → Local → Devs → Answer M → Act
  keep ph l d a = record { port = record { local = l; phase = ph }; devs = d; answer = a }

  -- "byte offered while not gathering": 4. A message "is ready when its last byte is taken".
  abbrev pub fed_phase : Fed Gather Message → Phase M
  fed_phase (more x) = gathering x
  fed_phase (full m) = ready m

  abbrev pub take_act : Phase M → Byte → Local → Devs → Act
  take_act (gathering x) b l d = keep (fed_phase (feed x b)) l d done
  take_act (ready m) b l d = keep (ready m) l d not-gathering
  take_act (running g k) b l d = keep (running g k) l d not-gathering
  take_act (replying r) b l d = keep (replying r) l d not-gathering

  -- "no reply byte to give": 5
  abbrev pub rest_phase : List Byte → Phase M
  rest_phase [] = gathering none_yet
  rest_phase (b ∷ bs) = replying (record { head = b; rest = bs })

  abbrev pub give_act : Phase M → Local → Devs → Act
  give_act (gathering x) l d = keep (gathering x) l d no_byte
  give_act (ready m) l d = keep (ready m) l d no_byte
  give_act (running g k) l d = keep (running g k) l d no_byte
  give_act (replying r) l d = keep (rest_phase r.rest) l d (gave r.head)

  -- "A request holds only the group it needs, from its start tick through its last."
  abbrev pub holds : Group → Phase M → Bool
  holds g (gathering x) = false
  holds g (ready m) = false
  holds g (running h k) = clash g h
  holds g (replying r) = false

  -- "The last tick makes the reply and frees the group."
  abbrev pub phase_of : Group → Becomes Byte Run → Phase M
  phase_of g (goes k) = running g k
  phase_of g (ends r) = replying r

  abbrev pub land : (g : Group) → StepOf M g → Devs → Act
  land g s d = keep (phase_of g s.out) s.local (put g s.dev d) done

  -- "tick, nothing ready or running": 7. "tick, ready, group held by the other port": 8.
  abbrev pub start_if : Bool → (g : Group) → Message → Local → Devs → Act
  start_if true g m l d = keep (ready m) l d group-held
  start_if false g m l d = land g (start g m l (get g d)) d

  abbrev pub tick_act : Phase M → Local → Phase M → Devs → Act
  tick_act (gathering x) l t d = keep (gathering x) l d idle
  tick_act (ready m) l t d = start_if (holds (need l m) t) (need l m) m l d
  tick_act (running g k) l t d = land g (move g k l (get g d)) d
  tick_act (replying r) l t d = keep (replying r) l d idle

  abbrev pub on_port : PortName → Act → View M → Effect M (View M)
  on_port p a v = record { world = record { ports = set p a.port v.ports; devs = a.devs }; answer = a.answer }

  -- the port and its group's device as the step leaves them, all else as before
  abbrev pub landed : PortName → (g : Group) → StepOf M g → View M → View M
  landed p g s v = (on_port p (land g s v.devs) v).world

  -- "key pressed while a request holds the console": 6
  abbrev pub hit_to : Option (Dev console) → Devs → Devs
  hit_to none d = d
  hit_to (some x) d = put console x d

  abbrev pub hit_answer : Option (Dev console) → Answer M
  hit_answer none = key-refused
  hit_answer (some x) = done

  abbrev pub press_if : Bool → Option (Dev console) → View M → Effect M (View M)
  press_if true o v = record { world = v; answer = console-held }
  press_if false o v = record { world = record { ports = v.ports; devs = hit_to o v.devs }; answer = hit_answer o }

  abbrev pub call_of : CoreCall M → View M → Effect M (View M)
  call_of (take p b) v = on_port p (take_act (phase_at M p v) b (local_at M p v) v.devs) v
  call_of (tick p) v = on_port p (tick_act (phase_at M p v) (local_at M p v) (phase_at M (other p) v) v.devs) v
  call_of (give p) v = on_port p (give_act (phase_at M p v) (local_at M p v) v.devs) v
  call_of (press c) v = press_if (holds console (phase_at M port-0 v) || holds console (phase_at M port-1 v)) (hit c (get console v.devs)) v

  -- "Fresh: both ports gathering with no byte taken, no group held"
  abbrev pub idle_over : Two Local → Devs → View M
  idle_over t d = record {
    ports = record { zeroth = record { local = t.zeroth; phase = gathering none_yet }; first = record { local = t.first; phase = gathering none_yet } };
    devs = d;
  }

  abbrev pub FreshView : View M → Type 0
  FreshView v = (v ≡ idle_over (locals M v) v.devs)

  abbrev pub core_of : Core M
  core_of = record { World = View M; Fresh = FreshView; call = call_of; see = λ v. v }
