-- What a machine has to meet, so that the demands follow. Assumes nothing.
use Rattle.std.specs.Prelude.{◌≡◌, false, List, [], ◌∷◌, ◌++◌}
use Rattle.std.proofs.Math.Option.{some}
use Rattle.serial.specs.Machine.{PortName, Two, at, set, Becomes, goes, ends, more, full, Machine, finish}

module _ (M : Machine) where
  open M use {Byte, Local, Gather, Message, none_yet, feed, Group, Devs, Dev, get, put, clash, Run, need, start, move, fuel, alone, Key, console, hit, OkByte, Gathered, Spells, Fit, OkRun}

  abbrev pub OkOut : (Run → Type 0) → Becomes Byte Run → Type 0
  OkOut Ok (goes k) = Ok k
  OkOut Ok (ends r) = Unit {0}

  pub record Laws : Type 0 where
    -- the groups are places of the devices, and groups that do not clash are apart
    pub get_put : (g : Group) (x : Dev g) (d : Devs) → get g (put g x d) ≡ x
    pub put_put : (g : Group) (x y : Dev g) (d : Devs) → put g x (put g y d) ≡ put g x d
    pub clash_sym : (g h : Group) → clash g h ≡ clash h g
    pub get_apart : (g h : Group) (y : Dev h) (d : Devs) → clash g h ≡ false → get g (put h y d) ≡ get g d
    pub put_apart : (g h : Group) (x : Dev g) (y : Dev h) (d : Devs) → clash g h ≡ false → put g x (put h y d) ≡ put h y (put g x d)
    -- what is gathered are the bytes taken; with the last of them it is the message that they spell, and not before
    pub begun : Gathered [] none_yet
    pub more_is : (bs : List Byte) (x y : Gather) (b : Byte) → OkByte b → Gathered bs x → feed x b ≡ more y → Gathered (bs ++ (b ∷ [])) y
    pub full_is : (bs : List Byte) (x : Gather) (m : Message) (b : Byte) → OkByte b → Gathered bs x → feed x b ≡ full m → Spells (bs ++ (b ∷ [])) m
    pub not_whole : (bs cs : List Byte) (x : Gather) (m : Message) → Gathered (bs ++ cs) x → Spells bs m → ⊥
    -- the bytes decide the message, and no message's bytes begin another's
    pub decides : (bs : List Byte) (m n : Message) → Spells bs m → Spells bs n → m ≡ n
    pub prefix_free : (bs cs : List Byte) (m n : Message) → Spells bs m → Spells (bs ++ cs) n → cs ≡ []
    -- a start, a move and a key keep what is not damaged
    pub start_fit : (p : PortName) (m : Message) (t : Two Local) (d : Devs) → Fit t d
        → let g = need (at p t) m in
        let s = start g m (at p t) (get g d) in
        Fit (set p s.local t) (put g s.dev d) × OkOut (λ k. OkRun g k s.local s.dev) s.out
    pub move_fit : (p : PortName) (g : Group) (k : Run) (t : Two Local) (d : Devs) → Fit t d → OkRun g k (at p t) (get g d)
        → let s = move g k (at p t) (get g d) in
        Fit (set p s.local t) (put g s.dev d) × OkOut (λ k. OkRun g k s.local s.dev) s.out
    pub hit_fit : (c : Key) (x : Dev console) (t : Two Local) (d : Devs) → Fit t d → hit c (get console d) ≡ some x → Fit t (put console x d)
    -- a request alone is its start and then at most `fuel` moves, and leaves every other group's device as it was
    pub alone_is : (p : PortName) (m : Message) (t : Two Local) (d : Devs) → Fit t d
        → let g = need (at p t) m in
        let a = alone m (at p t) d in
        finish M fuel g (start g m (at p t) (get g d)) ≡ record { local = a.local; dev = get g a.devs; out = ends a.reply }
    pub alone_else : (p : PortName) (m : Message) (t : Two Local) (d : Devs) → Fit t d
        → let g = need (at p t) m in
        let a = alone m (at p t) d in
        a.devs ≡ put g (get g a.devs) d
