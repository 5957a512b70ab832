-- A toy machine, right and small: a message is two bytes, a tag and a value. Tag 0 puts the value into the port's data, tag 1
-- reads the key, every other prints the value's number of stars, three at most. Assumes nothing.
use mathlib.Core.Path.{◌≡◌}
use mathlib.Core.Bool.{Bool, true, false}
use mathlib.Core.Option.{Option, none, some}
use mathlib.Core.List.{List, [], ◌∷◌}
use Prim.Native.Nat.{ℕ, zero, suc, ◌<◌}
use Rattle.serial.specs.Machine.{Machine, Step, AloneLeaves, ReplyBytes, Becomes, goes, ends, Fed, more, full}

pub data Group : Type 0 where
  nobody keyboard printer : Group

pub record Devices : Type 0 where
  pub key : ℕ
  pub paper : List ℕ

abbrev pub Device : Group → Type 0
Device nobody = Unit {0}
Device keyboard = ℕ
Device printer = List ℕ

abbrev pub get_device : (g : Group) → Devices → Device g
get_device nobody d = tt
get_device keyboard d = d.key
get_device printer d = d.paper

abbrev pub put_device : (g : Group) → Device g → Devices → Devices
put_device nobody x d = d
put_device keyboard x d = record { key = x; paper = d.paper }
put_device printer x d = record { key = d.key; paper = x }

abbrev pub clashes : Group → Group → Bool
clashes nobody h = false
clashes keyboard nobody = false
clashes keyboard keyboard = true
clashes keyboard printer = false
clashes printer nobody = false
clashes printer keyboard = false
clashes printer printer = true

pub record Message : Type 0 where
  pub tag : ℕ
  pub value : ℕ

abbrev pub fed : Option ℕ → ℕ → Fed (Option ℕ) Message
fed none b = more (some b)
fed (some a) b = full (record { tag = a; value = b })

abbrev pub needs : ℕ → Group
needs zero = nobody
needs (suc zero) = keyboard
needs (suc (suc n)) = printer

abbrev pub replies : ℕ → ReplyBytes ℕ
replies n = record { head = 144; rest = n ∷ [] }

abbrev pub few : ℕ → ℕ
few zero = 0
few (suc zero) = 1
few (suc (suc zero)) = 2
few (suc (suc (suc n))) = 3

-- n stars are left to print
abbrev pub goes_on : ℕ → Becomes ℕ ℕ
goes_on zero = ends (replies 1)
goes_on (suc n) = goes n

abbrev pub starts : (g : Group) → Message → List ℕ → Device g → Step ℕ ℕ (List ℕ) (Device g)
starts nobody m l x = record { local = m.value ∷ l; dev = tt; out = ends (replies 1) }
starts keyboard m l x = record { local = l; dev = x; out = goes 0 }
starts printer m l x = record { local = l; dev = x; out = goes_on (few m.value) }

abbrev pub moves : (g : Group) → ℕ → List ℕ → Device g → Step ℕ ℕ (List ℕ) (Device g)
moves nobody k l x = record { local = l; dev = x; out = ends (replies 0) }
moves keyboard k l x = record { local = l; dev = 255; out = ends (replies x) }
moves printer k l x = record { local = l; dev = 42 ∷ x; out = goes_on k }

abbrev pub stars : ℕ → List ℕ → List ℕ
stars zero x = x
stars (suc n) x = 42 ∷ stars n x

abbrev pub alone_by : ℕ → ℕ → List ℕ → Devices → AloneLeaves ℕ (List ℕ) Devices
alone_by zero v l d = record { local = v ∷ l; devs = d; reply = replies 1 }
alone_by (suc zero) v l d = record { local = l; devs = record { key = 255; paper = d.paper }; reply = replies d.key }
alone_by (suc (suc n)) v l d = record { local = l; devs = record { key = d.key; paper = stars (few v) d.paper }; reply = replies 1 }

abbrev pub Gathers : List ℕ → Option ℕ → Type 0
Gathers bs none = (bs ≡ [])
Gathers bs (some a) = (bs ≡ a ∷ []) × (a < 256)

abbrev pub SpellsIt : List ℕ → Message → Type 0
SpellsIt bs m = (bs ≡ m.tag ∷ (m.value ∷ [])) × (m.tag < 256) × (m.value < 256)

abbrev pub toy : Machine
toy = record {
  Byte = ℕ;
  Local = List ℕ;
  Gather = Option ℕ;
  Message = Message;
  none_yet = none;
  feed = fed;
  Group = Group;
  Devs = Devices;
  Dev = Device;
  get = get_device;
  put = put_device;
  clash = clashes;
  Run = ℕ;
  need = λ l m. needs m.tag;
  start = starts;
  move = moves;
  fuel = 3;
  alone = λ m l d. alone_by m.tag m.value l d;
  Key = ℕ;
  console = keyboard;
  hit = λ c x. some c;
  OkByte = λ b. b < 256;
  Gathered = Gathers;
  Spells = SpellsIt;
  Fit = λ t d. Unit {0};
  OkRun = λ g k l x. k < 3;
}
