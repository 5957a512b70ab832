-- The toy machine meets every law, so that no law rules out what the others ask. Assumes nothing.
use mathlib.Core.Path.{◌≡◌, refl, sym, ◌∙◌, ap, subst}
use mathlib.Core.Bool.{false, true≢false}
use mathlib.Core.Option.{Option, none, some}
use mathlib.Core.List.{List, [], ◌∷◌, ◌++◌}
use Prim.Native.Nat.{ℕ, zero, suc, ◌<◌}
use native.Mathlib.Omega.{arith}
use Rattle.serial.specs.Machine.{at, ends, Fed, more, full, finish, finish_out}
use Rattle.serial.specs.Laws.{OkOut, Laws}
use Rattle.serial.proofs.Toy.{Group, nobody, keyboard, printer, Devices, Device, get_device, put_device, clashes, Message, fed, needs, replies, few, goes_on, starts, moves, stars, alone_by, Gathers, SpellsIt, toy}

get_put : (g : Group) (x : Device g) (d : Devices) → get_device g (put_device g x d) ≡ x
get_put nobody x d = refl
get_put keyboard x d = refl
get_put printer x d = refl

put_put : (g : Group) (x y : Device g) (d : Devices) → put_device g x (put_device g y d) ≡ put_device g x d
put_put nobody x y d = refl
put_put keyboard x y d = refl
put_put printer x y d = refl

clash_sym : (g h : Group) → clashes g h ≡ clashes h g
clash_sym nobody nobody = refl
clash_sym nobody keyboard = refl
clash_sym nobody printer = refl
clash_sym keyboard nobody = refl
clash_sym keyboard keyboard = refl
clash_sym keyboard printer = refl
clash_sym printer nobody = refl
clash_sym printer keyboard = refl
clash_sym printer printer = refl

get_apart : (g h : Group) (y : Device h) (d : Devices) → clashes g h ≡ false → get_device g (put_device h y d) ≡ get_device g d
get_apart nobody h y d e = refl
get_apart keyboard nobody y d e = refl
get_apart keyboard keyboard y d e = absurd (true≢false e)
get_apart keyboard printer y d e = refl
get_apart printer nobody y d e = refl
get_apart printer keyboard y d e = refl
get_apart printer printer y d e = absurd (true≢false e)

put_apart : (g h : Group) (x : Device g) (y : Device h) (d : Devices) → clashes g h ≡ false → put_device g x (put_device h y d) ≡ put_device h y (put_device g x d)
put_apart nobody h x y d e = refl
put_apart keyboard nobody x y d e = refl
put_apart keyboard keyboard x y d e = absurd (true≢false e)
put_apart keyboard printer x y d e = refl
put_apart printer nobody x y d e = refl
put_apart printer keyboard x y d e = refl
put_apart printer printer x y d e = absurd (true≢false e)

-- bytes
abbrev FedIs : List ℕ → Fed (Option ℕ) Message → Type 0
FedIs bs (more y) = Gathers bs y
FedIs bs (full m) = SpellsIt bs m

fed_is : (bs : List ℕ) (x : Option ℕ) (b : ℕ) → b < 256 → Gathers bs x → FedIs (bs ++ (b ∷ [])) (fed x b)
fed_is bs none b h p = (ap (λ z. z ++ (b ∷ [])) p, h)
fed_is bs (some a) b h p = (ap (λ z. z ++ (b ∷ [])) p.0, p.1, h)

not_whole : (bs cs : List ℕ) (x : Option ℕ) (m : Message) → Gathers (bs ++ cs) x → SpellsIt bs m → ⊥
not_whole bs cs none m p s =
    let e : m.tag ∷ (m.value ∷ cs) ≡ [] = ap (λ z. z ++ cs) (sym s.0) ∙ p in
    let z : ◌≡◌ {A = ℕ} 0 1 = cc in omega arith
not_whole bs cs (some a) m p s =
    let e : m.tag ∷ (m.value ∷ cs) ≡ a ∷ [] = ap (λ z. z ++ cs) (sym s.0) ∙ p.0 in
    let z : ◌≡◌ {A = ℕ} 0 1 = cc in omega arith

decides : (bs : List ℕ) (m n : Message) → SpellsIt bs m → SpellsIt bs n → m ≡ n
decides bs m n s t =
    let e : m.tag ∷ (m.value ∷ []) ≡ n.tag ∷ (n.value ∷ []) = sym s.0 ∙ t.0 in
    let f : m.tag ≡ n.tag = cc in
    let g : m.value ≡ n.value = cc in
    λ i. record { tag = f i; value = g i }

prefix_free : (bs cs : List ℕ) (m n : Message) → SpellsIt bs m → SpellsIt (bs ++ cs) n → cs ≡ []
prefix_free bs cs m n s t =
    let e : m.tag ∷ (m.value ∷ cs) ≡ n.tag ∷ (n.value ∷ []) = ap (λ z. z ++ cs) (sym s.0) ∙ t.0 in
    cc

-- requests
goes_ok : (n : ℕ) → n < 4 → OkOut toy (λ k. k < 3) (goes_on n)
goes_ok zero h = tt
goes_ok (suc n) h = omega arith

few_few : (n : ℕ) → few n < 4
few_few zero = omega arith
few_few (suc zero) = omega arith
few_few (suc (suc zero)) = omega arith
few_few (suc (suc (suc n))) = omega arith

start_ok : (g : Group) (m : Message) (l : List ℕ) (x : Device g) → OkOut toy (λ k. k < 3) (starts g m l x).out
start_ok nobody m l x = tt
start_ok keyboard m l x = omega arith
start_ok printer m l x = goes_ok (few m.value) (few_few m.value)

move_ok : (g : Group) (k : ℕ) (l : List ℕ) (x : Device g) → k < 3 → OkOut toy (λ k. k < 3) (moves g k l x).out
move_ok nobody k l x h = tt
move_ok keyboard k l x h = tt
move_ok printer k l x h = goes_ok k (omega arith)

printed : (v : ℕ) (l x : List ℕ) → finish_out toy 3 printer (goes_on (few v)) l x ≡ record { local = l; dev = stars (few v) x; out = ends (replies 1) }
unfolding finish_out
printed zero l x = refl
printed (suc zero) l x = refl
printed (suc (suc zero)) l x = refl
printed (suc (suc (suc n))) l x = refl

alone_is : (t v : ℕ) (l : List ℕ) (d : Devices)
    → let g = needs t in
    let a = alone_by t v l d in
    finish toy 3 g (starts g (record { tag = t; value = v }) l (get_device g d)) ≡ record { local = a.local; dev = get_device g a.devs; out = ends a.reply }
unfolding finish_out
alone_is zero v l d = refl
alone_is (suc zero) v l d = refl
alone_is (suc (suc n)) v l d = printed v l d.paper

alone_else : (t v : ℕ) (l : List ℕ) (d : Devices)
    → let g = needs t in
    let a = alone_by t v l d in
    a.devs ≡ put_device g (get_device g a.devs) d
alone_else zero v l d = refl
alone_else (suc zero) v l d = refl
alone_else (suc (suc n)) v l d = refl

pub toy_laws : Laws toy
toy_laws = record {
  get_put = get_put;
  put_put = put_put;
  clash_sym = clash_sym;
  get_apart = get_apart;
  put_apart = put_apart;
  begun = refl;
  more_is = λ bs x y b h p e. subst (FedIs (bs ++ (b ∷ []))) e (fed_is bs x b h p);
  full_is = λ bs x m b h p e. subst (FedIs (bs ++ (b ∷ []))) e (fed_is bs x b h p);
  not_whole = not_whole;
  decides = decides;
  prefix_free = prefix_free;
  start_fit = λ p m t d f. (tt, start_ok (needs m.tag) m (at p t) (get_device (needs m.tag) d));
  move_fit = λ p g k t d f o. (tt, move_ok g k (at p t) (get_device g d) o);
  hit_fit = λ c x t d f e. tt;
  alone_is = λ p m t d f. alone_is m.tag m.value (at p t) d;
  alone_else = λ p m t d f. alone_else m.tag m.value (at p t) d;
}
