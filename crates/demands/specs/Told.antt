-- A call of a function that the port firmware calls, as its own promise tells a caller of it: what it is lent and given, what it
-- returns and leaves. A run of such calls, each made with the buffers that the one before it left, save those answered 2.
-- Assumes nothing.
use Rattle.std.specs.Prelude.{◌≡◌, List, [], ◌∷◌, ℕ, ◌/◌, ◌%◌}
use Rattle.std.specs.Int.{Width, w8}
use borrow.Table.Referent.{rt_f, f_int}
use borrow.Kind.MutSlice.{p_mut_s}
use borrow.Fn.Kinds.{ParamKind, Out, p_num, r_num}
use Rattle.base.specs.Decides.{Told}
use Rattle.calls.specs.Bytes.{Buffers, buffers, Left}
use Rattle.calls.specs.Returned.{Returned, returned, answer_of, both_of}
use Rattle.firmware.proofs.fixlomand_fresh.Kinds as fresh_kinds
use Rattle.firmware.proofs.fixlomand_fresh.Reads as fresh_reads
use Rattle.firmware.proofs.fixlomand_take.Kinds as take_kinds
use Rattle.firmware.proofs.fixlomand_take.Reads as take_reads
use Rattle.firmware.proofs.fixlomand_tick.Kinds as tick_kinds
use Rattle.firmware.proofs.fixlomand_tick.Reads as tick_reads
use Rattle.firmware.proofs.fixlomand_give.Kinds as give_kinds
use Rattle.firmware.proofs.fixlomand_give.Reads as give_reads
use Rattle.firmware.proofs.fixlomand_press.Kinds as press_kinds
use Rattle.firmware.proofs.fixlomand_press.Reads as press_reads
use Rattle.firmware.proofs.fixlomand_translate.Kinds as translate_kinds
use Rattle.firmware.proofs.fixlomand_translate.Reads as translate_reads
use Rattle.firmware.proofs.fixlomand_doctor.Kinds as doctor_kinds
use Rattle.firmware.proofs.fixlomand_doctor.Reads as doctor_reads
use Rattle.serial.specs.Machine.{PortName}
use Rattle.serial.specs.Core.{CoreCall, take, tick, give, press}
use Rattle.machine.specs.Real.{real}
use Rattle.machine.specs.Sticks.{port_number}

-- each of the five functions is lent state, area, screen, paper, tape and images first, and returns a number
abbrev pub six_lent : List (ParamKind 6) → List (ParamKind 6)
six_lent given =
    p_mut_s (rt_f (f_int w8)) 0 tt ∷ p_mut_s (rt_f (f_int w8)) 1 tt ∷ p_mut_s (rt_f (f_int w8)) 2 tt ∷ p_mut_s (rt_f (f_int w8)) 3 tt ∷ p_mut_s (rt_f (f_int w8)) 4 tt ∷ p_mut_s (rt_f (f_int w8)) 5 tt ∷ given

module _ {given : List (ParamKind 6)} {returns : Width} {Learnt : Out 6 (six_lent given) (r_num returns)} where
  -- the buffers that it is lent
  abbrev pub lends : Told (six_lent given) (r_num returns) Learnt → Buffers
  lends o = buffers o.args.0.now o.args.1.0.now o.args.1.1.0.now o.args.1.1.1.0.now o.args.1.1.1.1.0.now o.args.1.1.1.1.1.0.now

  -- the number that it returns, and the buffers as it leaves them
  abbrev pub leaves : Told (six_lent given) (r_num returns) Learnt → Returned
  leaves o = returned o.result (buffers o.lasts.0 o.lasts.1.0 o.lasts.1.1.0 o.lasts.1.1.1.0 o.lasts.1.1.1.1.0 o.lasts.1.1.1.1.1.0)

-- the answer is the low byte of the number, a reply byte the high one
abbrev pub answer_in : Returned → ℕ
answer_in r = r.number % 256

abbrev pub reply_byte_in : Returned → ℕ
reply_byte_in r = r.number / 256

abbrev pub FreshCall : Type 0
FreshCall = Told fresh_kinds.ps fresh_kinds.r fresh_reads.Learnt

abbrev pub TakeCall : Type 0
TakeCall = Told take_kinds.ps take_kinds.r take_reads.Learnt

abbrev pub TickCall : Type 0
TickCall = Told tick_kinds.ps tick_kinds.r tick_reads.Learnt

abbrev pub GiveCall : Type 0
GiveCall = Told give_kinds.ps give_kinds.r give_reads.Learnt

abbrev pub PressCall : Type 0
PressCall = Told press_kinds.ps press_kinds.r press_reads.Learnt

-- take, tick and give name a port next
module _ {given : List (ParamKind 6)} {returns : Width} {Learnt : Out 6 (six_lent (p_num w8 ∷ given)) (r_num returns)} where
  abbrev pub port_named : Told (six_lent (p_num w8 ∷ given)) (r_num returns) Learnt → ℕ
  port_named o = o.args.1.1.1.1.1.1.0

abbrev pub byte_offered : TakeCall → ℕ
byte_offered o = o.args.1.1.1.1.1.1.1.0

abbrev pub code_pressed : PressCall → ℕ
code_pressed o = o.args.1.1.1.1.1.1.0

-- key translation: "a code, lock .. and inverse", and its answer
abbrev pub TranslateCall : Type 0
TranslateCall = Told translate_kinds.ps translate_kinds.r translate_reads.Learnt

abbrev pub code_asked : TranslateCall → ℕ
code_asked o = o.args.0

abbrev pub lock_asked : TranslateCall → ℕ
lock_asked o = o.args.1.0

abbrev pub inverse_asked : TranslateCall → ℕ
inverse_asked o = o.args.1.1.0

abbrev pub translation : TranslateCall → ℕ
translation o = o.result

-- the diskette doctor: the image and the list that it is lent and leaves, and the number that it gives
abbrev pub DoctorCall : Type 0
DoctorCall = Told doctor_kinds.ps doctor_kinds.r doctor_reads.Learnt

abbrev pub image_lent : DoctorCall → List ℕ
image_lent o = o.args.0.now

abbrev pub list_lent : DoctorCall → List ℕ
list_lent o = o.args.1.0.now

abbrev pub image_left : DoctorCall → List ℕ
image_left o = o.lasts.0

abbrev pub list_left : DoctorCall → List ℕ
list_left o = o.lasts.1.0

abbrev pub number_given : DoctorCall → ℕ
number_given o = o.result

-- any call of the five functions, whatever port it names and whatever it is lent
pub data AnyCall : Buffers → Returned → Type 0 where
  any_fresh : (o : FreshCall) → AnyCall (lends o) (leaves o)
  any_take : (o : TakeCall) → AnyCall (lends o) (leaves o)
  any_tick : (o : TickCall) → AnyCall (lends o) (leaves o)
  any_give : (o : GiveCall) → AnyCall (lends o) (leaves o)
  any_press : (o : PressCall) → AnyCall (lends o) (leaves o)

-- a call of the run, and the call of the function that it is
pub data CallByC : Buffers → CoreCall real → Returned → Type 0 where
  by_take : (o : TakeCall) (p : PortName) → port_named o ≡ port_number p → CallByC (lends o) (take p (byte_offered o)) (leaves o)
  by_tick : (o : TickCall) (p : PortName) → port_named o ≡ port_number p → CallByC (lends o) (tick p) (leaves o)
  by_give : (o : GiveCall) (p : PortName) → port_named o ≡ port_number p → CallByC (lends o) (give p) (leaves o)
  by_press : (o : PressCall) → CallByC (lends o) (press (code_pressed o)) (leaves o)

-- what C is returned: the answer, and of give the reply byte above it
abbrev pub returned_by : CoreCall real → Left → Returned
returned_by (take p byte) l = answer_of l
returned_by (tick p) l = answer_of l
returned_by (give p) l = both_of l
returned_by (press code) l = answer_of l

-- what is there of x after a call that was lent b and left e: x itself, where it was not lent, or e, where it was
pub data Remains {X : Type 0} (x b e : X) : X → Type 0 where
  not_lent : Remains x b e x
  lent_on : b ≡ x → Remains x b e e

-- a call that is lent v and leaves e, whatever of b is a part of v: then b' is there. A buffer that is lent in part, or in
-- another's place, counts as not lent: that such a call changes nothing is `Demands.still`
pub record Aside (b v e b' : Buffers) : Type 0 where
  pub state : Remains b.state v.state e.state b'.state
  pub area : Remains b.area v.area e.area b'.area
  pub screen : Remains b.screen v.screen e.screen b'.screen
  pub paper : Remains b.paper v.paper e.paper b'.paper
  pub tape : Remains b.tape v.tape e.tape b'.tape
  pub images : Remains b.images v.images e.images b'.images

-- "any sequence of calls .., no second fresh start, the same state and lent buffers in every call but those answered 2"
pub data RunByC : Buffers → List (CoreCall real) → Buffers → Type 0 where
  here : {b : Buffers} → RunByC b [] b
  then : {b b' : Buffers} {c : CoreCall real} {cs : List (CoreCall real)} {r : Returned} → CallByC b c r → RunByC r.buffers cs b'
      → RunByC b (c ∷ cs) b'
  -- a call of a port above 1
  above : {b b' : Buffers} {cs : List (CoreCall real)} {r : Returned} → AnyCall b r → r.number ≡ 1 → RunByC r.buffers cs b'
      → RunByC b cs b'
  -- a call answered 2, with any state and any buffers
  aside : {b v b₁ b' : Buffers} {cs : List (CoreCall real)} {r : Returned} → AnyCall v r → r.number ≡ 2 → Aside b v r.buffers b₁
      → RunByC b₁ cs b' → RunByC b cs b'
