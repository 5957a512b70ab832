-- Every call can be made as its function's own claim tells, and so can every run of calls: what the theorems say of real runs is
-- said of something.
-- Assumes nothing.
use mathlib.Core.Path.{refl}
use mathlib.Core.List.{List, [], ◌∷◌}
use Prim.Native.Nat.{ℕ}
use contract.Lifetimes.{Lfts}
use denote.MutBor.{MutBor}
use borrow.Fn.Kind.{ParamKind, ResultKind}
use borrow.Fn.Kinds.{In, Out, Dens}
use Rattle.base.specs.Decides.{Told}
use Rattle.calls.specs.Bytes.{Buffers}
use Rattle.calls.specs.Returned.{Returned}
use Rattle.firmware.proofs.Decided as firmware
use Rattle.firmware.proofs.fixlomand_fresh.Kinds as fresh_kinds
use Rattle.firmware.proofs.fixlomand_fresh.Reads as fresh_reads
use Rattle.firmware.proofs.fixlomand_take.Kinds as take_kinds
use Rattle.firmware.proofs.fixlomand_take.Reads as take_reads
use Rattle.firmware.proofs.fixlomand_tick.Kinds as tick_kinds
use Rattle.firmware.proofs.fixlomand_tick.Reads as tick_reads
use Rattle.firmware.proofs.fixlomand_give.Kinds as give_kinds
use Rattle.firmware.proofs.fixlomand_give.Reads as give_reads
use Rattle.firmware.proofs.fixlomand_press.Kinds as press_kinds
use Rattle.firmware.proofs.fixlomand_press.Reads as press_reads
use Rattle.firmware.proofs.fixlomand_translate.Kinds as translate_kinds
use Rattle.firmware.proofs.fixlomand_translate.Reads as translate_reads
use Rattle.firmware.proofs.fixlomand_doctor.Kinds as doctor_kinds
use Rattle.firmware.proofs.fixlomand_doctor.Reads as doctor_reads
use Rattle.serial.specs.Core.{CoreCall, take, tick, give, press}
use Rattle.machine.specs.Real.{real}
use Rattle.machine.specs.Sticks.{port_number}
use Rattle.demands.specs.Told.{six_lent, FreshCall, TakeCall, TickCall, GiveCall, PressCall, CallByC, by_take, by_tick, by_give, by_press, RunByC, here, then}
use Rattle.demands.specs.Demand1.{Open}

-- "No entry point trusts its caller to have checked"
pub fresh_open : Open fresh_kinds.ps fresh_kinds.r fresh_reads.Pre fresh_reads.Learnt
fresh_open = record { asks_nothing = λ κs a. tt; answers = firmware.fresh_allows }

pub take_open : Open take_kinds.ps take_kinds.r take_reads.Pre take_reads.Learnt
take_open = record { asks_nothing = λ κs a. tt; answers = firmware.take_allows }

pub tick_open : Open tick_kinds.ps tick_kinds.r tick_reads.Pre tick_reads.Learnt
tick_open = record { asks_nothing = λ κs a. tt; answers = firmware.tick_allows }

pub give_open : Open give_kinds.ps give_kinds.r give_reads.Pre give_reads.Learnt
give_open = record { asks_nothing = λ κs a. tt; answers = firmware.give_allows }

pub press_open : Open press_kinds.ps press_kinds.r press_reads.Pre press_reads.Learnt
press_open = record { asks_nothing = λ κs a. tt; answers = firmware.press_allows }

pub translate_open : Open translate_kinds.ps translate_kinds.r translate_reads.Pre translate_reads.Learnt
translate_open = record { asks_nothing = λ κs a. tt; answers = firmware.translate_allows }

pub doctor_open : Open doctor_kinds.ps doctor_kinds.r doctor_reads.Pre doctor_reads.Learnt
doctor_open = record { asks_nothing = λ κs a. tt; answers = firmware.doctor_allows }

-- a buffer, lent from anywhere
abbrev lent_as : List ℕ → MutBor (List ℕ)
lent_as xs = record { ref_ptr = (0, 0); ghost_name = 0; now = xs }

abbrev lifetimes : Lfts 6
lifetimes = ([], ([], ([], ([], ([], ([], tt))))))

-- a call with these buffers and numbers, as its claim allows one
module _ {given : List (ParamKind 6)} {r : ResultKind 6} {Pre : In 6 (six_lent given)} {Learnt : Out 6 (six_lent given) r} where
  abbrev asked : Open (six_lent given) r Pre Learnt → Buffers → Dens lifetimes given → Told (six_lent given) r Learnt
  asked o b numbers =
      let a : Dens lifetimes (six_lent given) =
      (lent_as b.state, (lent_as b.area, (lent_as b.screen, (lent_as b.paper, (lent_as b.tape, (lent_as b.images, numbers)))))) in
      let x = o.answers lifetimes a (o.asks_nothing lifetimes a) in
      record { κs = lifetimes; args = a; result = x.0; lasts = x.1.0; told = x.1.1 }

module _ (b : Buffers) where
  abbrev pub fresh_call_lem : FreshCall
  fresh_call_lem = asked fresh_open b tt

  abbrev pub take_call_lem : (port byte : ℕ) → TakeCall
  take_call_lem port byte = asked take_open b (port, (byte, tt))

  abbrev pub tick_call_lem : (port : ℕ) → TickCall
  tick_call_lem port = asked tick_open b (port, tt)

  abbrev pub give_call_lem : (port : ℕ) → GiveCall
  give_call_lem port = asked give_open b (port, tt)

  abbrev pub press_call_lem : (code : ℕ) → PressCall
  press_call_lem code = asked press_open b (code, tt)

  pub can_call : (c : CoreCall real) → (r : Returned) × CallByC b c r
  can_call (take p byte) = (_, by_take (take_call_lem (port_number p) byte) p refl)
  can_call (tick p) = (_, by_tick (tick_call_lem (port_number p)) p refl)
  can_call (give p) = (_, by_give (give_call_lem (port_number p)) p refl)
  can_call (press code) = (_, by_press (press_call_lem code))

pub can_run : (cs : List (CoreCall real)) (b : Buffers) → (b' : Buffers) × RunByC b cs b'
can_run [] b = (b, here)
can_run (c ∷ cs) b =
    let o = can_call b c in
    let r = can_run cs o.0.buffers in
    (r.0, then o.1 r.1)
