-- A call of the compiled routine of a function that C calls is one of the page's calls (`Told.antt`): whoever makes it need show nothing,
-- and is told the very claim that the page's calls are made of. (That some outcome is allowed, and one, is `Decided`. That the compiler is
-- handed this routine, and keeps it, is the toolchain's.)
-- Assumes nothing.
use Rattle.std.specs.Prelude.{◌≡◌, List, ℕ}
use prog.Routine.{Env, Callee}
use prog.Wired.{Code, Wired}
use contract.Lifetimes.{Lfts}
use borrow.Fn.Kind.{ParamKind, ResultKind}
use borrow.Fn.Kinds.{In, Out, Dens}
use borrow.Fn.Plain.{Known}
use borrow.Fn.Run.{Over}
use borrow.Fn.World.{World}
use Rattle.firmware.proofs.fixlomand_fresh.Kinds as fresh_kinds
use Rattle.firmware.proofs.fixlomand_fresh.Reads as fresh_reads
use Rattle.firmware.proofs.fixlomand_fresh.Symbol as fresh_symbol
use Rattle.firmware.proofs.fixlomand_take.Kinds as take_kinds
use Rattle.firmware.proofs.fixlomand_take.Reads as take_reads
use Rattle.firmware.proofs.fixlomand_take.Symbol as take_symbol
use Rattle.firmware.proofs.fixlomand_tick.Kinds as tick_kinds
use Rattle.firmware.proofs.fixlomand_tick.Reads as tick_reads
use Rattle.firmware.proofs.fixlomand_tick.Symbol as tick_symbol
use Rattle.firmware.proofs.fixlomand_give.Kinds as give_kinds
use Rattle.firmware.proofs.fixlomand_give.Reads as give_reads
use Rattle.firmware.proofs.fixlomand_give.Symbol as give_symbol
use Rattle.firmware.proofs.fixlomand_press.Kinds as press_kinds
use Rattle.firmware.proofs.fixlomand_press.Reads as press_reads
use Rattle.firmware.proofs.fixlomand_press.Symbol as press_symbol
use Rattle.firmware.proofs.fixlomand_translate.Kinds as translate_kinds
use Rattle.firmware.proofs.fixlomand_translate.Reads as translate_reads
use Rattle.firmware.proofs.fixlomand_translate.Symbol as translate_symbol
use Rattle.firmware.proofs.fixlomand_doctor.Kinds as doctor_kinds
use Rattle.firmware.proofs.fixlomand_doctor.Reads as doctor_reads
use Rattle.firmware.proofs.fixlomand_doctor.Symbol as doctor_symbol

pub record Tells {n : ℕ} (ps : List (ParamKind n)) (r : ResultKind n) (Asked : In n ps) (Learnt : Out n ps r) (code : Code) (name : Callee) : Type 2 where
  pub asks_nothing : (κs : Lfts n) (a : Dens κs ps) → Asked κs a
  -- under whatever name it is called, in every model of what runs that has the routine's code
  pub told : (w : World) (γ : Env) (k : Callee) → Wired w.𝓡.env code → γ k ≡ w.𝓡.env name
      → Known w.𝓛 (Over w.𝓛 w.𝓜 w.𝓡 γ) n ps r Asked Learnt k

pub record Routines : Type 2 where
  pub fresh : Tells fresh_kinds.ps fresh_kinds.r fresh_reads.Asked fresh_reads.Learnt fresh_symbol.code fresh_symbol.name
  pub take : Tells take_kinds.ps take_kinds.r take_reads.Asked take_reads.Learnt take_symbol.code take_symbol.name
  pub tick : Tells tick_kinds.ps tick_kinds.r tick_reads.Asked tick_reads.Learnt tick_symbol.code tick_symbol.name
  pub give : Tells give_kinds.ps give_kinds.r give_reads.Asked give_reads.Learnt give_symbol.code give_symbol.name
  pub press : Tells press_kinds.ps press_kinds.r press_reads.Asked press_reads.Learnt press_symbol.code press_symbol.name
  pub translate : Tells translate_kinds.ps translate_kinds.r translate_reads.Asked translate_reads.Learnt translate_symbol.code translate_symbol.name
  pub doctor : Tells doctor_kinds.ps doctor_kinds.r doctor_reads.Asked doctor_reads.Learnt doctor_symbol.code doctor_symbol.name
