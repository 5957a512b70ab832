-- A call of the routine of each function that C links is one of the page's calls (`demands/specs/Told.antt`): whoever makes it need show
-- nothing, and is told the very claim of `firmware`'s function that the page's calls are made of.
-- Assumes nothing.
use Rattle.demands.specs.Routines.{Tells}
use Rattle.firmware.proofs.fixlomand_fresh.Kinds as fresh_kinds
use Rattle.firmware.proofs.fixlomand_fresh.Reads as fresh_reads
use Rattle.firmware_c.proofs.fixlomand_fresh.Reads as fresh_told
use Rattle.firmware_c.proofs.fixlomand_fresh.Symbol as fresh_symbol
use Rattle.firmware_c.proofs.fixlomand_fresh.Met as fresh_met
use Rattle.firmware.proofs.fixlomand_take.Kinds as take_kinds
use Rattle.firmware.proofs.fixlomand_take.Reads as take_reads
use Rattle.firmware_c.proofs.fixlomand_take.Reads as take_told
use Rattle.firmware_c.proofs.fixlomand_take.Symbol as take_symbol
use Rattle.firmware_c.proofs.fixlomand_take.Met as take_met
use Rattle.firmware.proofs.fixlomand_tick.Kinds as tick_kinds
use Rattle.firmware.proofs.fixlomand_tick.Reads as tick_reads
use Rattle.firmware_c.proofs.fixlomand_tick.Reads as tick_told
use Rattle.firmware_c.proofs.fixlomand_tick.Symbol as tick_symbol
use Rattle.firmware_c.proofs.fixlomand_tick.Met as tick_met
use Rattle.firmware.proofs.fixlomand_give.Kinds as give_kinds
use Rattle.firmware.proofs.fixlomand_give.Reads as give_reads
use Rattle.firmware_c.proofs.fixlomand_give.Reads as give_told
use Rattle.firmware_c.proofs.fixlomand_give.Symbol as give_symbol
use Rattle.firmware_c.proofs.fixlomand_give.Met as give_met
use Rattle.firmware.proofs.fixlomand_press.Kinds as press_kinds
use Rattle.firmware.proofs.fixlomand_press.Reads as press_reads
use Rattle.firmware_c.proofs.fixlomand_press.Reads as press_told
use Rattle.firmware_c.proofs.fixlomand_press.Symbol as press_symbol
use Rattle.firmware_c.proofs.fixlomand_press.Met as press_met
use Rattle.firmware.proofs.fixlomand_translate.Kinds as translate_kinds
use Rattle.firmware.proofs.fixlomand_translate.Reads as translate_reads
use Rattle.firmware_c.proofs.fixlomand_translate.Reads as translate_told
use Rattle.firmware_c.proofs.fixlomand_translate.Symbol as translate_symbol
use Rattle.firmware_c.proofs.fixlomand_translate.Met as translate_met
use Rattle.firmware.proofs.fixlomand_doctor.Kinds as doctor_kinds
use Rattle.firmware.proofs.fixlomand_doctor.Reads as doctor_reads
use Rattle.firmware_c.proofs.fixlomand_doctor.Reads as doctor_told
use Rattle.firmware_c.proofs.fixlomand_doctor.Symbol as doctor_symbol
use Rattle.firmware_c.proofs.fixlomand_doctor.Met as doctor_met

pub record Exports : Type 2 where
  pub fresh : Tells fresh_kinds.ps fresh_kinds.r fresh_reads.Asked fresh_reads.Learnt fresh_symbol.code fresh_symbol.name
  pub take : Tells take_kinds.ps take_kinds.r take_reads.Asked take_reads.Learnt take_symbol.code take_symbol.name
  pub tick : Tells tick_kinds.ps tick_kinds.r tick_reads.Asked tick_reads.Learnt tick_symbol.code tick_symbol.name
  pub give : Tells give_kinds.ps give_kinds.r give_reads.Asked give_reads.Learnt give_symbol.code give_symbol.name
  pub press : Tells press_kinds.ps press_kinds.r press_reads.Asked press_reads.Learnt press_symbol.code press_symbol.name
  pub translate : Tells translate_kinds.ps translate_kinds.r translate_reads.Asked translate_reads.Learnt translate_symbol.code translate_symbol.name
  pub doctor : Tells doctor_kinds.ps doctor_kinds.r doctor_reads.Asked doctor_reads.Learnt doctor_symbol.code doctor_symbol.name

pub exports : Exports
exports = record {
  fresh = record {
    asks_nothing = λ κs a. tt;
    told = λ w γ k wired same. fresh_told.known w γ k (w.𝓡.env fresh_symbol.name) same (fresh_met.met w.𝓤 w.𝓛 w.𝓜 w.𝓡 wired);
  };
  take = record {
    asks_nothing = λ κs a. tt;
    told = λ w γ k wired same. take_told.known w γ k (w.𝓡.env take_symbol.name) same (take_met.met w.𝓤 w.𝓛 w.𝓜 w.𝓡 wired);
  };
  tick = record {
    asks_nothing = λ κs a. tt;
    told = λ w γ k wired same. tick_told.known w γ k (w.𝓡.env tick_symbol.name) same (tick_met.met w.𝓤 w.𝓛 w.𝓜 w.𝓡 wired);
  };
  give = record {
    asks_nothing = λ κs a. tt;
    told = λ w γ k wired same. give_told.known w γ k (w.𝓡.env give_symbol.name) same (give_met.met w.𝓤 w.𝓛 w.𝓜 w.𝓡 wired);
  };
  press = record {
    asks_nothing = λ κs a. tt;
    told = λ w γ k wired same. press_told.known w γ k (w.𝓡.env press_symbol.name) same (press_met.met w.𝓤 w.𝓛 w.𝓜 w.𝓡 wired);
  };
  translate = record {
    asks_nothing = λ κs a. tt;
    told = λ w γ k wired same. translate_told.known w γ k (w.𝓡.env translate_symbol.name) same (translate_met.met w.𝓤 w.𝓛 w.𝓜 w.𝓡 wired);
  };
  doctor = record {
    asks_nothing = λ κs a. tt;
    told = λ w γ k wired same. doctor_told.known w γ k (w.𝓡.env doctor_symbol.name) same (doctor_met.met w.𝓤 w.𝓛 w.𝓜 w.𝓡 wired);
  };
}
