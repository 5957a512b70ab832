-- From what the check has proved of each compiled routine to the claim that the page's calls are made of.
-- Assumes nothing.
use Rattle.firmware.proofs.fixlomand_fresh.Reads as fresh_reads
use Rattle.firmware.proofs.fixlomand_fresh.Symbol as fresh_symbol
use Rattle.firmware.proofs.fixlomand_fresh.Met as fresh_met
use Rattle.firmware.proofs.fixlomand_take.Reads as take_reads
use Rattle.firmware.proofs.fixlomand_take.Symbol as take_symbol
use Rattle.firmware.proofs.fixlomand_take.Met as take_met
use Rattle.firmware.proofs.fixlomand_tick.Reads as tick_reads
use Rattle.firmware.proofs.fixlomand_tick.Symbol as tick_symbol
use Rattle.firmware.proofs.fixlomand_tick.Met as tick_met
use Rattle.firmware.proofs.fixlomand_give.Reads as give_reads
use Rattle.firmware.proofs.fixlomand_give.Symbol as give_symbol
use Rattle.firmware.proofs.fixlomand_give.Met as give_met
use Rattle.firmware.proofs.fixlomand_press.Reads as press_reads
use Rattle.firmware.proofs.fixlomand_press.Symbol as press_symbol
use Rattle.firmware.proofs.fixlomand_press.Met as press_met
use Rattle.firmware.proofs.fixlomand_translate.Reads as translate_reads
use Rattle.firmware.proofs.fixlomand_translate.Symbol as translate_symbol
use Rattle.firmware.proofs.fixlomand_translate.Met as translate_met
use Rattle.firmware.proofs.fixlomand_doctor.Reads as doctor_reads
use Rattle.firmware.proofs.fixlomand_doctor.Symbol as doctor_symbol
use Rattle.firmware.proofs.fixlomand_doctor.Met as doctor_met
use Rattle.demands.specs.Routines.{Routines}

pub routines : Routines
routines = record {
  fresh = record {
    asks_nothing = λ κs a. tt;
    told = λ w γ k wired same. fresh_reads.known w γ k (w.𝓡.env fresh_symbol.name) same (fresh_met.met w.𝓤 w.𝓛 w.𝓜 w.𝓡 wired);
  };
  take = record {
    asks_nothing = λ κs a. tt;
    told = λ w γ k wired same. take_reads.known w γ k (w.𝓡.env take_symbol.name) same (take_met.met w.𝓤 w.𝓛 w.𝓜 w.𝓡 wired);
  };
  tick = record {
    asks_nothing = λ κs a. tt;
    told = λ w γ k wired same. tick_reads.known w γ k (w.𝓡.env tick_symbol.name) same (tick_met.met w.𝓤 w.𝓛 w.𝓜 w.𝓡 wired);
  };
  give = record {
    asks_nothing = λ κs a. tt;
    told = λ w γ k wired same. give_reads.known w γ k (w.𝓡.env give_symbol.name) same (give_met.met w.𝓤 w.𝓛 w.𝓜 w.𝓡 wired);
  };
  press = record {
    asks_nothing = λ κs a. tt;
    told = λ w γ k wired same. press_reads.known w γ k (w.𝓡.env press_symbol.name) same (press_met.met w.𝓤 w.𝓛 w.𝓜 w.𝓡 wired);
  };
  translate = record {
    asks_nothing = λ κs a. tt;
    told = λ w γ k wired same. translate_reads.known w γ k (w.𝓡.env translate_symbol.name) same (translate_met.met w.𝓤 w.𝓛 w.𝓜 w.𝓡 wired);
  };
  doctor = record {
    asks_nothing = λ κs a. tt;
    told = λ w γ k wired same. doctor_reads.known w γ k (w.𝓡.env doctor_symbol.name) same (doctor_met.met w.𝓤 w.𝓛 w.𝓜 w.𝓡 wired);
  };
}
