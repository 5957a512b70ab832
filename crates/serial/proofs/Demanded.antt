-- The demands of every machine that meets the laws, together. Assumes nothing.
use Rattle.serial.specs.Machine.{Machine}
use Rattle.serial.specs.Calls.{core_of}
use Rattle.serial.specs.Reading.{OneReading}
use Rattle.serial.specs.Undamaged.{NeverDamaged}
use Rattle.serial.specs.Demand1.{Demand1}
use Rattle.serial.specs.Demand2.{Demand2}
use Rattle.serial.specs.Demand3.{Demand3, UnfinishedRule}
use Rattle.serial.specs.Laws.{Laws}
use Rattle.serial.proofs.Waiting.{waiting, one_character}
use Rattle.serial.proofs.Answers
use Rattle.serial.proofs.Bound.{bound, ends_by}
use Rattle.serial.proofs.Alone.{later_rule, alone_rule}
use Rattle.serial.proofs.Serial
use Rattle.serial.proofs.Undamaged
use Rattle.serial.proofs.Unfinished
use Rattle.serial.proofs.Reading

module _ (M : Machine) (L : Laws M) where
  pub demand1 : Demand1 M (core_of M)
  demand1 = Answers.demand1 M

  pub demand2 : Demand2 M (core_of M)
  demand2 = record {
    alone = alone_rule M L;
    later = later_rule M L;
    waiting = waiting M;
    one_character = one_character M;
    bound = bound M L;
    ends = ends_by M L;
  }

  pub demand3 : Demand3 M (core_of M)
  demand3 = Serial.demand3 M L

  pub unfinished : UnfinishedRule M (core_of M)
  unfinished = Unfinished.unfinished M L

  pub never_damaged : NeverDamaged M (core_of M)
  never_damaged = Undamaged.never_damaged M L

  pub one_reading : OneReading M
  one_reading = Reading.one_reading M L
