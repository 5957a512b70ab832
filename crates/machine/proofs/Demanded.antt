-- The demands, of the machine of document 01.
-- Assumes nothing.
use Rattle.serial.specs.Calls.{core_of}
use Rattle.serial.specs.Reading.{OneReading}
use Rattle.serial.specs.Undamaged.{NeverDamaged}
use Rattle.serial.specs.Demand1.{Demand1}
use Rattle.serial.specs.Demand2.{Demand2}
use Rattle.serial.specs.Demand3.{Demand3, UnfinishedRule}
use Rattle.serial.proofs.Demanded as any
use Rattle.machine.specs.Real.{real}
use Rattle.machine.proofs.Lawful.{lawful}

-- "each refusal gives the number in the tables of document 01 and changes only what they say"
pub demand1 : Demand1 real (core_of real)
demand1 = any.demand1 real lawful

-- "A request waits only while the other port holds the device group it needs. Once started, it moves one character a tick and ends
-- within 61,441 further ticks of its port."; "The bound of 61,441 becomes 89,876."
pub demand2 : Demand2 real (core_of real)
demand2 = any.demand2 real lawful

-- "The replies made for each port, both memory areas, both control-block tables, the console and the paper are those of the run in
-- which the started requests and the taken keys go one at a time, each to its end as demand 2 says, in the order of start or press."
pub demand3 : Demand3 real (core_of real)
demand3 = any.demand3 real lawful

-- the same where not every started request is finished
pub unfinished : UnfinishedRule real (core_of real)
unfinished = any.unfinished real lawful

-- "No state reached from fresh by these calls is damaged."
pub never_damaged : NeverDamaged real (core_of real)
never_damaged = any.never_damaged real lawful

-- "The bytes taken on a port spell its started requests, in order and unmixed, then what it still gathers or has ready"
pub one_reading : OneReading real
one_reading = any.one_reading real lawful
