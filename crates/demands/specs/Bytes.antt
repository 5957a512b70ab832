-- The core of the five calls over a state that is lent as bytes, as a host can see it: that of the stick that the bytes stand
-- for.
-- Assumes nothing.
use Rattle.std.specs.Prelude.{◌≡◌, true, ◌++◌, ℕ, drop}
use Rattle.layout.specs.Places.{rooms_place}
use Rattle.layout.specs.Stick.{Stick}
use Rattle.layout.specs.Layout.{head_of}
use Rattle.layout.specs.Stands.{stands}
use Rattle.damage.specs.Fits.{stick_fits}
use Rattle.calls.specs.Bytes.{Buffers, Left, stick_by, lent_by, fresh_bytes, take_bytes, tick_bytes, give_bytes, press_bytes}
use Rattle.calls.specs.Parts.{Lengths}
use Rattle.serial.specs.Core.{CoreCall, take, tick, give, press, Answer, done, gave, Effect, Core}
use Rattle.machine.specs.Real.{real}
use Rattle.machine.specs.Sticks.{World, port_number, answer_by, view_of}

-- the stick and the buffers that the lent bytes stand for
abbrev pub stands_for : Buffers → World
stands_for b = record { stick = stick_by b; buffers = lent_by b }

abbrev pub left_by : CoreCall real → Buffers → Left
left_by (take p byte) b = take_bytes b (port_number p) byte
left_by (tick p) b = tick_bytes b (port_number p)
left_by (give p) b = give_bytes b (port_number p)
left_by (press code) b = press_bytes b code

-- a call that gives a byte gives it with 0
abbrev pub done_with : CoreCall real → (byte : ℕ) → Answer real
done_with (take p offered) byte = done
done_with (tick p) byte = done
done_with (give p) byte = gave byte
done_with (press code) byte = done

abbrev pub call_bytes : CoreCall real → Buffers → Effect real Buffers
call_bytes c b = let l = left_by c b in record { world = l.buffers; answer = answer_by (done_with c l.byte) l.answer }

-- "after one fresh start that gives 0", whatever the buffers held before
pub record AfterFresh (b : Buffers) : Type 0 where
  pub before : Buffers
  pub zero : (fresh_bytes before).answer ≡ 0
  pub leaves : (fresh_bytes before).buffers ≡ b

abbrev pub bytes : Core real
bytes = record { World = Buffers; Fresh = AfterFresh; call = call_bytes; see = λ b. view_of (stands_for b) }

-- what every call tests first: lengths, and that the bytes stand for an undamaged stick
pub record SoundBuffers (b : Buffers) : Type 0 where
  pub lengths : Lengths b
  pub stands : stands b.state ≡ true
  pub fits : stick_fits (stick_by b) (lent_by b) ≡ true

-- the state is written from a stick that is undamaged with what is lent
pub record UndamagedState (b : Buffers) : Type 0 where
  pub stick : Stick
  pub fits : stick_fits stick (lent_by b) ≡ true
  pub written : b.state ≡ head_of stick ++ drop rooms_place b.state
