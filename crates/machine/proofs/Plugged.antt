-- For computed runs: the stick as a fresh start leaves it over buffers of zeros, and calls that send whole messages.
-- Assumes nothing.
use mathlib.Core.Path.{refl, ap}
use mathlib.Core.List.{List, [], ◌∷◌, ◌++◌}
use Prim.Native.Nat.{ℕ, ◌*◌}
use lib.Dec.{T, ltb, ltb→lt}
use lib.ListN.{replicate, length-replicate}
use Rattle.printer.specs.Printer.{paper_length}
use Rattle.records.specs.Records.{tape_length}
use Rattle.image.specs.Image.{images_length}
use Rattle.blocks.specs.Opening.{area_length}
use Rattle.wire.specs.Messages.{room_length}
use Rattle.layout.specs.Stick.{fresh_stick, Lent, lent}
use Rattle.calls.specs.Stick.{screen_length, Outcome, LengthsFit}
use Rattle.calls.specs.Calls.{fresh_lent}
use Rattle.serial.specs.Machine.{PortName}
use Rattle.serial.specs.Core.{View, CoreCall, take, tick, give}
use Rattle.serial.specs.Run.{OkCalls, Begun, Reached, after, begin}
use Rattle.serial.proofs.Tested.{all_ok, all_ok_lem}
use Rattle.serial.proofs.WrongCores.{Calls, with_call}
use Rattle.rules.proofs.FreshStart.{fresh_done}
use Rattle.machine.specs.Real.{real}
use Rattle.machine.specs.Sticks.{World, StartedFresh, view_of, sticks}
use Rattle.machine.proofs.Linked.{fresh_seen, fresh_begins}

abbrev pub zeros : Lent
zeros = lent (replicate (2 * room_length) 0) (replicate (2 * area_length) 0) (replicate screen_length 0) (replicate paper_length 0) (replicate tape_length 0) (replicate images_length 0)

pub zeros_fit : LengthsFit zeros
zeros_fit = record {
  rooms = length-replicate {A = ℕ} (2 * room_length) 0;
  area = length-replicate {A = ℕ} (2 * area_length) 0;
  whole = record { all = length-replicate {A = ℕ} screen_length 0 };
  paper = length-replicate {A = ℕ} paper_length 0;
  tape = length-replicate {A = ℕ} tape_length 0;
  images = length-replicate {A = ℕ} images_length 0;
}

abbrev pub plugged : World
plugged = record { stick = fresh_stick; buffers = fresh_lent zeros }

pub plugged_started : StartedFresh plugged
plugged_started =
    let e = fresh_done zeros zeros_fit fresh_stick in
    record { before = fresh_stick; borrowed = zeros; zero = ap (λ (o : Outcome). o.answer) e; stick = ap (λ (o : Outcome). o.stick) e; buffers = ap (λ (o : Outcome). o.lent) e }

pub plugged_begins : Begun real sticks plugged
plugged_begins = fresh_begins plugged plugged_started

abbrev pub first : View real
first = view_of plugged

-- what these calls lead to, where they are done so
abbrev pub led : Calls real → List (CoreCall real) → View real
led f cs = (after real (with_call real f) cs (begin real (with_call real f) first)).world

pub begun : (f : Calls real) → Begun real (with_call real f) first
begun f = (fresh_seen plugged plugged_started, plugged_begins.1)

pub ok_by : (cs : List (CoreCall real)) → T (all_ok real (λ b. ltb b 256) cs) → OkCalls real cs
ok_by cs t = all_ok_lem real (λ b. ltb b 256) (λ b h. ltb→lt b 256 h) cs t

pub leads : (f : Calls real) (cs : List (CoreCall real)) → T (all_ok real (λ b. ltb b 256) cs) → Reached real (with_call real f) (led f cs)
leads f cs t = record { from = first; begun = begun f; calls = cs; ok = ok_by cs t; there = refl }

-- a port is sent bytes; a message is sent, ticked so often, and its reply's n bytes given
abbrev pub says : PortName → List ℕ → List (CoreCall real)
says p [] = []
says p (b ∷ bs) = take p b ∷ says p bs

abbrev pub does : PortName → List ℕ → (ticks n : ℕ) → List (CoreCall real)
does p bytes ticks n = says p bytes ++ (replicate ticks (tick p) ++ replicate n (give p))

-- LOAD of these bytes at 0
abbrev pub loads : PortName → (size : ℕ) → List ℕ → List (CoreCall real)
loads p size bytes = does p (0x11 ∷ size ∷ 0 ∷ 0 ∷ 0 ∷ bytes) 1 4

-- a CALL's bytes
abbrev pub calls : (iocb command address length aux1 : ℕ) → List ℕ
calls iocb command address length aux1 = 0x10 ∷ 9 ∷ 0 ∷ iocb ∷ command ∷ address ∷ 0 ∷ length ∷ 0 ∷ aux1 ∷ 0 ∷ 0 ∷ []

-- the device of this letter is opened on an IOCB
abbrev pub opens : PortName → (letter iocb aux1 : ℕ) → List (CoreCall real)
opens p letter iocb aux1 = loads p 4 (letter ∷ 0x3A ∷ []) ++ does p (calls iocb 0x03 0 0 aux1) 1 7
