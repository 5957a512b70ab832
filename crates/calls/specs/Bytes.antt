-- The five calls over a state that is lent as bytes: its head, and behind it the rooms. What a call does to the bytes is what it does
-- to the stick that they stand for.
-- Assumes nothing.
use Rattle.std.specs.Prelude.{Bool, List, ◌++◌, ℕ, ◌*◌, eqb, ltb, length}
use Rattle.base.specs.Choice.{pick, choose, and}
use Rattle.printer.specs.Printer.{paper_length}
use Rattle.records.specs.Records.{tape_length}
use Rattle.image.specs.Image.{images_length}
use Rattle.blocks.specs.Opening.{area_length}
use Rattle.layout.specs.Places.{state_length}
use Rattle.layout.specs.Stick.{Stick, fresh_stick, Lent}
use Rattle.layout.specs.Layout.{head_of, stick_in, lent_in}
use Rattle.layout.specs.Stands.{stands}
use Rattle.devices.specs.declared.Media.{Media}
use Rattle.damage.specs.Fits.{stick_fits}
use Rattle.calls.specs.Stick.{Outcome, screen_length}
use Rattle.calls.specs.Calls.{fresh_call, take_call, tick_call, give_call, press_call}

-- the six lent buffers
pub record Buffers : Type 0 where
  pub state : List ℕ
  pub area : List ℕ
  pub screen : List ℕ
  pub paper : List ℕ
  pub tape : List ℕ
  pub images : List ℕ

abbrev pub buffers : (state area screen paper tape images : List ℕ) → Buffers
buffers state area screen paper tape images = record { state = state; area = area; screen = screen; paper = paper; tape = tape; images = images }

-- with the groups' buffers as they are lent
abbrev pub buffers_in : (state area : List ℕ) → Media → Buffers
buffers_in state area m = buffers state area m.screen.now m.paper.now m.tape.now m.images.now

-- all that a call over bytes returns and leaves
pub record Left : Type 0 where
  pub answer : ℕ
  pub byte : ℕ
  pub buffers : Buffers

abbrev pub left : ℕ → ℕ → Buffers → Left
left answer byte b = record { answer = answer; byte = byte; buffers = b }

-- "Numbers 1 to 8 change nothing"; "A byte beside a refusal is 0."
abbrev pub left_alone : ℕ → Buffers → Left
left_alone answer b = left answer 0 b

-- "2 a lent buffer has another length", the state too
unfoldable pub six_fit : (state area screen paper tape images : ℕ) → Bool
six_fit state area screen paper tape images =
    and (eqb state state_length)
    (and (eqb area (2 * area_length)) (and (eqb screen screen_length) (and (eqb paper paper_length) (and (eqb tape tape_length) (eqb images images_length)))))

abbrev pub buffers_fit : Buffers → Bool
buffers_fit b = six_fit (length b.state) (length b.area) (length b.screen) (length b.paper) (length b.tape) (length b.images)

-- the rooms and the other lent buffers, as a call of the stick is lent them
abbrev pub lent_by : Buffers → Lent
lent_by b = lent_in b.state b.area b.screen b.paper b.tape b.images

-- the stick that the bytes stand for
abbrev pub stick_by : Buffers → Stick
stick_by b = stick_in b.state

-- 3 is for bytes that stand for no stick, and for those of a damaged one
unfoldable pub undamaged_in : Buffers → Bool
undamaged_in b = and (stands b.state) (stick_fits (stick_by b) (lent_by b))

-- what a call of the stick leaves, as bytes
abbrev pub left_of : Outcome → Left
left_of o = left o.answer o.byte (buffers (head_of o.stick ++ o.lent.rooms) o.lent.area o.lent.screen o.lent.paper o.lent.tape o.lent.images)

-- "Order: 2, 3, 1, the rest"
unfoldable pub bytes_refusal : Buffers → (port : ℕ) → ℕ
bytes_refusal b port = pick (buffers_fit b) (pick (undamaged_in b) (pick (ltb port 2) 0 1) 3) 2

-- a call over bytes: refused with 2, or with 3 for bytes that stand for no stick; or the call on the stick that they stand for
unfoldable pub over_bytes : (Stick → Lent → Outcome) → Buffers → Left
over_bytes call b =
    choose (buffers_fit b)
    (λ u. choose (stands b.state) (λ v. left_of (call (stick_by b) (lent_by b))) (λ v. left_alone 3 b))
    (λ u. left_alone 2 b)

unfoldable pub take_bytes : Buffers → (port byte : ℕ) → Left
take_bytes b port byte = over_bytes (λ s l. take_call s l port byte) b

unfoldable pub tick_bytes : Buffers → (port : ℕ) → Left
tick_bytes b port = over_bytes (λ s l. tick_call s l port) b

unfoldable pub give_bytes : Buffers → (port : ℕ) → Left
give_bytes b port = over_bytes (λ s l. give_call s l port) b

unfoldable pub press_bytes : Buffers → (code : ℕ) → Left
press_bytes b code = over_bytes (λ s l. press_call s l code) b

-- "fresh start gives 0 or 2 only": it does not look at what the state held
unfoldable pub fresh_bytes : Buffers → Left
fresh_bytes b = choose (buffers_fit b) (λ u. left_of (fresh_call fresh_stick (lent_by b))) (λ u. left_alone 2 b)
