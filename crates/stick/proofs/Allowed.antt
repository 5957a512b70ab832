-- A take and a press have 0 for a byte and leave area, screen, paper, tape and images, so that the promises of `take_at`, which is lent these to read
-- only, and of `press_at` allow an outcome.
-- Assumes nothing.
use mathlib.Core.Path.{◌≡◌, refl, ap}
use mathlib.Core.List.{List}
use Prim.Native.Nat.{ℕ}
use Rattle.base.proofs.Choices.{choose_go}
use Rattle.blocks.specs.declared.Phase.{Phase}
use Rattle.blocks.specs.declared.Phase.TheVariants.{Gathering, Ready, Running, Replying}
use Rattle.blocks.specs.declared.Port.{Port}
use Rattle.layout.specs.Stick.{port_at}
use Rattle.calls.specs.Port.{take_port}
use Rattle.calls.specs.Stick.{Outcome, room_at}
use Rattle.calls.specs.Calls.{take_at, press_at, console_held}
use Rattle.calls.specs.Bytes.{Buffers, buffers, Left, left, left_of, stick_by, lent_by}

-- an outcome that has no byte and leaves all but the state
abbrev pub Leaves : Buffers → Left → Type 0
Leaves b o = left o.answer 0 (buffers o.buffers.state b.area b.screen b.paper b.tape b.images) ≡ o

no_byte : (phase : Phase) (port : Port) (room : List ℕ) (byte : ℕ) → 0 ≡ (take_port phase port room byte).byte
unfolding take_port
no_byte (Gathering gather) port room byte = refl
no_byte (Ready header) port room byte = refl
no_byte (Running run) port room byte = refl
no_byte (Replying reply) port room byte = refl

pub take_leaves : (port : ℕ) (b : Buffers) (byte : ℕ) → Leaves b (left_of (take_at port (stick_by b) (lent_by b) byte))
unfolding take_at
take_leaves port b byte =
    let o = left_of (take_at port (stick_by b) (lent_by b) byte) in
    let mine = port_at port (stick_by b) in
    ap (λ (n : ℕ). left o.answer n o.buffers) (no_byte mine.phase mine (room_at port (lent_by b)) byte)

pub press_leaves : (b : Buffers) (code : ℕ) → Leaves b (left_of (press_at (stick_by b) (lent_by b) code))
unfolding press_at
press_leaves b code = choose_go (λ (o : Outcome). Leaves b (left_of o)) (console_held (stick_by b)) _ _ (λ t. refl) (λ t. refl)
