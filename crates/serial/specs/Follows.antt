-- A core follows the machine when each of its calls, as it is seen, does and answers what the machine's does. This is what is
-- asked of the code: its world is the state with the lent buffers. Assumes nothing.
use Rattle.std.specs.Prelude.{◌≡◌}
use Rattle.serial.specs.Machine.{Machine}
use Rattle.serial.specs.Core.{CoreCall, Core}
use Rattle.serial.specs.Calls.{FreshView, call_of}
use Rattle.serial.specs.Run.{OkCall, Begun, Reached}
use Rattle.serial.specs.Undamaged.{Undamaged}
use Rattle.serial.specs.Demand1.{Refused, RefusedRule}

module _ (M : Machine) (C : Core M) where
  pub record Follows : Type 0 where
    pub fresh_is : (w : C.World) → Begun M C w → FreshView M (C.see w)
    pub world_is : (w : C.World) → Reached M C w → (c : CoreCall M) → OkCall M c → C.see (C.call c w).world ≡ (call_of M c (C.see w)).world
    pub answer_is : (w : C.World) → Reached M C w → (c : CoreCall M) → OkCall M c → (C.call c w).answer ≡ (call_of M c (C.see w)).answer
    pub refused : RefusedRule M C

  -- so much is enough for it: from a world that is sound, and seen not to be damaged, each call does what the machine's does
  -- and leaves a sound one. Sound is what a core asks of its own world besides, as the lengths of its buffers.
  pub record Steps (Sound : C.World → Type 0) : Type 0 where
    pub begins : (w : C.World) → Begun M C w → FreshView M (C.see w) × Sound w
    pub world_is : (w : C.World) → Sound w → Undamaged M (C.see w) → (c : CoreCall M) → OkCall M c → C.see (C.call c w).world ≡ (call_of M c (C.see w)).world
    pub answer_is : (w : C.World) → Sound w → Undamaged M (C.see w) → (c : CoreCall M) → OkCall M c → (C.call c w).answer ≡ (call_of M c (C.see w)).answer
    pub sound : (w : C.World) → Sound w → Undamaged M (C.see w) → (c : CoreCall M) → OkCall M c → Sound (C.call c w).world
    pub refused : (w : C.World) → Sound w → Undamaged M (C.see w) → (c : CoreCall M) → OkCall M c → Refused M (C.call c w).answer → (C.call c w).world ≡ w

-- another core whose worlds are images of this one's, call by call: then it follows the machine too
module _ (M : Machine) (C B : Core M) (image : B.World → C.World) (Good : B.World → Type 0) where
  pub record Images : Type 0 where
    pub see_is : (b : B.World) → B.see b ≡ C.see (image b)
    pub begins : (b : B.World) → Begun M B b → Begun M C (image b) × Good b
    pub world_is : (b : B.World) → Good b → Reached M C (image b) → (c : CoreCall M) → OkCall M c → image (B.call c b).world ≡ (C.call c (image b)).world
    pub answer_is : (b : B.World) → Good b → Reached M C (image b) → (c : CoreCall M) → OkCall M c → (B.call c b).answer ≡ (C.call c (image b)).answer
    pub good : (b : B.World) → Good b → Reached M C (image b) → (c : CoreCall M) → OkCall M c → Good (B.call c b).world
    pub refused : (b : B.World) → Good b → Reached M C (image b) → (c : CoreCall M) → OkCall M c → Refused M (B.call c b).answer → (B.call c b).world ≡ b
