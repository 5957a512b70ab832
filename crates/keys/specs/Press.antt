-- A press and a GET: what the entry of the pressed key makes of lock and inverse, said of each entry and not of its number.
-- Assumes nothing.
use Rattle.std.specs.Prelude.{◌≡◌, false, ℕ, ◌-◌, ◌<◌, ◌≤◌}
use Rattle.base.specs.Choice.{within}
use Rattle.handler.specs.declared.Got.{Got}
use Rattle.handler.specs.declared.Got.TheVariants.{Character, Refused}
use Rattle.keys.specs.Translation.{entry_of, translate_of}
use Rattle.keys.specs.declared.keyboard.Keyboard.{Keyboard}

-- no key, with this lock and inverse: "$FF is empty"
abbrev pub empty_with : (lock inverse : ℕ) → Keyboard
empty_with lock inverse = record { code = 0xFF; lock = lock; inverse = inverse }

-- "$81 flip inverse, $82 unlock, $83 shift lock, $84 control lock", "lock (0 none, 1 shift, 2 control) and inverse (0, 1)"; any other
-- entry leaves both
pub record TakesEffect (entry : ℕ) (k after : Keyboard) : Type 0 where
  pub flip : entry ≡ 0x81 → after ≡ empty_with k.lock (1 - k.inverse)
  pub unlock : entry ≡ 0x82 → after ≡ empty_with 0 k.inverse
  pub shift : entry ≡ 0x83 → after ≡ empty_with 1 k.inverse
  pub control : entry ≡ 0x84 → after ≡ empty_with 2 k.inverse
  pub other : within 0x81 0x84 entry ≡ false → after ≡ empty_with k.lock k.inverse

-- what a GET after a press of this code says and leaves, by the keyboard before the press
pub record KeyGot (code : ℕ) (k : Keyboard) (says : Got) (after : Keyboard) : Type 0 where
  -- "Empty, above $BF, or no character: $88", by what key translation answers
  pub character : translate_of code k.lock k.inverse < 256 → says ≡ Character (translate_of code k.lock k.inverse)
  pub refused : 256 ≤ translate_of code k.lock k.inverse → says ≡ Refused 0x88
  -- "GET empties it, and only then a lock or inverse entry takes effect"
  pub empties : after.code ≡ 0xFF
  pub effect : code ≤ 0xBF → TakesEffect (entry_of code k.lock) k after
  pub above : 0xBF < code → after ≡ empty_with k.lock k.inverse
