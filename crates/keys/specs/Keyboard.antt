-- The keyboard: fresh, after a press, and what K's GET gives and leaves.
-- Assumes nothing.
use Rattle.std.specs.Prelude.{ℕ, ltb, eqb}
use Rattle.base.specs.Choice.{pick}
use Rattle.handler.specs.Answer.{Answer, answer}
use Rattle.handler.specs.declared.Got.{Got}
use Rattle.handler.specs.declared.Got.TheVariants.{Character, Refused}
use Rattle.keys.specs.Translation.{entry_number, translate_of}
use Rattle.keys.specs.declared.keyboard.Keyboard.{Keyboard}

-- "Fresh: .. no key, shift lock, inverse off"
abbrev pub fresh_keyboard : Keyboard
fresh_keyboard = record { code = 0xFF; lock = 1; inverse = 0 }

-- "A press stores the code over an older one"
abbrev pub press_of : ℕ → Keyboard → Keyboard
press_of code k = record { code = code; lock = k.lock; inverse = k.inverse }

-- "$FF is empty. GET empties it"
abbrev pub emptied : Keyboard → Keyboard
emptied k = press_of 0xFF k

abbrev pub with_lock : Keyboard → ℕ → Keyboard
with_lock k lock = record { code = k.code; lock = lock; inverse = k.inverse }

-- inverse off becomes on, and on off
abbrev pub flipped : Keyboard → Keyboard
flipped k = record { code = k.code; lock = k.lock; inverse = pick (eqb k.inverse 0) 1 0 }

-- "$80 none, $81 flip inverse, $82 unlock, $83 shift lock, $84 control lock, $85 end of file", by the number of each
unfoldable pub obeyed : ℕ → Keyboard → Keyboard
obeyed number k =
    pick (eqb number (entry_number 0x81)) (flipped k)
    (pick (eqb number (entry_number 0x82)) (with_lock k 0)
    (pick (eqb number (entry_number 0x83)) (with_lock k 1)
    (pick (eqb number (entry_number 0x84)) (with_lock k 2) k)))

-- "Empty, above $BF, or no character: $88": no translation from 256 on is a character
unfoldable pub struck_by : ℕ → Keyboard → Answer Got Keyboard
struck_by number k = pick (ltb number 256) (answer (Character number) k) (answer (Refused 0x88) (obeyed number k))

-- "GET empties it, and only then a lock or inverse entry takes effect."
unfoldable pub get_of : Keyboard → Answer Got Keyboard
get_of k = struck_by (translate_of k.code k.lock k.inverse) (emptied k)
