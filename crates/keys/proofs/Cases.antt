-- Document 01's key cases as tables, computed from the definitions.
-- Assumes nothing.
use mathlib.Core.Path.{◌≡◌, refl}
use mathlib.Core.List.{List, [], ◌∷◌, map}
use Prim.Native.Nat.{ℕ}
use Rattle.handler.specs.declared.Got.{Got}
use Rattle.handler.specs.declared.Got.TheVariants.{Character, Refused}
use Rattle.keys.specs.Table.{keys}
use Rattle.keys.specs.Translation.{entry_of, key_answer, translate_of}
use Rattle.keys.specs.Keyboard.{fresh_keyboard, press_of, obeyed, struck_by, get_of}
use Rattle.keys.specs.declared.keyboard.Keyboard.{Keyboard}

-- what the GETs give of codes that are pressed and got one after the other
abbrev pub typed : Keyboard → List ℕ → List Got
typed k [] = []
typed k (code ∷ codes) = (get_of (press_of code k)).says ∷ typed (get_of (press_of code k)).leaves codes

-- "8 Fresh key $3F: $41; after a GET on $3C ($88): $61. 9 $BF: $01. 10 $9A: $88." Then no key, a code above $BF, and the
-- inverse key before a letter, before ESC, and twice.
abbrev pub scripts : List (List ℕ)
scripts =
    (0x3F ∷ 0x3C ∷ 0x3F ∷ [])
    ∷ (0xBF ∷ [])
    ∷ (0x9A ∷ [])
    ∷ (0xFF ∷ 0xC0 ∷ [])
    ∷ (0x27 ∷ 0x3F ∷ 0x1C ∷ 0x27 ∷ 0x3F ∷ [])
    ∷ []

pub keyboard_cases : map (typed fresh_keyboard) scripts
    ≡ (Character 0x41 ∷ Refused 0x88 ∷ Character 0x61 ∷ [])
    ∷ (Character 0x01 ∷ [])
    ∷ (Refused 0x88 ∷ [])
    ∷ (Refused 0x88 ∷ Refused 0x88 ∷ [])
    ∷ (Refused 0x88 ∷ Character 0xC1 ∷ Character 0x1B ∷ Refused 0x88 ∷ Character 0x41 ∷ [])
    ∷ []
unfolding keys entry_of key_answer translate_of obeyed struck_by get_of
keyboard_cases = refl

-- a call of `translate`
pub record Asks : Type 0 where
  pub code : ℕ
  pub lock : ℕ
  pub inverse : ℕ

abbrev pub call : ℕ → ℕ → ℕ → Asks
call code lock inverse = record { code = code; lock = lock; inverse = inverse }

abbrev pub calls : List Asks
calls =
    call 0x3F 0 0
    ∷ call 0x3F 1 0
    ∷ call 0x3F 2 0
    ∷ call 0x3F 1 1
    ∷ call 0x1C 1 1
    ∷ call 0x3C 1 0
    ∷ call 0x9A 1 0
    ∷ call 0xBF 1 0
    ∷ call 0xC0 0 0
    ∷ call 0xC0 3 0
    ∷ call 0x3F 0 2
    ∷ []

pub translate_cases : map (λ (c : Asks). translate_of c.code c.lock c.inverse) calls
    ≡ 0x61 ∷ 0x41 ∷ 0x01 ∷ 0xC1 ∷ 0x1B ∷ 258 ∷ 261 ∷ 0x01 ∷ 256 ∷ 262 ∷ 262 ∷ []
unfolding keys entry_of key_answer translate_of
translate_cases = refl
