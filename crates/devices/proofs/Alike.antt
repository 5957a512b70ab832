-- What is lent comes back as the same buffers: what they hold then says all of them.
-- Assumes nothing.
use mathlib.Core.Path.{◌≡◌, ◌∙◌, sym, ap}
use mathlib.Core.List.{List}
use Prim.Native.Nat.{ℕ}
use Rattle.devices.specs.declared.Media.{Media}
use Rattle.devices.specs.Lent.{DevicesLent}
use Rattle.devices.specs.Media.{lent_with, holding, SameBuffers}

-- the buffers, holding what an act leaves
abbrev pub left_in : Media → DevicesLent → Media
left_in m s = holding m s.screen s.paper s.tape

pub left_alike : (old : Media) (numbers numbers' : List ℕ) (m m' : Media) → lent_with numbers m ≡ lent_with numbers' m'
    → SameBuffers m old → SameBuffers m' old → ◌≡◌ {A = List ℕ × Media} (numbers, m) (numbers', m')
left_alike old numbers numbers' m m' e s s' =
    ap (λ (x : Media). (numbers, x)) s ∙ ap (λ (x : DevicesLent). (x.numbers, left_in old x)) e ∙ sym (ap (λ (x : Media). (numbers', x)) s')

-- after two acts, one behind the other
pub same_again : (old mid new : Media) → SameBuffers mid old → SameBuffers new mid → SameBuffers new old
same_again old mid new s t = t ∙ ap (λ (m : Media). holding m new.screen.now new.paper.now new.tape.now) s
