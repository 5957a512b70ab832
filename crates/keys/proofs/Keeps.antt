-- What a press and a GET leave of the keyboard, and what a GET may answer.
-- Assumes nothing.
use mathlib.Core.Path.{◌≡◌, refl}
use Prim.Native.Nat.{ℕ, ◌<◌, ◌≤◌}
use native.Mathlib.Omega.{arith}
use lib.Dec.{eqb, ltb}
use Rattle.base.specs.Choice.{or}
use Rattle.base.proofs.Choices.{pick_go, pick_eq, pick_lt}
use Rattle.handler.specs.Answer.{Answer, answer, NeverLast}
use Rattle.handler.specs.declared.Got.{Got}
use Rattle.handler.specs.declared.Got.TheVariants.{Character, Refused}
use Rattle.keys.specs.Translation.{entry_number, translate_of}
use Rattle.keys.specs.Keyboard.{fresh_keyboard, press_of, emptied, with_lock, flipped, obeyed, struck_by, get_of}
use Rattle.keys.specs.Fit.{FitKeys}
use Rattle.keys.specs.declared.keyboard.Keyboard.{Keyboard}

pub fresh_fit : FitKeys fresh_keyboard
fresh_fit = record { lock = omega arith; inverse = omega arith }

pub press_fit : (code : ℕ) (k : Keyboard) → FitKeys k → FitKeys (press_of code k)
press_fit code k f = record { lock = f.lock; inverse = f.inverse }

-- a GET is one of two: a character, or none and then the key's effect
module _ (P : Answer Got Keyboard → Type 0) (k : Keyboard) where
  pub get_either : ((n : ℕ) → n < 256 → P (answer (Character n) (emptied k)))
      → ((n : ℕ) → P (answer (Refused 0x88) (obeyed n (emptied k))))
      → P (get_of k)
  unfolding get_of struck_by
  get_either p q =
      let n = translate_of k.code k.lock k.inverse in
      pick_lt P n 256 _ _ (p n) (λ h. q n)

with_lock_fit : (k : Keyboard) (lock : ℕ) → lock ≤ 2 → FitKeys k → FitKeys (with_lock k lock)
with_lock_fit k lock h f = record { lock = h; inverse = f.inverse }

flipped_fit : (k : Keyboard) → FitKeys k → FitKeys (flipped k)
flipped_fit k f =
    record { lock = f.lock; inverse = pick_eq (λ (n : ℕ). n ≤ 1) k.inverse 0 1 0 (λ e. omega arith) (λ e. omega arith) }

-- what the effect of a number keeps: what flipping and locking keep
module _ (P : Keyboard → Type 0) (k : Keyboard) where
  obeyed_either : (n : ℕ) → P (flipped k) → ((lock : ℕ) → lock ≤ 2 → P (with_lock k lock)) → P k → P (obeyed n k)
  unfolding obeyed
  obeyed_either n p q r =
      pick_go P (eqb n (entry_number 0x81)) _ _ (λ t. p)
      (λ t. pick_go P (eqb n (entry_number 0x82)) _ _ (λ t. q 0 (omega arith))
      (λ t. pick_go P (eqb n (entry_number 0x83)) _ _ (λ t. q 1 (omega arith))
      (λ t. pick_go P (eqb n (entry_number 0x84)) _ _ (λ t. q 2 (omega arith)) (λ t. r))))

pub get_fit : (k : Keyboard) → FitKeys k → FitKeys (get_of k).leaves
get_fit k f =
    let e : FitKeys (emptied k) = press_fit 0xFF k f in
    get_either (λ (a : Answer Got Keyboard). FitKeys a.leaves) k (λ n h. e)
    (λ n. obeyed_either FitKeys (emptied k) n (flipped_fit (emptied k) e) (λ lock h. with_lock_fit (emptied k) lock h e) e)

-- "GET empties it"
pub get_empties : (k : Keyboard) → (get_of k).leaves.code ≡ 0xFF
get_empties k =
    get_either (λ (a : Answer Got Keyboard). a.leaves.code ≡ 0xFF) k (λ n h. refl)
    (λ n. obeyed_either (λ (x : Keyboard). x.code ≡ 0xFF) (emptied k) n refl (λ lock h. refl) refl)

-- a character is a byte
pub get_byte : (k : Keyboard) (c : ℕ) → (get_of k).says ≡ Character c → c < 256
get_byte k =
    get_either (λ (a : Answer Got Keyboard). (c : ℕ) → a.says ≡ Character c → c < 256) k
    (λ n h c e. let p : n ≡ c = cc in omega arith)
    (λ n c e. let z : ◌≡◌ {A = ℕ} 0 1 = cc in absurd (omega arith))

-- "other devices never give it"
pub get_never_last : (k : Keyboard) → NeverLast (get_of k).says
get_never_last k =
    get_either (λ (a : Answer Got Keyboard). NeverLast a.says) k
    (λ n h c e. let z : ◌≡◌ {A = ℕ} 0 1 = cc in omega arith)
    (λ n c e. let z : ◌≡◌ {A = ℕ} 0 1 = cc in omega arith)

-- "Empty, above $BF, or no character: $88": there is no other refusal
pub get_status : (k : Keyboard) (s : ℕ) → (get_of k).says ≡ Refused s → s ≡ 0x88
get_status k =
    get_either (λ (a : Answer Got Keyboard). (s : ℕ) → a.says ≡ Refused s → s ≡ 0x88) k
    (λ n h s e. let z : ◌≡◌ {A = ℕ} 0 1 = cc in absurd (omega arith))
    (λ n s e. cc)

-- an empty keyboard refuses, and stays as it is
pub get_empty : (k : Keyboard) → get_of (emptied k) ≡ answer (Refused 0x88) (emptied k)
unfolding get_of translate_of struck_by obeyed
get_empty k =
    pick_go (λ (n : ℕ). struck_by n (emptied k) ≡ answer (Refused 0x88) (emptied k)) (or (ltb 2 k.lock) (ltb 1 k.inverse)) 262 256
    (λ t. refl)
    (λ t. refl)
