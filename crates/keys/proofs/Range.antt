-- What translation answers: at most 262, by one test of each entry of the table under inverse 0 and 1.
-- Assumes nothing.
use mathlib.Core.Path.{◌≡◌}
use mathlib.Core.Bool.{Bool, true, false}
use Prim.Native.Nat.{ℕ, ◌+◌, ◌*◌, ◌≤◌}
use native.Mathlib.Omega.{arith}
use borrow.Author.Tests.{ltb-false}
use lib.Dec.{T, leb, ltb, leb→le}
use Rattle.base.specs.Choice.{and, or}
use Rattle.base.proofs.Choices.{pick_go}
use Rattle.base.proofs.Table.{upto, on, anywhere}
use Rattle.keys.specs.Table.{keys, key_at}
use Rattle.keys.specs.Translation.{letter, entry_of, key_answer, translate_of}

-- an entry's answer under an inverse of 0 or 1
within_261 : ℕ → ℕ → Bool
within_261 entry inverse = leb (key_answer entry inverse) 261

whole_table : (place : ℕ) → T (upto (within_261 (key_at place)) 0 2)
unfolding within_261 key_answer keys
whole_table = anywhere (λ (entry : ℕ). upto (within_261 entry) 0 2) 0x80 tt keys 0 tt

key_range : (place inverse : ℕ) → inverse ≤ 1 → key_answer (key_at place) inverse ≤ 261
unfolding within_261
key_range place inverse h = leb→le _ 261 (on (within_261 (key_at place)) 0 2 (whole_table place) inverse (omega arith) (omega arith))

entry_range : (code lock inverse : ℕ) → inverse ≤ 1 → key_answer (entry_of code lock) inverse ≤ 261
unfolding entry_of
entry_range code lock inverse h =
    pick_go (λ (e : ℕ). key_answer e inverse ≤ 261) (and (ltb code 64) (letter (key_at code))) _ _
    (λ t. key_range (code + 64 * lock) inverse h)
    (λ t. key_range code inverse h)

or_right : (a b : Bool) → or a b ≡ false → b ≡ false
or_right true b t = cc
or_right false b t = t

pub translate_range : (code lock inverse : ℕ) → translate_of code lock inverse ≤ 262
unfolding translate_of
translate_range code lock inverse =
    pick_go (λ (n : ℕ). n ≤ 262) (or (ltb 2 lock) (ltb 1 inverse)) _ _
    (λ t. omega arith)
    (λ t. pick_go (λ (n : ℕ). n ≤ 262) (ltb 0xBF code) _ _
    (λ u. omega arith)
    (λ u. omega (arith, entry_range code lock inverse (ltb-false 1 inverse (or_right (ltb 2 lock) (ltb 1 inverse) t)))))
