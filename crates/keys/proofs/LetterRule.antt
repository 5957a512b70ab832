-- "Over the table: a letter's block 1 entry is 32 less, its block 2 entry 96 less."
-- Tested once over the whole table, and carried to each entry; with it, what a lock does to a letter. Assumes nothing.
use mathlib.Core.Path.{◌≡◌, ◌∙◌, refl}
use mathlib.Core.Bool.{Bool, true, false}
use Prim.Native.Nat.{ℕ, ◌+◌, ◌-◌, ◌*◌, ◌<◌}
use native.Mathlib.Omega.{arith}
use borrow.Author.Tests.{lt-ltb, eqb-true}
use lib.Dec.{T, eqb}
use Rattle.base.proofs.Choices.{and_left, and_right}
use Rattle.base.proofs.Table.{every, at}
use Rattle.keys.specs.Table.{keys, key_at}
use Rattle.keys.specs.Translation.{letter, less, letter_rule, entry_of}

T_true : (b : Bool) → T b → b ≡ true
T_true true t = refl
T_true false t = absurd t

whole_table : T (every letter_rule 0 keys)
unfolding letter_rule keys
whole_table = tt

module _ (place : ℕ) (block0 : place < 64) (is_letter : letter (key_at place) ≡ true) where
  at_place : less place (key_at place) ≡ true
  unfolding letter_rule keys
  at_place = T_true _ (simp (lt-ltb place 64 block0, is_letter) at (at 0x80 letter_rule keys whole_table place (omega arith)))

  pub letter_rule_lem : (key_at (place + 64) ≡ key_at place - 32) × (key_at (place + 128) ≡ key_at place - 96)
  letter_rule_lem =
      let one = eqb (key_at (place + 64)) (key_at place - 32) in
      let two = eqb (key_at (place + 128)) (key_at place - 96) in
      (eqb-true _ _ (and_left one two at_place), eqb-true _ _ (and_right one two at_place))

-- "Under a lock, a block 0 entry $61 to $7A is read from block 1 (shift lock) or 2 (control lock)": 32 less, or 96 less
module _ (code : ℕ) (block0 : code < 64) (is_letter : letter (key_at code) ≡ true) where
  read_from : (lock : ℕ) → entry_of code lock ≡ key_at (code + 64 * lock)
  unfolding entry_of
  read_from lock = simp (lt-ltb code 64 block0, is_letter)

  pub shift_letter : entry_of code 1 ≡ key_at code - 32
  shift_letter = read_from 1 ∙ (letter_rule_lem code block0 is_letter).0

  pub control_letter : entry_of code 2 ≡ key_at code - 96
  control_letter = read_from 2 ∙ (letter_rule_lem code block0 is_letter).1
