-- A byte is a command exactly when it has its number; a transfer has a way exactly when its command and its length say so.
-- Assumes nothing.
use mathlib.Core.Path.{◌≡◌, refl, subst}
use mathlib.Core.Logic.{◌↔◌, inl, inr}
use mathlib.Core.Bool.{Bool, true, false}
use Prim.Native.Nat.{ℕ, ◌<◌, ◌≤◌}
use native.Mathlib.Omega.{arith}
use borrow.Author.Tests.{lt-ltb, le-ltb, ne_eqb}
use Rattle.base.specs.Choice.{pick}
use Rattle.base.proofs.Choices.{pick_eq, pick_lt, by_eq, by_lt}
use Rattle.blocks.specs.declared.Way.{Way}
use Rattle.blocks.specs.declared.Way.TheVariants.{One, Characters, Record}
use Rattle.commands.specs.declared.Command.{Command}
use Rattle.commands.specs.declared.Command.TheVariants as command
use Rattle.commands.specs.Commands.{command_of, way_of}
use Rattle.commands.specs.Numbers.{BadCommand, HasNumber, HasWay}

above : (byte k : ℕ) → k ≤ byte → (byte ≡ k → ⊥) → k < byte
above byte k h n = by_lt k byte (λ g. g) (λ g. absurd (n (omega (arith, h, g))))

under : (byte k : ℕ) → byte ≤ k → (byte ≡ k → ⊥) → byte < k
under byte k h n = by_lt byte k (λ g. g) (λ g. absurd (n (omega (arith, h, g))))

below : (byte : ℕ) → byte < 3 → byte ≤ 2
below byte h = omega arith

neither : (byte k : ℕ) → k ≤ byte → byte < k → ⊥
neither byte k h g = omega arith

-- what is no command's number and not above $0D is one of the bad ones
rest : (byte : ℕ) → (byte ≡ 0x03 → ⊥) → (byte ≡ 0x05 → ⊥) → (byte ≡ 0x07 → ⊥) → (byte ≡ 0x09 → ⊥) → (byte ≡ 0x0B → ⊥) → (byte ≡ 0x0C → ⊥) → byte < 0x0D → BadCommand byte
rest byte n3 n5 n7 n9 nb nc h =
    by_lt byte 3 (λ g. inl (below byte g))
    (λ g. by_eq byte 0x04 (λ e. inr (inl e))
    (λ n4. by_eq byte 0x06 (λ e. inr (inr (inl e)))
    (λ n6. by_eq byte 0x08 (λ e. inr (inr (inr (inl e))))
    (λ n8. by_eq byte 0x0A (λ e. inr (inr (inr (inr e))))
    (λ na. absurd (neither byte 13
    (above byte 12 (above byte 11 (above byte 10 (above byte 9 (above byte 8 (above byte 7 (above byte 6 (above byte 5 (above byte 4 (above byte 3 g n3) n4) n5) n6) n7) n8) n9) na) nb) nc) h))))))

has_number : (byte : ℕ) → HasNumber (command_of byte) byte
unfolding command_of
has_number byte =
    let Q : Command → Type 0 = λ c. HasNumber c byte in
    pick_eq Q byte 0x03 command.Open _ (λ e. e)
    (λ n3. pick_eq Q byte 0x05 (command.Transfer true true) _ (λ e. e)
    (λ n5. pick_eq Q byte 0x07 (command.Transfer true false) _ (λ e. e)
    (λ n7. pick_eq Q byte 0x09 (command.Transfer false true) _ (λ e. e)
    (λ n9. pick_eq Q byte 0x0B (command.Transfer false false) _ (λ e. e)
    (λ nb. pick_eq Q byte 0x0C command.Close _ (λ e. e)
    (λ nc. pick_eq Q byte 0x0D command.Status _ (λ e. e)
    (λ nd. pick_lt Q 0x0D byte command.Special command.Bad (λ h. h)
    (λ h. rest byte n3 n5 n7 n9 nb nc (under byte 0x0D h nd)))))))))

small : (byte : ℕ) → byte ≤ 2 → command_of byte ≡ command.Bad
unfolding command_of
small byte h =
    rw (ne_eqb byte 0x03 (omega arith), ne_eqb byte 0x05 (omega arith), ne_eqb byte 0x07 (omega arith), ne_eqb byte 0x09 (omega arith), ne_eqb byte 0x0B (omega arith), ne_eqb byte 0x0C (omega arith), ne_eqb byte 0x0D (omega arith), le-ltb 0x0D byte (omega arith))

bad : (byte : ℕ) → BadCommand byte → command_of byte ≡ command.Bad
unfolding command_of
bad byte (inl h) = small byte h
bad byte (inr (inl e)) = rw e
bad byte (inr (inr (inl e))) = rw e
bad byte (inr (inr (inr (inl e)))) = rw e
bad byte (inr (inr (inr (inr e)))) = rw e

number_is : (c : Command) (byte : ℕ) → HasNumber c byte → command_of byte ≡ c
unfolding command_of
number_is command.Bad byte h = bad byte h
number_is command.Open byte e = rw e
number_is command.Close byte e = rw e
number_is command.Status byte e = rw e
number_is command.Special byte h =
    rw (ne_eqb byte 0x03 (omega arith), ne_eqb byte 0x05 (omega arith), ne_eqb byte 0x07 (omega arith), ne_eqb byte 0x09 (omega arith), ne_eqb byte 0x0B (omega arith), ne_eqb byte 0x0C (omega arith), ne_eqb byte 0x0D (omega arith), lt-ltb 0x0D byte h)
number_is (command.Transfer true true) byte e = rw e
number_is (command.Transfer true false) byte e = rw e
number_is (command.Transfer false true) byte e = rw e
number_is (command.Transfer false false) byte e = rw e

pub command_number : (c : Command) (byte : ℕ) → (command_of byte ≡ c) ↔ HasNumber c byte
command_number c byte = (λ e. subst (λ (d : Command). HasNumber d byte) e (has_number byte), number_is c byte)

has_way : (records : Bool) (length : ℕ) → HasWay (way_of records length) records length
unfolding way_of
has_way records length =
    pick_eq (λ (w : Way). HasWay w records length) length 0 One (pick records Record Characters) (λ e. e) (λ n. chosen records (omega arith))
  where
    chosen : (r : Bool) → 0 < length → HasWay (pick r Record Characters) r length
    chosen true h = (h, refl)
    chosen false h = (h, refl)

way_is : (w : Way) (records : Bool) (length : ℕ) → HasWay w records length → way_of records length ≡ w
unfolding way_of
way_is One records length h = rw h
way_is Record records length h = rw (ne_eqb length 0 (omega (arith, h.0)), h.1)
way_is Characters records length h = rw (ne_eqb length 0 (omega (arith, h.0)), h.1)

pub way_has : (w : Way) (records : Bool) (length : ℕ) → (way_of records length ≡ w) ↔ HasWay w records length
way_has w records length = (λ e. subst (λ (v : Way). HasWay v records length) e (has_way records length), way_is w records length)
