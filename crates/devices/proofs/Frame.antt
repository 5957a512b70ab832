-- The groups are places of the devices: a group put back is the one that is got, and every other is as it was. Two groups are one
-- exactly where their numbers are.
-- Assumes nothing.
use mathlib.Core.Path.{◌≡◌, ◌∙◌, refl, sym, ap, subst}
use mathlib.Core.Logic.{◌↔◌}
use mathlib.Core.Bool.{true, false, true≢false}
use Prim.Native.Nat.{ℕ, ◌<◌}
use native.Mathlib.Omega.{arith}
use borrow.Author.Tests.{lt-ltb, eq-eqb, ne_eqb, eqb-true}
use lib.Dec.{eqb, ltb}
use Rattle.base.specs.Choice.{pick}
use Rattle.base.proofs.Choices.{by_eq, and_right, and_false}
use Rattle.devices.specs.declared.Group.{Group}
use Rattle.devices.specs.declared.Group.TheVariants as group
use Rattle.devices.specs.Groups.{Groups, Part, get_group, put_group, group_number, clash}

pub get_put : (g : Group) (x : Part g) (s : Groups) → get_group g (put_group g s x) ≡ x
get_put group.Nobody x s = refl
get_put group.Console x s = refl
get_put group.Printer x s = refl
get_put group.Cassette x s = refl
get_put group.Disk x s = refl

pub put_get : (g : Group) (s : Groups) → put_group g s (get_group g s) ≡ s
put_get group.Nobody s = refl
put_get group.Console s = refl
put_get group.Printer s = refl
put_get group.Cassette s = refl
put_get group.Disk s = refl

pub put_put : (g : Group) (x y : Part g) (s : Groups) → put_group g (put_group g s y) x ≡ put_group g s x
put_put group.Nobody x y s = refl
put_put group.Console x y s = refl
put_put group.Printer x y s = refl
put_put group.Cassette x y s = refl
put_put group.Disk x y s = refl

pub get_apart : (g h : Group) (y : Part h) (s : Groups) → clash g h ≡ false → get_group g (put_group h s y) ≡ get_group g s
get_apart group.Nobody h y s e = refl
get_apart group.Console group.Nobody y s e = refl
get_apart group.Console group.Console y s e = absurd (true≢false e)
get_apart group.Console group.Printer y s e = refl
get_apart group.Console group.Cassette y s e = refl
get_apart group.Console group.Disk y s e = refl
get_apart group.Printer group.Nobody y s e = refl
get_apart group.Printer group.Console y s e = refl
get_apart group.Printer group.Printer y s e = absurd (true≢false e)
get_apart group.Printer group.Cassette y s e = refl
get_apart group.Printer group.Disk y s e = refl
get_apart group.Cassette group.Nobody y s e = refl
get_apart group.Cassette group.Console y s e = refl
get_apart group.Cassette group.Printer y s e = refl
get_apart group.Cassette group.Cassette y s e = absurd (true≢false e)
get_apart group.Cassette group.Disk y s e = refl
get_apart group.Disk group.Nobody y s e = refl
get_apart group.Disk group.Console y s e = refl
get_apart group.Disk group.Printer y s e = refl
get_apart group.Disk group.Cassette y s e = refl
get_apart group.Disk group.Disk y s e = absurd (true≢false e)

pub put_apart : (g h : Group) (x : Part g) (y : Part h) (s : Groups) → clash g h ≡ false → put_group g (put_group h s y) x ≡ put_group h (put_group g s x) y
put_apart group.Nobody h x y s e = refl
put_apart group.Console group.Nobody x y s e = refl
put_apart group.Console group.Console x y s e = absurd (true≢false e)
put_apart group.Console group.Printer x y s e = refl
put_apart group.Console group.Cassette x y s e = refl
put_apart group.Console group.Disk x y s e = refl
put_apart group.Printer group.Nobody x y s e = refl
put_apart group.Printer group.Console x y s e = refl
put_apart group.Printer group.Printer x y s e = absurd (true≢false e)
put_apart group.Printer group.Cassette x y s e = refl
put_apart group.Printer group.Disk x y s e = refl
put_apart group.Cassette group.Nobody x y s e = refl
put_apart group.Cassette group.Console x y s e = refl
put_apart group.Cassette group.Printer x y s e = refl
put_apart group.Cassette group.Cassette x y s e = absurd (true≢false e)
put_apart group.Cassette group.Disk x y s e = refl
put_apart group.Disk group.Nobody x y s e = refl
put_apart group.Disk group.Console x y s e = refl
put_apart group.Disk group.Printer x y s e = refl
put_apart group.Disk group.Cassette x y s e = refl
put_apart group.Disk group.Disk x y s e = absurd (true≢false e)

-- a group by its number
abbrev group_by : ℕ → Group
group_by n = pick (eqb n 1) group.Console (pick (eqb n 2) group.Printer (pick (eqb n 3) group.Cassette (pick (eqb n 4) group.Disk group.Nobody)))

by_number : (g : Group) → group_by (group_number g) ≡ g
by_number group.Nobody = refl
by_number group.Console = refl
by_number group.Printer = refl
by_number group.Cassette = refl
by_number group.Disk = refl

same_number : (g h : Group) → group_number g ≡ group_number h → g ≡ h
same_number g h e = sym (by_number g) ∙ ap group_by e ∙ by_number h

some_group : (g : Group) → (g ≡ group.Nobody → ⊥) → 0 < group_number g
some_group g n = by_eq (group_number g) 0 (λ e. absurd (n (same_number g group.Nobody e))) (λ e. omega arith)

-- two groups clash exactly when they are the same, and not "no group"
clash_one : (g h : Group) → clash g h ≡ true → g ≡ h
clash_one g h e = same_number g h (eqb-true (group_number g) (group_number h) (and_right (ltb 0 (group_number g)) (eqb (group_number g) (group_number h)) e))

clash_both : (g : Group) → (g ≡ group.Nobody → ⊥) → clash g g ≡ true
clash_both g n = rw (lt-ltb 0 (group_number g) (some_group g n), eq-eqb (group_number g) (group_number g) refl)

pub clash_is : (g h : Group) → (clash g h ≡ true) ↔ ((g ≡ h) × (g ≡ group.Nobody → ⊥))
clash_is g h = (
  λ e. (clash_one g h e, λ z. true≢false (sym e ∙ ap (λ (x : Group). clash x h) z)),
  λ p. subst (λ (x : Group). clash g x ≡ true) p.0 (clash_both g p.1),
)

pub clash_swap : (g h : Group) → clash g h ≡ clash h g
clash_swap g h =
    by_eq (group_number g) (group_number h)
    (λ e. ap (λ (x : Group). clash x h) (same_number g h e) ∙ sym (ap (λ (x : Group). clash h x) (same_number g h e)))
    (λ n.
    let m : group_number h ≡ group_number g → ⊥ = λ e. n (sym e) in
    rw (ne_eqb (group_number g) (group_number h) n, ne_eqb (group_number h) (group_number g) m, and_false (ltb 0 (group_number g)), and_false (ltb 0 (group_number h))))

pub clash_none : (g : Group) → clash g group.Nobody ≡ false
clash_none g = clash_swap g group.Nobody
