-- What is known of a place where a character stands, and of an entry that was found.
-- Assumes nothing.
use mathlib.Core.Path.{◌≡◌, refl, subst}
use mathlib.Core.Bool.{Bool, true, false, not}
use mathlib.Core.List.{List}
use Prim.Native.Nat.{ℕ, zero, suc, ◌+◌, ◌-◌, ◌<◌, ◌≤◌}
use native.Mathlib.Nat.{add-suc}
use native.Mathlib.Omega.{arith}
use borrow.Author.Tests.{eqb-true, ltb-false}
use lib.Dec.{eqb, ltb}
use Rattle.base.specs.Choice.{or}
use Rattle.base.proofs.Choices.{by_lt, pick_go, choose_go, choose_eq, choose_lt}
use Rattle.image.specs.declared.Stand.{Stand}
use Rattle.image.specs.declared.Stand.TheVariants.{End, Bad, At}
use Rattle.image.specs.Image.{flag_of, matches_entry, match_in, match_from, file_of, next_of, data_count, bad_sector, stand_in, stand_of}
use Rattle.image.proofs.Laws.{stand_at_lem}

-- an entry that is found is one of those looked at, or 64
module _ (images : List ℕ) (unit : ℕ) (pattern : List ℕ) where
  match_in_lem : (left entry : ℕ) → entry + left ≤ 64 → match_in images unit pattern left entry ≤ 64
  unfolding match_in
  match_in_lem zero entry h = omega arith
  match_in_lem (suc left) entry h =
      choose_go (λ (m : ℕ). m ≤ 64) (eqb (flag_of images unit entry) 0) _ _ (λ t. omega arith)
      (λ t. choose_go (λ (m : ℕ). m ≤ 64) (matches_entry images unit pattern entry) _ _ (λ u. omega (arith, add-suc entry left))
      (λ u. match_in_lem left (entry + 1) (omega (arith, add-suc entry left))))

  match_past : (left entry : ℕ) → left ≡ 0 → match_in images unit pattern left entry ≡ 64
  unfolding match_in
  match_past left entry e = rw e

  pub match_low : (entry : ℕ) → match_from images unit pattern entry ≤ 64
  match_low entry =
      by_lt entry 65 (λ h. match_in_lem (64 - entry) entry (omega arith))
      (λ h. omega (arith, match_past (64 - entry) entry (omega arith)))

  match_after : (left entry : ℕ) → entry + left ≡ 64 → entry ≤ match_in images unit pattern left entry
  unfolding match_in
  match_after zero entry h = omega arith
  match_after (suc left) entry h =
      choose_go (λ (m : ℕ). entry ≤ m) (eqb (flag_of images unit entry) 0) _ _ (λ t. omega (arith, add-suc entry left))
      (λ t. choose_go (λ (m : ℕ). entry ≤ m) (matches_entry images unit pattern entry) _ _ (λ u. omega arith)
      (λ u. omega (arith, match_after left (entry + 1) (omega (arith, add-suc entry left)))))

  pub match_onward : (entry : ℕ) → entry ≤ 64 → entry ≤ match_from images unit pattern entry
  match_onward entry h = match_after (64 - entry) entry (omega arith)

-- a good sector's own file number and data count
bad_far : (a b c : Bool) → or a (or (not b) c) ≡ false → a ≡ false
bad_far true b c e = e
bad_far false b c e = refl

bad_file : (a b c : Bool) → or a (or (not b) c) ≡ false → b ≡ true
bad_file true b c e = let z : ◌≡◌ {A = ℕ} 0 1 = cc in absurd (omega arith)
bad_file false true c e = refl
bad_file false false c e = let z : ◌≡◌ {A = ℕ} 0 1 = cc in absurd (omega arith)

bad_count : (a b c : Bool) → or a (or (not b) c) ≡ false → c ≡ false
bad_count true b c e = let z : ◌≡◌ {A = ℕ} 0 1 = cc in absurd (omega arith)
bad_count false true c e = e
bad_count false false c e = let z : ◌≡◌ {A = ℕ} 0 1 = cc in absurd (omega arith)

module _ (images : List ℕ) (unit file sector : ℕ) (b : bad_sector images unit file sector ≡ false) where
  pub good_there : sector ≤ 719
  good_there = ltb-false 719 sector (bad_far (ltb 719 sector) (eqb (file_of images unit sector) file) (ltb 125 (data_count images unit sector)) b)

  pub good_file : file_of images unit sector ≡ file
  good_file = eqb-true (file_of images unit sector) file (bad_file (ltb 719 sector) (eqb (file_of images unit sector) file) (ltb 125 (data_count images unit sector)) b)

  pub good_count : data_count images unit sector ≤ 125
  good_count = ltb-false 125 (data_count images unit sector) (bad_count (ltb 719 sector) (eqb (file_of images unit sector) file) (ltb 125 (data_count images unit sector)) b)

-- from one place of a chain to another, so many sectors passed: there already, or behind further sectors
pub data Onward (sector place passed s p q : ℕ) : Type 0 where
  stays : s ≡ sector → p ≡ place → q ≡ passed → Onward sector place passed s p q
  passes : passed < q → Onward sector place passed s p q

-- a character stands in a good sector, below its count, behind at most 718 others
pub record Stood (images : List ℕ) (unit file sector place passed s p q : ℕ) : Type 0 where
  pub some : s ≡ 0 → ⊥
  pub good : bad_sector images unit file s ≡ false
  pub inside : p < data_count images unit s
  pub few : q < 719
  pub onward : Onward sector place passed s p q

further : (sector place passed next s p q : ℕ) → Onward next 0 (passed + 1) s p q → passed < q
further sector place passed next s p q (stays a b c) = omega arith
further sector place passed next s p q (passes h) = omega arith

module _ (images : List ℕ) (unit file : ℕ) where
  abbrev StoodAt : (sector place passed : ℕ) → Stand → Type 0
  StoodAt sector place passed End = Unit {0}
  StoodAt sector place passed Bad = Unit {0}
  StoodAt sector place passed (At s p q) = Stood images unit file sector place passed s p q

  on_from : (sector place passed next : ℕ) (x : Stand) → StoodAt next 0 (passed + 1) x → StoodAt sector place passed x
  on_from sector place passed next End h = tt
  on_from sector place passed next Bad h = tt
  on_from sector place passed next (At s p q) h = record { some = h.some; good = h.good; inside = h.inside; few = h.few; onward = passes (further sector place passed next s p q h.onward) }

  stood_in : (left sector place passed : ℕ) → passed + left ≤ 719 → StoodAt sector place passed (stand_in images unit file left sector place passed)
  unfolding stand_in
  stood_in zero sector place passed h = pick_go (StoodAt sector place passed) (eqb sector 0) End Bad (λ t. tt) (λ t. tt)
  stood_in (suc left) sector place passed h =
      choose_eq (StoodAt sector place passed) sector 0 _ _ (λ e. tt)
      (λ n. choose_go (StoodAt sector place passed) (bad_sector images unit file sector) _ _ (λ t. tt)
      (λ g. choose_lt (StoodAt sector place passed) place (data_count images unit sector) _ _
      (λ l. record { some = n; good = g; inside = l; few = omega (arith, add-suc passed left); onward = stays refl refl refl })
      (λ l. on_from sector place passed (next_of images unit sector) (stand_in images unit file left (next_of images unit sector) 0 (passed + 1))
      (stood_in left (next_of images unit sector) 0 (passed + 1) (omega (arith, add-suc passed left))))))

  stood_past : (left sector place passed : ℕ) → left ≡ 0 → StoodAt sector place passed (stand_in images unit file left sector place passed)
  unfolding stand_in
  stood_past left sector place passed e = rw e (pick_go (StoodAt sector place passed) (eqb sector 0) End Bad (λ t. tt) (λ t. tt))

  pub stood : (sector place passed s p q : ℕ) → stand_of images unit file sector place passed ≡ At s p q → Stood images unit file sector place passed s p q
  stood sector place passed s p q e =
      subst (StoodAt sector place passed) e
      (by_lt passed 720 (λ h. stood_in (719 - passed) sector place passed (omega arith)) (λ h. stood_past (719 - passed) sector place passed (omega arith)))

  -- it stands there still when it is looked for again
  pub stands_still : (sector place passed s p q : ℕ) → Stood images unit file sector place passed s p q → stand_of images unit file s p q ≡ At s p q
  stands_still sector place passed s p q h = stand_at_lem images unit file s p q h.few h.some h.good h.inside
