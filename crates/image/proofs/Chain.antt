-- A character stands where a file's chain reaches it, and nowhere else; the first match is found, and no other.
-- Assumes nothing.
use mathlib.Core.Path.{◌≡◌, ◌∙◌, refl, sym, ap, subst}
use mathlib.Core.Bool.{Bool, true, false, not}
use mathlib.Core.List.{List, [], ◌++◌}
use Prim.Native.Nat.{ℕ, zero, suc, ◌+◌, ◌≤◌}
use native.Mathlib.Nat.{add-suc}
use native.Mathlib.Omega.{arith}
use borrow.Author.Tests.{lt-ltb, le-ltb, eq-eqb, ne_eqb, eqb-false, ltb-true}
use lib.Dec.{eqb, ltb}
use Rattle.base.specs.Choice.{or}
use Rattle.base.proofs.Choices.{by_lt, by_eq, by_test, and_left, and_right}
use Rattle.names.specs.Names.{places_match}
use Rattle.names.specs.Matching.{AllFit}
use Rattle.names.proofs.Matching.{match_rule}
use Rattle.image.specs.declared.Stand.{Stand}
use Rattle.image.specs.declared.Stand.TheVariants.{End, Bad}
use Rattle.image.specs.Image.{entry_place, flag_of, in_use, matches_entry, match_from, file_of, next_of, data_count, bad_sector, stand_of}
use Rattle.image.specs.Chain.{GoodSector, BadSector, above, other, many, Reaches, ends, spent, breaks, holds, links, StandRule, sector_data, ChainBytes, over, stops, breaks_off, then, ChainRule, FirstMatch, no_more, ended, this, later, FirstRule}
use Rattle.image.proofs.Laws.{stand_none, stand_zero, stand_bad, stand_at_lem, stand_next, found_none, found_end, found_here, found_turn}
use Rattle.image.proofs.Standing.{good_there, good_file, good_count}

-- a sector is good or bad by its bytes
module _ (images : List ℕ) (unit file sector : ℕ) where
  pub good_is : bad_sector images unit file sector ≡ false → GoodSector images unit file sector
  good_is b = record { there = good_there images unit file sector b; own = good_file images unit file sector b; few = good_count images unit file sector b }

  pub is_good : GoodSector images unit file sector → bad_sector images unit file sector ≡ false
  is_good g = rw (le-ltb 719 sector g.there, eq-eqb (file_of images unit sector) file g.own, le-ltb 125 (data_count images unit sector) g.few)

  by_bad : (a b c : Bool) → or a (or (not b) c) ≡ true → (a ≡ true → BadSector images unit file sector) → (b ≡ false → BadSector images unit file sector) → (c ≡ true → BadSector images unit file sector) → BadSector images unit file sector
  by_bad true b c e f g h = f refl
  by_bad false false c e f g h = g refl
  by_bad false true c e f g h = h e

  pub bad_is : bad_sector images unit file sector ≡ true → BadSector images unit file sector
  bad_is b =
      by_bad (ltb 719 sector) (eqb (file_of images unit sector) file) (ltb 125 (data_count images unit sector)) b (λ t. above (ltb-true 719 sector t))
      (λ t. other (eqb-false (file_of images unit sector) file t)) (λ t. many (ltb-true 125 (data_count images unit sector) t))

  or_right : (a b : Bool) → b ≡ true → or a b ≡ true
  or_right true b e = refl
  or_right false b e = e

  pub is_bad : BadSector images unit file sector → bad_sector images unit file sector ≡ true
  is_bad (above h) = rw (lt-ltb 719 sector h)
  is_bad (other h) = or_right (ltb 719 sector) _ (rw (ne_eqb (file_of images unit sector) file h))
  is_bad (many h) =
      or_right (ltb 719 sector) _ (or_right (not (eqb (file_of images unit sector) file)) (ltb 125 (data_count images unit sector)) (lt-ltb 125 (data_count images unit sector) h))

-- where the chain reaches
module _ (images : List ℕ) (unit file : ℕ) where
  pub reaches_is : {sector place passed : ℕ} {x : Stand} → Reaches images unit file sector place passed x → x ≡ stand_of images unit file sector place passed
  reaches_is {sector} {place} {passed} (ends z) = sym (stand_zero images unit file sector place passed z)
  reaches_is {sector} {place} {passed} (spent n h) = sym (rw (ne_eqb sector 0 n) at (stand_none images unit file sector place passed h))
  reaches_is {sector} {place} {passed} (breaks n h b) = sym (stand_bad images unit file sector place passed h n (is_bad images unit file sector b))
  reaches_is {sector} {place} {passed} (holds n h g l) = sym (stand_at_lem images unit file sector place passed h n (is_good images unit file sector g) l)
  reaches_is {sector} {place} {passed} (links n h g l r) = reaches_is r ∙ sym (stand_next images unit file sector place passed h n (is_good images unit file sector g) l)

  reaches_from : (left sector place passed : ℕ) → 719 ≤ passed + left → Reaches images unit file sector place passed (stand_of images unit file sector place passed)
  reaches_from zero sector place passed e =
      by_eq sector 0 (λ z. rw (stand_zero images unit file sector place passed z) (ends z))
      (λ n. let h : 719 ≤ passed = omega arith in rw (stand_none images unit file sector place passed h, ne_eqb sector 0 n) (spent n h))
  reaches_from (suc left) sector place passed e =
      by_eq sector 0 (λ z. rw (stand_zero images unit file sector place passed z) (ends z))
      (λ n. by_lt passed 719
      (λ h. by_test (bad_sector images unit file sector)
      (λ b. rw (stand_bad images unit file sector place passed h n b) (breaks n h (bad_is images unit file sector b)))
      (λ b. by_lt place (data_count images unit sector)
      (λ l. rw (stand_at_lem images unit file sector place passed h n b l) (holds n h (good_is images unit file sector b) l))
      (λ l. rw (stand_next images unit file sector place passed h n b l)
      (links n h (good_is images unit file sector b) l (reaches_from left (next_of images unit sector) 0 (passed + 1) (omega (arith, add-suc passed left)))))))
      (λ h. rw (stand_none images unit file sector place passed h, ne_eqb sector 0 n) (spent n h)))

  pub stand_rule : (sector place passed : ℕ) → StandRule images unit file sector place passed
  stand_rule sector place passed = record { always = reaches_from 719 sector place passed (omega arith); only = λ x r. reaches_is r }

-- what a chain holds: always, and one thing only
module _ (images : List ℕ) (unit file : ℕ) where
  never_both : {sector : ℕ} {P : Type 0} → GoodSector images unit file sector → BadSector images unit file sector → P
  never_both {sector} g b =
      let z = sym (is_good images unit file sector g) ∙ is_bad images unit file sector b in
      let y : ◌≡◌ {A = ℕ} 0 1 = cc in
      absurd (omega arith)

  chain_one : {left sector : ℕ} {x y : Stand} {xs ys : List ℕ} → ChainBytes images unit file left sector x xs → ChainBytes images unit file left sector y ys → (x ≡ y) × (xs ≡ ys)
  chain_one (over z) (over w) = (refl, refl)
  chain_one (over z) (stops n) = absurd (n z)
  chain_one (over z) (breaks_off n b) = absurd (n z)
  chain_one (over z) (then n g r) = absurd (n z)
  chain_one (stops n) (over z) = absurd (n z)
  chain_one (stops n) (stops m) = (refl, refl)
  chain_one (breaks_off n b) (over z) = absurd (n z)
  chain_one (breaks_off n b) (breaks_off m c) = (refl, refl)
  chain_one (breaks_off n b) (then m g r) = never_both g b
  chain_one (then n g r) (over z) = absurd (n z)
  chain_one (then n g r) (breaks_off m b) = never_both g b
  chain_one {sector = sector} (then n g r) (then m h s) = let w = chain_one r s in (w.0, ap (λ (l : List ℕ). sector_data images unit sector ++ l) w.1)

  record Walked (left sector : ℕ) : Type 0 where
    last : Stand
    bytes : List ℕ
    walks : ChainBytes images unit file left sector last bytes

  walked : (left sector : ℕ) → Walked left sector
  walked zero sector =
      by_eq sector 0 (λ z. record { last = End; bytes = []; walks = over z }) (λ n. record { last = Bad; bytes = []; walks = stops n })
  walked (suc left) sector =
      by_eq sector 0 (λ z. record { last = End; bytes = []; walks = over z })
      (λ n. by_test (bad_sector images unit file sector)
      (λ b. record { last = Bad; bytes = []; walks = breaks_off n (bad_is images unit file sector b) })
      (λ b. let w = walked left (next_of images unit sector) in
      record { last = w.last; bytes = sector_data images unit sector ++ w.bytes; walks = then n (good_is images unit file sector b) w.walks }))

  pub chain_rule : (left sector : ℕ) → ChainRule images unit file left sector
  chain_rule left sector =
      let w = walked left sector in
      record { last = w.last; bytes = w.bytes; walks = w.walks; only = λ x xs c. chain_one c w.walks }

-- the first match
module _ (images : List ℕ) (unit : ℕ) (pattern : List ℕ) where
  abbrev fits : (entry : ℕ) → Bool
  fits entry = places_match pattern images (entry_place unit entry + 5)

  matches_is : (entry : ℕ) → in_use (flag_of images unit entry) ≡ true → AllFit pattern images (entry_place unit entry + 5) → matches_entry images unit pattern entry ≡ true
  unfolding matches_entry
  matches_is entry u f = rw u ((match_rule pattern images (entry_place unit entry + 5)).matches f)

  used_is : (entry : ℕ) → matches_entry images unit pattern entry ≡ true → in_use (flag_of images unit entry) ≡ true
  unfolding matches_entry
  used_is entry m = and_left (in_use (flag_of images unit entry)) (fits entry) m

  fits_is : (entry : ℕ) → matches_entry images unit pattern entry ≡ true → AllFit pattern images (entry_place unit entry + 5)
  unfolding matches_entry
  fits_is entry m = (match_rule pattern images (entry_place unit entry + 5)).fits (and_right (in_use (flag_of images unit entry)) (fits entry) m)

  pub first_is : {entry found : ℕ} → FirstMatch images unit pattern entry found → found ≡ match_from images unit pattern entry
  first_is {entry} (no_more h) = found_none images unit pattern entry entry refl h
  first_is {entry} (ended l z) = found_end images unit pattern entry entry refl l (flag_of images unit entry) refl z
  first_is {entry} (this l n u f) = found_here images unit pattern entry entry refl l (flag_of images unit entry) refl n true (sym (matches_is entry u f)) refl
  first_is {entry} (later l n f r) =
      first_is r
      ∙ by_test (matches_entry images unit pattern entry) (λ t. absurd (f (used_is entry t) (fits_is entry t)))
      (λ t. found_turn images unit pattern entry entry refl l (flag_of images unit entry) refl n (matches_entry images unit pattern entry) refl t)

  first_from : (left entry : ℕ) → 64 ≤ entry + left → FirstMatch images unit pattern entry (match_from images unit pattern entry)
  first_from zero entry e =
      let h : 64 ≤ entry = omega arith in
      subst (FirstMatch images unit pattern entry) (found_none images unit pattern entry entry refl h) (no_more h)
  first_from (suc left) entry e =
      by_lt entry 64
      (λ l. by_eq (flag_of images unit entry) 0
      (λ z. subst (FirstMatch images unit pattern entry) (found_end images unit pattern entry entry refl l (flag_of images unit entry) refl z) (ended l z))
      (λ n. by_test (matches_entry images unit pattern entry)
      (λ t. subst (FirstMatch images unit pattern entry) (found_here images unit pattern entry entry refl l (flag_of images unit entry) refl n (matches_entry images unit pattern entry) refl t) (this l n (used_is entry t) (fits_is entry t)))
      (λ t. subst (FirstMatch images unit pattern entry) (found_turn images unit pattern entry entry refl l (flag_of images unit entry) refl n (matches_entry images unit pattern entry) refl t)
      (later l n (λ u f. let z = sym t ∙ matches_is entry u f in let y : ◌≡◌ {A = ℕ} 0 1 = cc in omega arith) (first_from left (entry + 1) (omega (arith, add-suc entry left)))))))
      (λ h. subst (FirstMatch images unit pattern entry) (found_none images unit pattern entry entry refl h) (no_more h))

  pub first_rule : (entry : ℕ) → FirstRule images unit pattern entry
  first_rule entry = record { always = first_from 64 entry (omega arith); only = λ found r. first_is r }
