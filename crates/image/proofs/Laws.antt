-- What the functions over sectors and entries return, from what they test and what their callees ensure.
-- Assumes nothing.
use mathlib.Core.Path.{◌≡◌, ◌∙◌, refl, sym, ap}
use mathlib.Core.Bool.{Bool, true, false}
use mathlib.Core.List.{List}
use Prim.Native.Nat.{ℕ, zero, suc, ◌+◌, ◌-◌, ◌<◌, ◌≤◌}
use native.Mathlib.Omega.{arith}
use native.Mathlib.Numerals.{add-one}
use borrow.Author.Tests.{lt-ltb, le-ltb, eq-eqb, ne_eqb}
use lib.Dec.{eqb, ltb}
use Rattle.base.specs.Choice.{pick, choose}
use Rattle.std.specs.Prelude.{Option, Some, None}
use Rattle.image.specs.declared.Holding.{Holding}
use Rattle.image.specs.declared.Stand.TheVariants.{End, Bad, At}
use Rattle.image.specs.Image.{flag_of, matches_entry, match_in, match_from, found_entry, next_of, data_count, bad_sector, holding, sector_of, stand_in, stand_of}

-- an entry by its number
pub none_found : (m : ℕ) → 64 ≡ m → None ≡ found_entry m
none_found m e = rw (sym e)

pub one_found : (entry m : ℕ) → entry < 64 → entry ≡ m → Some entry ≡ found_entry m
one_found entry m l e = rw (sym e, lt-ltb entry 64 l)

-- the loop over the entries
module _ (images : List ℕ) (unit : ℕ) (pattern : List ℕ) (from entry : ℕ) (e : match_from images unit pattern entry ≡ match_from images unit pattern from) where
  pub found_none : 64 ≤ entry → 64 ≡ match_from images unit pattern from
  unfolding match_in
  found_none l = let z : 64 - entry ≡ 0 = omega arith in rw z at e

  module _ (l : entry < 64) (flag : ℕ) (f : flag ≡ flag_of images unit entry) where
    step : match_from images unit pattern from ≡ choose (eqb flag 0) (λ u. 64) (λ u. choose (matches_entry images unit pattern entry) (λ v. entry) (λ v. match_from images unit pattern (entry + 1)))
    unfolding match_in
    step = let z : 64 - entry ≡ suc (64 - (entry + 1)) = omega (arith, add-one (64 - (entry + 1))) in rw f (sym (rw z at e))

    pub found_end : flag ≡ 0 → 64 ≡ match_from images unit pattern from
    found_end z = sym (rw (eq-eqb flag 0 z) at step)

    module _ (n : flag ≡ 0 → ⊥) (m : Bool) (q : m ≡ matches_entry images unit pattern entry) where
      pub found_here : m ≡ true → entry ≡ match_from images unit pattern from
      found_here t = sym (rw (ne_eqb flag 0 n, ← q, t) at step)

      pub found_turn : m ≡ false → match_from images unit pattern (entry + 1) ≡ match_from images unit pattern from
      found_turn t = sym (rw (ne_eqb flag 0 n, ← q, t) at step)

-- what is known of a sector by what it holds
pub wrong_bad : (b : Bool) (x : Holding) → None ≡ pick b None (Some x) → b ≡ true
wrong_bad true x e = refl
wrong_bad false x e = cc

pub holds_good : (b : Bool) (x held : Holding) → Some held ≡ pick b None (Some x) → b ≡ false
holds_good true x held e = cc
holds_good false x held e = refl

pub holds_this : (b : Bool) (x held : Holding) → Some held ≡ pick b None (Some x) → held ≡ x
holds_this true x held e = cc
holds_this false x held e = cc

-- where a file's next character stands: with no sector left, and by what its sector holds
zero_in : (images : List ℕ) (unit file left sector place passed : ℕ) → sector ≡ 0 → stand_in images unit file left sector place passed ≡ End
unfolding stand_in
zero_in images unit file zero sector place passed e = rw (eq-eqb sector 0 e)
zero_in images unit file (suc left) sector place passed e = rw (eq-eqb sector 0 e)

module _ (images : List ℕ) (unit file sector place passed : ℕ) where
  pub stand_none : 719 ≤ passed → stand_of images unit file sector place passed ≡ pick (eqb sector 0) End Bad
  unfolding stand_in
  stand_none h = let z : 719 - passed ≡ 0 = omega arith in rw z

  pub stand_zero : sector ≡ 0 → stand_of images unit file sector place passed ≡ End
  stand_zero e = zero_in images unit file (719 - passed) sector place passed e

  module _ (h : passed < 719) (n : sector ≡ 0 → ⊥) where
    step_stand : stand_of images unit file sector place passed
        ≡ choose (bad_sector images unit file sector) (λ v. Bad)
        (λ v. choose (ltb place (data_count images unit sector)) (λ w. At sector place passed) (λ w. stand_of images unit file (next_of images unit sector) 0 (passed + 1)))
    unfolding stand_in
    step_stand = let z : 719 - passed ≡ suc (719 - (passed + 1)) = omega (arith, add-one (719 - (passed + 1))) in rw (z, ne_eqb sector 0 n)

    pub stand_bad : bad_sector images unit file sector ≡ true → stand_of images unit file sector place passed ≡ Bad
    stand_bad b = rw b at step_stand

    module _ (b : bad_sector images unit file sector ≡ false) where
      pub stand_at_lem : place < data_count images unit sector → stand_of images unit file sector place passed ≡ At sector place passed
      stand_at_lem l = rw (b, lt-ltb place (data_count images unit sector) l) at step_stand

      pub stand_next : data_count images unit sector ≤ place → stand_of images unit file sector place passed ≡ stand_of images unit file (next_of images unit sector) 0 (passed + 1)
      stand_next l = rw (b, le-ltb place (data_count images unit sector) l) at step_stand

-- the loop over the sectors
module _ (images : List ℕ) (unit file sector place passed at character behind : ℕ) (e : stand_of images unit file at character behind ≡ stand_of images unit file sector place passed) where
  pub stands_ended : at ≡ 0 → End ≡ stand_of images unit file sector place passed
  stands_ended z = sym (stand_zero images unit file at character behind z) ∙ e

  pub stands_last : 719 ≤ behind → (at ≡ 0 → ⊥) → Bad ≡ stand_of images unit file sector place passed
  stands_last l n = sym (rw (ne_eqb at 0 n) at (stand_none images unit file at character behind l)) ∙ e

  module _ (h : behind < 719) (n : at ≡ 0 → ⊥) (found : Option Holding) (f : found ≡ sector_of images unit file at) where
    abbrev holds : Holding
    holds = holding (data_count images unit at) (next_of images unit at)

    pub stands_wrong : found ≡ None → Bad ≡ stand_of images unit file sector place passed
    unfolding sector_of
    stands_wrong w = sym (stand_bad images unit file at character behind h n (wrong_bad (bad_sector images unit file at) holds (sym w ∙ f))) ∙ e

    module _ (held : Holding) (w : found ≡ Some held) where
      good : bad_sector images unit file at ≡ false
      unfolding sector_of
      good = holds_good (bad_sector images unit file at) holds held (sym w ∙ f)

      this : held ≡ holds
      unfolding sector_of
      this = holds_this (bad_sector images unit file at) holds held (sym w ∙ f)

      counts : held.count ≡ data_count images unit at
      counts = ap (λ (x : Holding). x.count) this

      links : held.next ≡ next_of images unit at
      links = ap (λ (x : Holding). x.next) this

      pub stands_here : character < held.count → At at character behind ≡ stand_of images unit file sector place passed
      stands_here l = sym (stand_at_lem images unit file at character behind h n good (rw counts at l)) ∙ e

      pub stands_turn : held.count ≤ character → stand_of images unit file held.next 0 (behind + 1) ≡ stand_of images unit file sector place passed
      stands_turn l =
          ap (λ (s : ℕ). stand_of images unit file s 0 (behind + 1)) links ∙ sym (stand_next images unit file at character behind h n good (rw counts at l)) ∙ e
