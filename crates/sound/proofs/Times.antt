-- How often a sector stands in a list: in two lists one behind the other, in the list of the free ones; and a list's length by it.
-- Assumes nothing.
use mathlib.Core.Path.{◌≡◌, ◌∙◌, refl, sym, ap}
use mathlib.Core.Bool.{Bool, true, false}
use mathlib.Core.List.{List, [], ◌∷◌, ◌++◌}
use Prim.Native.Nat.{ℕ, zero, suc, ◌+◌, ◌<◌, ◌≤◌}
use native.Mathlib.Nat.{add-suc}
use native.Mathlib.Omega.{arith}
use borrow.Author.Tests.{eq-eqb, ne_eqb}
use lib.ListN.{length}
use Rattle.base.specs.Choice.{pick}
use Rattle.base.proofs.Choices.{by_eq, by_lt, by_test, choose_go}
use Rattle.chains.specs.Chains.{among, File, sectors_of, is_free, free_in, all_free}
use Rattle.chains.proofs.Truths.{true_false}
use Rattle.chains.proofs.Sums.{sum_to, sum_none, sum_more}
use Rattle.sound.specs.Sound.{times}
use Rattle.sound.proofs.Member.{In, here, later}

-- at the head of a list
pub times_this : (s x : ℕ) (xs : List ℕ) → s ≡ x → times s (x ∷ xs) ≡ suc (times s xs)
unfolding times
times_this s x xs e = rw (eq-eqb s x e) (omega arith)

pub times_other : (s x : ℕ) (xs : List ℕ) → (s ≡ x → ⊥) → times s (x ∷ xs) ≡ times s xs
unfolding times
times_other s x xs n = rw (ne_eqb s x n) (omega arith)

pub times_more : (s x : ℕ) (xs : List ℕ) → times s xs ≤ times s (x ∷ xs)
times_more s x xs = by_eq s x (λ e. omega (arith, times_this s x xs e)) (λ n. omega (arith, times_other s x xs n))

pub times_append : (s : ℕ) (xs ys : List ℕ) → times s (xs ++ ys) ≡ times s xs + times s ys
unfolding times
times_append s [] ys = omega arith
times_append s (x ∷ xs) ys = omega (arith, times_append s xs ys)

-- whether it stands there
pub times_none : (s : ℕ) (xs : List ℕ) → among s xs ≡ false → times s xs ≡ 0
unfolding times among
times_none s [] e = refl
times_none s (x ∷ xs) e =
    by_eq s x (λ q. true_false (rw (eq-eqb s x q) at e)) (λ q. times_other s x xs q ∙ times_none s xs (rw (ne_eqb s x q) at e))

pub times_some : (s : ℕ) (xs : List ℕ) → among s xs ≡ true → 1 ≤ times s xs
unfolding times among
times_some s [] e = true_false (sym e)
times_some s (x ∷ xs) e =
    by_eq s x (λ q. omega (arith, times_this s x xs q)) (λ q. omega (arith, times_other s x xs q, times_some s xs (rw (ne_eqb s x q) at e)))

pub among_none : (s : ℕ) (xs : List ℕ) → times s xs ≡ 0 → among s xs ≡ false
among_none s xs h = by_test (among s xs) (λ t. absurd (omega (arith, times_some s xs t))) (λ t. t)

pub in_times : {s : ℕ} {xs : List ℕ} → In s xs → 1 ≤ times s xs
in_times {s} (here {xs = xs}) = omega (arith, times_this s s xs refl)
in_times {s} (later {y = y} {xs = xs} h) = omega (arith, times_more s y xs, in_times h)

-- no oftener in a file than in all files
pub times_file : (s : ℕ) (file : File) (files : List File) → In file files → times s file.sectors ≤ times s (sectors_of files)
unfolding sectors_of
times_file s file (f ∷ files) here = omega (arith, times_append s f.sectors (sectors_of files))
times_file s file (f ∷ files) (later i) = omega (arith, times_append s f.sectors (sectors_of files), times_file s file files i)
times_file s file [] i = elim i [ ]

-- a list of numbers of 1 to n has as many members as these stand in it in all
pub length_times : (n : ℕ) (xs : List ℕ) → times 0 xs ≡ 0 → ((s : ℕ) → n < s → times s xs ≡ 0) → length xs ≡ sum_to (λ s. times s xs) n
unfolding times
length_times n [] z h = sym (sum_none (λ s. 0) n (λ s p q. refl))
length_times n (x ∷ xs) z h =
    let some : (x ≡ 0 → ⊥) = λ e. omega (arith, times_this 0 x xs (sym e)) in
    let low : x ≤ n = by_lt n x (λ l. absurd (omega (arith, h x l, times_this x x xs refl))) (λ l. l) in
    let rest : length xs ≡ sum_to (λ s. times s xs) n = length_times n xs (omega (arith, times_more 0 x xs)) (λ s l. omega (arith, h s l, times_more s x xs)) in
    let more : sum_to (λ s. times s (x ∷ xs)) n ≡ suc (sum_to (λ s. times s xs) n)
    = sum_more (λ s. times s (x ∷ xs)) (λ s. times s xs) n x (omega arith) low (times_this x x xs refl) (λ s i. times_other s x xs i) in
    ap suc rest ∙ sym more

-- the free ones of so many from one on
module _ (claimed : ℕ → Bool) where
  free_before : (left sector s : ℕ) → s < sector → times s (free_in claimed left sector) ≡ 0
  unfolding times free_in
  free_before zero sector s h = refl
  free_before (suc left) sector s h =
      let rest : times s (free_in claimed left (sector + 1)) ≡ 0 = free_before left (sector + 1) s (omega arith) in
      choose_go (λ (l : List ℕ). times s l ≡ 0) (is_free claimed sector) _ _
      (λ t. times_other s sector (free_in claimed left (sector + 1)) (λ e. omega arith) ∙ rest) (λ t. rest)

  free_behind : (left sector s : ℕ) → sector + left ≤ s → times s (free_in claimed left sector) ≡ 0
  unfolding times free_in
  free_behind zero sector s h = refl
  free_behind (suc left) sector s h =
      let rest : times s (free_in claimed left (sector + 1)) ≡ 0 = free_behind left (sector + 1) s (omega (arith, add-suc sector left)) in
      choose_go (λ (l : List ℕ). times s l ≡ 0) (is_free claimed sector) _ _
      (λ t. times_other s sector (free_in claimed left (sector + 1)) (λ e. omega (arith, add-suc sector left)) ∙ rest) (λ t. rest)

  free_head : (left sector s : ℕ) → s ≡ sector → times s (free_in claimed (suc left) sector) ≡ pick (is_free claimed sector) 1 0
  unfolding times free_in
  free_head left sector s e =
      let rest : times s (free_in claimed left (sector + 1)) ≡ 0 = free_before left (sector + 1) s (omega arith) in
      by_test (is_free claimed sector)
      (λ t. rw (t, eq-eqb s sector e) (omega arith)) (λ t. rw t rest)

  free_tail : (left sector s : ℕ) → (s ≡ sector → ⊥) → times s (free_in claimed (suc left) sector) ≡ times s (free_in claimed left (sector + 1))
  unfolding free_in
  free_tail left sector s n =
      choose_go (λ (l : List ℕ). times s l ≡ times s (free_in claimed left (sector + 1))) (is_free claimed sector) _ _
      (λ t. times_other s sector (free_in claimed left (sector + 1)) n) (λ t. refl)

  free_within : (left sector s : ℕ) → sector ≤ s → s < sector + left → times s (free_in claimed left sector) ≡ pick (is_free claimed s) 1 0
  free_within zero sector s h k = absurd (omega arith)
  free_within (suc left) sector s h k =
      by_eq s sector
      (λ e. free_head left sector s e ∙ ap (λ (x : ℕ). pick (is_free claimed x) 1 0) (sym e))
      (λ n. free_tail left sector s n ∙ free_within left (sector + 1) s (omega arith) (omega (arith, add-suc sector left)))

  pub all_free_lem : (s : ℕ) → 1 ≤ s → s ≤ 719 → times s (all_free claimed) ≡ pick (is_free claimed s) 1 0
  all_free_lem s h k = free_within 719 1 s h (omega arith)

  pub all_free_zero : times 0 (all_free claimed) ≡ 0
  all_free_zero = free_before 719 1 0 (omega arith)

  pub all_free_above : (s : ℕ) → 719 < s → times s (all_free claimed) ≡ 0
  all_free_above s h = free_behind 719 1 s (omega arith)
