-- The 719 sectors of a sound image are shared out: each is reserved, free, or in exactly one file.
-- Assumes nothing.
use mathlib.Core.Path.{◌≡◌, ◌∙◌, refl}
use mathlib.Core.List.{List}
use Prim.Native.Nat.{ℕ, ◌+◌, ◌<◌, ◌≤◌}
use native.Mathlib.Omega.{arith}
use borrow.Author.Tests.{ne_eqb}
use lib.Dec.{T, eqb, eqb→eq}
use lib.ListN.{length}
use Rattle.base.specs.Choice.{pick}
use Rattle.base.proofs.Choices.{by_test}
use Rattle.base.proofs.Table.{upto, on}
use Rattle.chains.specs.Chains.{is_reserved, File, sectors_of, among, in_files, all_free}
use Rattle.chains.proofs.Truths.{never}
use Rattle.chains.proofs.Sums.{sum_to, sum_add, sum_ones}
use Rattle.sound.specs.Sound.{Chained, over, link, FilesFrom, no_more, ended, passed, used, times, SoundImage, reserved_sectors, Shares}
use Rattle.sound.proofs.Facts as facts
use Rattle.sound.proofs.Facts.{Stretch, nothing, further, FoundFrom}
use Rattle.sound.proofs.Usable.{Usable, found_usable, no_file}
use Rattle.sound.proofs.Times.{times_none, times_some, length_times, all_free_lem, all_free_zero, all_free_above}

-- the files of an image with their chains are such as the doctor walks
chained_stretch : {image : List ℕ} {file sector : ℕ} {xs : List ℕ} → Chained image file sector xs → Stretch image file sector xs
chained_stretch (over z) = nothing
chained_stretch (link n r g c) = further n r g (chained_stretch c)

files_found : {image : List ℕ} {entry : ℕ} {files : List File} → FilesFrom image entry files → FoundFrom image entry files
files_found (no_more l) = facts.no_more l
files_found (ended l z) = facts.ended l z
files_found (passed l n u f) = facts.passed l n u (files_found f)
files_found (used l u c f) = facts.used l u (chained_stretch c) (files_found f)

-- the reserved ones
reserved_test : T (upto (λ s. eqb (times s reserved_sectors) (pick (is_reserved s) 1 0)) 1 719)
unfolding times
reserved_test = tt

reserved_times : (s : ℕ) → 1 ≤ s → s ≤ 719 → times s reserved_sectors ≡ pick (is_reserved s) 1 0
reserved_times s h k = eqb→eq _ _ (on (λ s. eqb (times s reserved_sectors) (pick (is_reserved s) 1 0)) 1 719 reserved_test s h (omega arith))

reserved_zero : times 0 reserved_sectors ≡ 0
unfolding times
reserved_zero = refl

reserved_above : (s : ℕ) → 719 < s → times s reserved_sectors ≡ 0
unfolding times
reserved_above s h =
    rw (
      ne_eqb s 1 (λ e. omega arith),
      ne_eqb s 2 (λ e. omega arith),
      ne_eqb s 3 (λ e. omega arith),
      ne_eqb s 360 (λ e. omega arith),
      ne_eqb s 361 (λ e. omega arith),
      ne_eqb s 362 (λ e. omega arith),
      ne_eqb s 363 (λ e. omega arith),
      ne_eqb s 364 (λ e. omega arith),
      ne_eqb s 365 (λ e. omega arith),
      ne_eqb s 366 (λ e. omega arith),
      ne_eqb s 367 (λ e. omega arith),
      ne_eqb s 368 (λ e. omega arith),
    )

-- files whose sectors are usable and each in one place
module _ (files : List File) (members : (s : ℕ) → 1 ≤ times s (sectors_of files) → Usable s) (once : (s : ℕ) → times s (sectors_of files) ≤ 1) where
  abbrev free : List ℕ
  free = all_free (in_files files)

  abbrev shared : ℕ → ℕ
  shared s = times s reserved_sectors + times s (sectors_of files) + times s free

  file_zero : times 0 (sectors_of files) ≡ 0
  file_zero = no_file files members 0 (λ u. omega (arith, u.from))

  file_above : (s : ℕ) → 719 < s → times s (sectors_of files) ≡ 0
  file_above s h = no_file files members s (λ u. omega (arith, u.up_to))

  each_one : (s : ℕ) → 1 ≤ s → s ≤ 719 → shared s ≡ 1
  each_one s h k =
      by_test (is_reserved s)
      (λ t. let a : times s reserved_sectors ≡ 1 = rw t at (reserved_times s h k) in
      let b : times s (sectors_of files) ≡ 0 = no_file files members s (λ u. never t u.unreserved) in
      let c : times s free ≡ 0 = rw t at (all_free_lem (in_files files) s h k) in
      omega arith)
      (λ t. let a : times s reserved_sectors ≡ 0 = rw t at (reserved_times s h k) in
      by_test (among s (sectors_of files))
      (λ m. let b = times_some s (sectors_of files) m in
      let c : times s free ≡ 0 = rw (t, m) at (all_free_lem (in_files files) s h k) in
      omega (arith, once s))
      (λ m. let b = times_none s (sectors_of files) m in
      let c : times s free ≡ 1 = rw (t, m) at (all_free_lem (in_files files) s h k) in
      omega arith))

  lengths : length reserved_sectors + length (sectors_of files) + length free ≡ sum_to shared 719
  lengths =
      let a = length_times 719 reserved_sectors reserved_zero reserved_above in
      let b = length_times 719 (sectors_of files) file_zero file_above in
      let c = length_times 719 free (all_free_zero (in_files files)) (all_free_above (in_files files)) in
      let d = sum_add (λ s. times s reserved_sectors) (λ s. times s (sectors_of files)) 719 in
      let e = sum_add (λ s. times s reserved_sectors + times s (sectors_of files)) (λ s. times s free) 719 in
      omega arith

  shares_of : Shares files
  shares_of =
      record {
        each = each_one;
        below = omega (arith, reserved_zero, file_zero, all_free_zero (in_files files));
        above = λ s h. omega (arith, reserved_above s h, file_above s h, all_free_above (in_files files) s h);
        adds = lengths ∙ sum_ones shared 719 each_one;
      }

pub shares : (image : List ℕ) (s : SoundImage image) → Shares s.files
shares image s = shares_of s.files (found_usable image (files_found s.theirs)) s.once
