-- The list of changes is in order: file by file, then sector 360.
-- Assumes nothing.
use mathlib.Core.Path.{◌≡◌, ◌∙◌, refl, ap}
use mathlib.Core.Logic.{◌⊎◌, inl, inr}
use mathlib.Core.Bool.{Bool}
use mathlib.Core.List.{List, [], ◌∷◌, ◌++◌}
use Prim.Native.Nat.{ℕ, zero, suc, ◌+◌, ◌*◌, ◌/◌, ◌%◌, ◌<◌, ◌≤◌}
use native.Mathlib.Nat.{add-suc}
use native.Mathlib.Omega.{arith}
use borrow.Author.Tests.{ne_eqb, le-leb, lt-leb}
use lib.Dec.{eqb, eqb-suc-zero, leb}
use lib.ListN.{length}
use Rattle.base.proofs.Choices.{choose_go, and_false}
use Rattle.image.specs.Image.{file_of, first_of, next_of}
use Rattle.image.specs.Chain.{GoodSector}
use Rattle.chains.specs.Chains.{File, files_of, in_files, last_or}
use Rattle.changes.specs.Changes.{Change, differing}
use Rattle.repairs.specs.Repairs.{count_changes, file_changes, files_changes, map_in, sectors_changes, right_bytes}
use Rattle.doctor.specs.Doctor.{changes_of}
use Rattle.sound.specs.Order.{rank, rank_of, Rising, empty, single, rises, ListsInOrder}
use Rattle.sound.proofs.Facts.{Stretch, further, FoundFrom, no_more, ended, passed, used}
use Rattle.sound.proofs.Usable.{last_usable}
use Rattle.sound.proofs.Walks.{found}
use Rattle.sound.proofs.Entries.{its_number, outside}
use Rattle.sound.proofs.Causes.{some_sectors}

-- changes that rise from one rank on, all of them below another
data Between (image : List ℕ) : (low high : ℕ) → List Change → Type 0 where
  no_rank : {low high : ℕ} → low ≤ high → Between image low high []
  a_rank : {low high : ℕ} {c : Change} {cs : List Change} → low ≤ rank_of image c → Between image (rank_of image c + 1) high cs → Between image low high (c ∷ cs)

module _ (image : List ℕ) where
  from_below : {before low high : ℕ} {cs : List Change} → before ≤ low → Between image low high cs → Between image before high cs
  from_below {before} {high = high} h (no_rank l) = let k : before ≤ high = omega arith in no_rank k
  from_below {before} h (a_rank {c = c} l b) = let k : before ≤ rank_of image c = omega arith in a_rank k b

  -- none, and a change of this rank with those behind it
  none_between : {low high : ℕ} → low ≤ high → Between image low high []
  none_between h = no_rank h

  at_rank : (r : ℕ) {low high : ℕ} {c : Change} {cs : List Change} → rank_of image c ≡ r → low ≤ r → Between image (r + 1) high cs
      → Between image low high (c ∷ cs)
  at_rank r {low} {high} {c} {cs} e h b =
      let k : low ≤ rank_of image c = omega arith in
      let d : Between image (rank_of image c + 1) high cs = rw e b in
      a_rank k d

  -- one list behind the other, those that differ, and each next one
  between_append : {low middle high : ℕ} {xs ys : List Change} → Between image low middle xs → Between image middle high ys → Between image low high (xs ++ ys)
  between_append (no_rank l) b = from_below l b
  between_append (a_rank l a) b = a_rank l (between_append a b)

  between_differing : {low high : ℕ} {cs : List Change} → Between image low high cs → Between image low high (differing cs)
  unfolding differing
  between_differing (no_rank l) = no_rank l
  between_differing {low} {high} (a_rank {c = c} l b) =
      let k : low ≤ rank_of image c + 1 = omega arith in
      choose_go (Between image low high) (eqb c.old c.new) _ _ (λ e. from_below k (between_differing b)) (λ e. a_rank l (between_differing b))

  rising : {low high : ℕ} {cs : List Change} → Between image low high cs → Rising image cs
  rising (no_rank l) = empty
  rising (a_rank l (no_rank h)) = single
  rising (a_rank {c = c} l (a_rank {c = d} h b)) = let k : rank_of image c < rank_of image d = omega arith in rises k (rising (a_rank h b))

  -- the rank of a byte of an entry
  entry_rest : (entry place : ℕ) → place < 16 → (16 * (entry % 8) + place) % 16 ≡ place
  entry_rest entry place h = omega arith

  entry_rank : (entry place : ℕ) → entry < 64 → place < 16 → rank image (361 + entry / 8) (16 * (entry % 8) + place) ≡ 256 * entry + 128 + place
  unfolding rank
  entry_rank entry place h k =
      let a = ne_eqb (361 + entry / 8) 360 (λ e. omega arith) in
      let b = le-leb 361 (361 + entry / 8) (omega arith) in
      let c = le-leb (361 + entry / 8) 368 (omega arith) in
      rw (a, b, c, its_number entry place k, entry_rest entry place k) refl

  -- of one of a sector that is none of the directory's
  outside_rank : (sector place : ℕ) → (sector < 360) ⊎ (368 < sector) → rank image sector place ≡ 256 * file_of image 0 sector + place
  unfolding rank
  outside_rank sector place (inl h) = rw (ne_eqb sector 360 (λ e. omega arith), lt-leb 361 sector (omega arith)) refl
  outside_rank sector place (inr h) =
      rw (ne_eqb sector 360 (λ e. omega arith), lt-leb sector 368 (omega arith), and_false (leb 361 sector)) refl

  -- of one of a file's last sector, which has the file's number
  last_good : (file first x : ℕ) (xs : List ℕ) → Stretch image file first (x ∷ xs) → GoodSector image 0 file (last_or 0 (x ∷ xs))
  unfolding last_or
  last_good file first x [] (further n r g t) = g
  last_good file first x (y ∷ ys) (further n r g t) = last_good file (next_of image 0 first) y ys t

  last_rank : (file first x place : ℕ) (xs : List ℕ) → Stretch image file first (x ∷ xs) → rank image (last_or 0 (x ∷ xs)) place ≡ 256 * file + place
  last_rank file first x place xs t =
      let last = last_or 0 (x ∷ xs) in
      outside_rank last place (outside last (last_usable image file first (x ∷ xs) t some_sectors).unreserved)
      ∙ ap (λ (n : ℕ). 256 * n + place) (last_good file first x xs t).own

  -- the changes of a file
  count_between : (entry count : ℕ) → entry < 64 → Between image (256 * entry + 128) (256 * (entry + 1)) (count_changes image entry count)
  count_between entry count h =
      at_rank (256 * entry + 128 + 1) (entry_rank entry 1 h (omega arith)) (omega arith)
      (at_rank (256 * entry + 128 + 2) (entry_rank entry 2 h (omega arith)) (omega arith) (none_between (omega arith)))

  file_between : (entry first : ℕ) (xs : List ℕ) → entry < 64 → Stretch image entry first xs
      → Between image (256 * entry) (256 * (entry + 1)) (file_changes image entry (last_or 0 xs) (length xs))
  unfolding file_changes
  file_between entry first [] h t =
      choose_go (Between image (256 * entry) (256 * (entry + 1))) (eqb (first_of image 0 entry) 0) _ _
      (λ e. from_below (omega arith) (count_between entry 0 h))
      (λ e. at_rank (256 * entry + 128 + 0) (entry_rank entry 0 h (omega arith)) (omega arith) (none_between (omega arith)))
  file_between entry first (x ∷ xs) h t =
      rw (eqb-suc-zero (length xs))
      (at_rank (256 * entry + 125) (last_rank entry first x 125 xs t) (omega arith)
      (at_rank (256 * entry + 126) (last_rank entry first x 126 xs t) (omega arith)
      (from_below (omega arith) (count_between entry (suc (length xs)) h))))

  -- of all files, in directory order
  files_between : {entry : ℕ} {files : List File} → entry ≤ 64 → FoundFrom image entry files → Between image (256 * entry) (256 * 64) (files_changes image files)
  unfolding files_changes
  files_between h (no_more l) = none_between (omega arith)
  files_between h (ended l e) = none_between (omega arith)
  files_between h (passed l n u f) = from_below (omega arith) (files_between (omega arith) f)
  files_between {entry} h (used l u t f) = between_append (file_between entry _ _ l t) (files_between (omega arith) f)

  -- of sector 360
  map_between : (claimed : ℕ → Bool) (left byte : ℕ) → byte + left ≡ 90 → Between image (256 * 64 + (10 + byte)) (256 * 64 + 100) (map_in image claimed left byte)
  unfolding map_in rank
  map_between claimed zero byte h = none_between (omega arith)
  map_between claimed (suc left) byte h =
      let k : byte + 1 + left ≡ 90 = omega (arith, add-suc byte left) in
      at_rank (256 * 64 + (10 + byte)) refl (omega arith) (from_below (omega arith) (map_between claimed left (byte + 1) k))

  sectors_between : (claimed : ℕ → Bool) → Between image (256 * 64) (256 * 64 + 100) (sectors_changes image claimed)
  unfolding rank
  sectors_between claimed =
      at_rank (256 * 64 + 3) refl (omega arith)
      (at_rank (256 * 64 + 4) refl (omega arith)
      (from_below (omega arith) (map_between claimed 90 0 refl)))

  right_between : (files : List File) → FoundFrom image 0 files → Between image 0 (256 * 64 + 100) (right_bytes image files)
  unfolding right_bytes
  right_between files f = between_append (files_between (omega arith) f) (sectors_between (in_files files))

  pub in_order : ListsInOrder image
  unfolding changes_of
  in_order = rising (between_differing (right_between (files_of image) (found image)))
