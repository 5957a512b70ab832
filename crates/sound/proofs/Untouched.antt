-- A sound image is left alone: every byte that the doctor sets right is right already.
-- Assumes nothing.
use mathlib.Core.Path.{◌≡◌, ◌∙◌, refl, sym, ap}
use mathlib.Core.Bool.{Bool}
use mathlib.Core.List.{List, [], ◌∷◌}
use Prim.Native.Nat.{ℕ, zero, suc, ◌+◌, ◌*◌, ◌/◌, ◌%◌, ◌<◌, ◌≤◌}
use native.Mathlib.Nat.{add-suc}
use native.Mathlib.Omega.{arith}
use borrow.Author.Tests.{eq-eqb, ne_eqb}
use lib.Dec.{T, eqb, eqb→eq}
use lib.ListN.{length, get_or}
use Rattle.base.proofs.Choices.{by_eq}
use Rattle.base.proofs.Table.{upto, on}
use Rattle.image.specs.Image.{sector_byte, entry_byte, count_of, first_of, next_of}
use Rattle.chains.specs.Chains.{File, in_files, is_free, all_free, last_or}
use Rattle.changes.specs.Changes.{Change, differing}
use Rattle.repairs.specs.Repairs.{cut_changes, count_changes, file_changes, files_changes, free_changes, map_bit, map_byte, map_in, right_bytes}
use Rattle.repairs.proofs.Laws.{bit_one}
use Rattle.doctor.specs.Doctor.{changes_of}
use Rattle.sound.specs.Sound.{Chained, over, link, FilesFrom, no_more, ended, passed, used, Counted, counts, weight, map_says, SoundImage}
use Rattle.sound.specs.Repair.{Image, AllOf, no_change, and_so}
use Rattle.sound.proofs.AllOf.{all_append}
use Rattle.sound.proofs.Entries.{entry_at}
use Rattle.sound.proofs.Refound.{refound}

-- a byte that is right already
abbrev Already : Change → Type 0
Already c = c.old ≡ c.new

differing_none : {cs : List Change} → AllOf Already cs → differing cs ≡ []
unfolding differing
differing_none no_change = refl
differing_none (and_so {c = c} p a) = rw (eq-eqb c.old c.new p) (differing_none a)

-- two bytes that make a number are its own
low_byte : (low high n : ℕ) → low < 256 → low + 256 * high ≡ n → low ≡ n % 256
low_byte low high n h e = omega arith

high_byte : (low high n : ℕ) → low < 256 → low + 256 * high ≡ n → high ≡ n / 256
high_byte low high n h e = omega arith

-- a link to 0
unlinked_high : (low high : ℕ) → low + 256 * (high % 4) ≡ 0 → high ≡ 4 * (high / 4)
unlinked_high low high e = omega arith

unlinked_low : (low high : ℕ) → low + 256 * (high % 4) ≡ 0 → low ≡ 0
unlinked_low low high e = omega arith

-- eight bits make their byte
abbrev bits_of : ℕ → ℕ
bits_of b = 128 * (b / 128 % 2) + 64 * (b / 64 % 2) + 32 * (b / 32 % 2) + 16 * (b / 16 % 2) + 8 * (b / 8 % 2) + 4 * (b / 4 % 2) + 2 * (b / 2 % 2) + b / 1 % 2

bits_test : T (upto (λ b. eqb b (bits_of b)) 0 256)
bits_test = tt

bits_byte : (b : ℕ) → b < 256 → b ≡ bits_of b
bits_byte b h = eqb→eq b (bits_of b) (on (λ b. eqb b (bits_of b)) 0 256 bits_test b (omega arith) (omega arith))

module _ (image : List ℕ) where
  -- the last sector of a chain links to 0
  last_ends : {file : ℕ} (x sector : ℕ) {xs : List ℕ} → next_of image 0 x ≡ sector → Chained image file sector xs → next_of image 0 (last_or x xs) ≡ 0
  unfolding last_or
  last_ends x sector e (over z) = e ∙ z
  last_ends x sector e (link n r g c) = last_ends sector (next_of image 0 sector) refl c

  cut_already : (last : ℕ) → next_of image 0 last ≡ 0 → AllOf Already (cut_changes image last)
  cut_already last e =
      let low = sector_byte image 0 last 126 in
      let high = sector_byte image 0 last 125 in
      and_so (unlinked_high low high e) (and_so (unlinked_low low high e) no_change)

  module _ (i : Image image) where
    count_already : (entry n : ℕ) → count_of image 0 entry ≡ n → AllOf Already (count_changes image entry n)
    count_already entry n e =
        let low = entry_byte image 0 entry 1 in
        let high = entry_byte image 0 entry 2 in
        and_so (entry_at image entry 1 ∙ low_byte low high n (i.bytes _) e) (and_so (entry_at image entry 2 ∙ high_byte low high n (i.bytes _) e) no_change)

    file_already : (entry : ℕ) {sector : ℕ} {xs : List ℕ} → Chained image entry sector xs → first_of image 0 entry ≡ sector → count_of image 0 entry ≡ length xs
        → AllOf Already (file_changes image entry (last_or 0 xs) (length xs))
    unfolding file_changes last_or
    file_already entry (over z) f e = rw (eq-eqb (first_of image 0 entry) 0 (f ∙ z)) (count_already entry 0 e)
    file_already entry {sector} (link {rest = rest} n r g c) f e =
        rw (ne_eqb (suc (length rest)) 0 (λ z. omega arith))
        (all_append (cut_already (last_or sector rest) (last_ends sector (next_of image 0 sector) refl c)) (count_already entry (suc (length rest)) e))

    files_already : {entry : ℕ} {files : List File} → FilesFrom image entry files → Counted image files → AllOf Already (files_changes image files)
    unfolding files_changes
    files_already (no_more l) c = no_change
    files_already (ended l z) c = no_change
    files_already (passed l n u f) c = files_already f c
    files_already {entry} (used l u d f) (counts e c) = all_append (file_already entry d refl e) (files_already f c)

    free_already : (n : ℕ) → sector_byte image 0 360 3 + 256 * sector_byte image 0 360 4 ≡ n → AllOf Already (free_changes image n)
    free_already n e =
        let low = sector_byte image 0 360 3 in
        let high = sector_byte image 0 360 4 in
        and_so (low_byte low high n (i.bytes _) e) (and_so (high_byte low high n (i.bytes _) e) no_change)

    -- the map
    module _ (claimed : ℕ → Bool) (m : (s : ℕ) → 1 ≤ s → s ≤ 719 → map_says image s ≡ is_free claimed s) where
      bit_already : (s : ℕ) → s ≤ 719 → map_bit image claimed s ≡ sector_byte image 0 360 (10 + s / 8) / weight s % 2
      bit_already s h =
          by_eq s 0 (λ z. rw (eq-eqb s 0 z, z) (bit_one (sector_byte image 0 360 10 / 128 % 2) (omega arith)))
          (λ n. rw (ne_eqb s 0 n, ← m s (omega arith) h) (bit_one (sector_byte image 0 360 (10 + s / 8) / weight s % 2) (omega arith)))

      bit_of : (byte k s w : ℕ) → byte < 90 → k < 8 → s ≡ 8 * byte + k → get_or (128 ∷ 64 ∷ 32 ∷ 16 ∷ 8 ∷ 4 ∷ 2 ∷ 1 ∷ []) k 0 ≡ w
          → map_bit image claimed s ≡ sector_byte image 0 360 (10 + byte) / w % 2
      bit_of byte k s w b h e v =
          let d : s / 8 ≡ byte = omega arith in
          let r : s % 8 ≡ k = omega arith in
          bit_already s (omega arith) ∙ rw (d, r, v)

      byte_already : (byte : ℕ) → byte < 90 → sector_byte image 0 360 (10 + byte) ≡ map_byte image claimed (8 * byte)
      unfolding map_byte
      byte_already byte h =
          bits_byte (sector_byte image 0 360 (10 + byte)) (i.bytes _)
          ∙ sym (rw (
            bit_of byte 0 (8 * byte) 128 h (omega arith) (omega arith) refl,
            bit_of byte 1 (8 * byte + 1) 64 h (omega arith) refl refl,
            bit_of byte 2 (8 * byte + 2) 32 h (omega arith) refl refl,
            bit_of byte 3 (8 * byte + 3) 16 h (omega arith) refl refl,
            bit_of byte 4 (8 * byte + 4) 8 h (omega arith) refl refl,
            bit_of byte 5 (8 * byte + 5) 4 h (omega arith) refl refl,
            bit_of byte 6 (8 * byte + 6) 2 h (omega arith) refl refl,
            bit_of byte 7 (8 * byte + 7) 1 h (omega arith) refl refl,
          ))

      map_already : (left byte : ℕ) → byte + left ≤ 90 → AllOf Already (map_in image claimed left byte)
      unfolding map_in
      map_already zero byte h = no_change
      map_already (suc left) byte h = and_so (byte_already byte (omega (arith, add-suc byte left))) (map_already left (byte + 1) (omega (arith, add-suc byte left)))

    all_already : (s : SoundImage image) → AllOf Already (right_bytes image s.files)
    unfolding right_bytes
    all_already s =
        all_append (files_already s.theirs s.right)
        (all_append (free_already (length (all_free (in_files s.files))) s.free) (map_already (in_files s.files) s.mapped 90 0 (omega arith)))

pub untouched : (image : List ℕ) → Image image → SoundImage image → changes_of image ≡ []
unfolding changes_of
untouched image i s = ap (λ (files : List File). differing (right_bytes image files)) (refound image s) ∙ differing_none (all_already image i s)
