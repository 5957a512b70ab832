-- Replaying from a list's own bytes is replaying its changes.
-- Assumes nothing.
use mathlib.Core.Path.{◌≡◌, ◌∙◌, refl, sym, ap}
use mathlib.Core.List.{List, [], ◌∷◌, ◌++◌}
use Prim.Native.Nat.{ℕ, ◌+◌, ◌*◌, ◌/◌, ◌%◌, ◌≤◌}
use native.Mathlib.Nat.{add-zero}
use native.Mathlib.Omega.{arith}
use lib.ListN.{length, get_or, set, drop}
use lib.Seq.{sets, sets-eq, get_or-drop, drop-drop}
use Rattle.image.specs.Image.{sector_place}
use Rattle.changes.proofs.Laws.{list_length_lem}
use Rattle.changes.specs.Changes.{Change, change_bytes, list_bytes, replay, replay_in, replay_list}

-- a number from its low and its high byte
pub low_high : (n low high : ℕ) → low ≡ n % 256 → high ≡ n / 256 → low + 256 * high ≡ n
low_high n low high e f = omega arith

-- the changes from one on, if their bytes stand there
module _ (list : List ℕ) where
  byte_of : (from k : ℕ) (bytes : List ℕ) → drop from list ≡ bytes → get_or list (from + k) 0 ≡ get_or bytes k 0
  byte_of from k bytes e = sym (get_or-drop from list k 0) ∙ ap (λ (l : List ℕ). get_or l k 0) e

  replay_from : (changes : List Change) (rest : List ℕ) (from : ℕ) (image : List ℕ) → drop (5 * from) list ≡ list_bytes changes ++ rest
      → replay_in list (length changes) from image ≡ replay changes image
  unfolding replay_in replay list_bytes
  replay_from [] rest from image e = refl
  replay_from (c ∷ cs) rest from image e =
      let bytes = change_bytes c ++ (list_bytes cs ++ rest) in
      let low : get_or list (5 * from) 0 ≡ c.sector % 256 = ap (λ (k : ℕ). get_or list k 0) (sym (add-zero (5 * from))) ∙ byte_of (5 * from) 0 bytes e in
      let high : get_or list (5 * from + 1) 0 ≡ c.sector / 256 = byte_of (5 * from) 1 bytes e in
      let place : get_or list (5 * from + 2) 0 ≡ c.place = byte_of (5 * from) 2 bytes e in
      let new : get_or list (5 * from + 4) 0 ≡ c.new = byte_of (5 * from) 4 bytes e in
      let five : 5 * (from + 1) ≡ 5 * from + 5 = omega arith in
      let further : drop (5 * (from + 1)) list ≡ list_bytes cs ++ rest =
      ap (λ (k : ℕ). drop k list) five ∙ sym (drop-drop 5 (5 * from) list) ∙ ap (drop 5) e in
      let now : List ℕ = set image (sector_place 0 c.sector + c.place) c.new in
      let stored : set image (sector_place 0 (get_or list (5 * from) 0 + 256 * get_or list (5 * from + 1) 0) + get_or list (5 * from + 2) 0) (get_or list (5 * from + 4) 0) ≡ now =
      rw (low_high c.sector (get_or list (5 * from) 0) (get_or list (5 * from + 1) 0) low high, place, new) in
      ap (replay_in list (length cs) (from + 1)) stored ∙ replay_from cs rest (from + 1) now further

-- "Replaying the list on the old image": from its bytes
pub replay_list_lem : (list image : List ℕ) (changes : List Change) → 5 * length changes ≤ length list
    → replay_list (sets list 0 (list_bytes changes)) (length changes) image ≡ replay changes image
replay_list_lem list image changes h =
    let bytes = list_bytes changes in
    let k : 0 + length bytes ≤ length list = omega (arith, list_length_lem changes) in
    replay_from (sets list 0 bytes) changes (drop (0 + length bytes) list) 0 image (sets-eq bytes list 0 k)
