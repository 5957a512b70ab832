-- Document 02, Ask 13: "lists each changed byte with sector, place, old and new"; "Replaying the list on the old image gives the new one."
-- Assumes nothing.
use Rattle.std.specs.Prelude.{List, [], ◌∷◌, ◌++◌, ℕ, zero, suc, ◌+◌, ◌*◌, ◌/◌, ◌%◌, eqb, length, get_or, set}
use Rattle.std.proofs.lemmas.List.Edits.{sets}
use Rattle.base.specs.Choice.{choose}
use Rattle.image.specs.Image.{sector_place, sector_byte}

pub record Change : Type 0 where
  pub sector : ℕ
  pub place : ℕ
  pub old : ℕ
  pub new : ℕ

-- a byte of an image that shall be this one, "with the old image's byte as old"
abbrev pub change_to : (image : List ℕ) → (sector place new : ℕ) → Change
change_to image sector place new = record { sector = sector; place = place; old = sector_byte image 0 sector place; new = new }

-- "A byte is listed if and only if it differs"
unfoldable pub differing : List Change → List Change
differing [] = []
differing (c ∷ cs) = choose (eqb c.old c.new) (λ u. differing cs) (λ u. c ∷ differing cs)

-- "a lent list of 512 changes, five bytes each (sector (2), place, old, new)"
abbrev pub list_length : ℕ
list_length = 512 * 5

abbrev pub change_bytes : Change → List ℕ
change_bytes c = c.sector % 256 ∷ c.sector / 256 ∷ c.place ∷ c.old ∷ c.new ∷ []

unfoldable pub list_bytes : List Change → List ℕ
list_bytes [] = []
list_bytes (c ∷ cs) = change_bytes c ++ list_bytes cs

-- a list that has so many changes, and its bytes
pub record Listed : Type 0 where
  pub number : ℕ
  pub list : List ℕ

abbrev pub as_listed : (number : ℕ) → (list : List ℕ) → Listed
as_listed number list = record { number = number; list = list }

-- these behind the others: "The list behind the last change stays as lent."
abbrev pub listed_on : (number : ℕ) → (list : List ℕ) → List Change → Listed
listed_on number list changes = record { number = number + length changes; list = sets list (5 * number) (list_bytes changes) }

-- "Replaying the list on the old image": each change's byte becomes its new one
unfoldable pub replay : List Change → (image : List ℕ) → List ℕ
replay [] image = image
replay (c ∷ cs) image = replay cs (set image (sector_place 0 c.sector + c.place) c.new)

-- the same from the list's own bytes: one change, and the next `left` from this one on
abbrev pub replayed : (list : List ℕ) → (from : ℕ) → (image : List ℕ) → List ℕ
replayed list from image =
    set image (sector_place 0 (get_or list (5 * from) 0 + 256 * get_or list (5 * from + 1) 0) + get_or list (5 * from + 2) 0) (get_or list (5 * from + 4) 0)

unfoldable pub replay_in : (list : List ℕ) → (left from : ℕ) → (image : List ℕ) → List ℕ
replay_in list zero from image = image
replay_in list (suc left) from image = replay_in list left (from + 1) (replayed list from image)

abbrev pub replay_list : (list : List ℕ) → (number : ℕ) → (image : List ℕ) → List ℕ
replay_list list number image = replay_in list number 0 image
