-- How a walk remembers what is claimed: a byte for each of the sectors 0 to 719, 1 where it is claimed; and what it leaves.
-- Assumes nothing.
use Rattle.std.specs.Prelude.{Bool, List, [], ◌∷◌, ℕ, ◌+◌, eqb, length, get_or, set, Option, Some, None}
use Rattle.base.specs.Choice.{pick}
use Rattle.image.specs.declared.Holding.{Holding}
use Rattle.image.specs.Image.{next_of, data_count, holding}
use Rattle.chains.specs.declared.Walk.{Walk}
use Rattle.chains.specs.Chains.{stops_at, kept_in, last_or}

abbrev pub marked : (marks : List ℕ) → (sector : ℕ) → Bool
marked marks sector = eqb (get_or marks sector 0) 1

unfoldable pub mark_all : (sectors marks : List ℕ) → List ℕ
mark_all [] marks = marks
mark_all (sector ∷ sectors) marks = mark_all sectors (set marks sector 1)

-- what a sector holds for a file that may keep it
unfoldable pub step_of : (image : List ℕ) → (marks : List ℕ) → (file sector : ℕ) → Option Holding
step_of image marks file sector = pick (stops_at image (marked marks) file sector) None (Some (holding (data_count image 0 sector) (next_of image 0 sector)))

-- a walk: the last sector that is kept, 0 where none is, how many are, and the marks then
pub record Walked : Type 0 where
  pub last : ℕ
  pub count : ℕ
  pub marks : List ℕ

abbrev pub as_walked : Walk → (marks : List ℕ) → Walked
as_walked w marks = record { last = w.last; count = w.count; marks = marks }

-- over these sectors, from where a walk has come to
abbrev pub walked_over : (last count : ℕ) → (marks sectors : List ℕ) → Walked
walked_over last count marks sectors = record { last = last_or last sectors; count = count + length sectors; marks = mark_all sectors marks }

abbrev pub walk_of : (image marks : List ℕ) → (file first : ℕ) → Walked
walk_of image marks file first = walked_over 0 0 marks (kept_in image file (marked marks) 719 first)
