-- What the doctor's walk over the directory has come to: the list so far, and the marks of the sectors that are claimed.
-- Assumes nothing.
use Rattle.std.specs.Prelude.{Bool, List, [], ◌∷◌, ℕ}
use Rattle.base.specs.Choice.{choose}
use Rattle.image.specs.Image.{flag_of, in_use}
use Rattle.chains.specs.Chains.{File, kept_by, sectors_of}
use Rattle.chains.specs.Marks.{mark_all}
use Rattle.changes.specs.Changes.{Listed, as_listed, differing, listed_on}
use Rattle.repairs.specs.Repairs.{files_changes}

pub record Visited : Type 0 where
  pub noted : Listed
  pub marks : List ℕ

abbrev pub as_visited : (number : ℕ) → (list marks : List ℕ) → Visited
as_visited number list marks = record { noted = as_listed number list; marks = marks }

-- these files besides
abbrev pub visited_on : (image : List ℕ) → (number : ℕ) → (list marks : List ℕ) → List File → Visited
visited_on image number list marks files =
    record { noted = listed_on number list (differing (files_changes image files)); marks = mark_all (sectors_of files) marks }

abbrev pub file_at : (image : List ℕ) → (claimed : ℕ → Bool) → (entry : ℕ) → File
file_at image claimed entry = record { number = entry; sectors = kept_by image claimed entry }

-- an entry's file, if it is in use
abbrev pub files_at : (image : List ℕ) → (claimed : ℕ → Bool) → (entry : ℕ) → List File
files_at image claimed entry = choose (in_use (flag_of image 0 entry)) (λ u. file_at image claimed entry ∷ []) (λ u. [])
