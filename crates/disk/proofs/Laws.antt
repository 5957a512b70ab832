-- What the functions return and leave, from what they test and what their callees ensure.
-- Assumes nothing.
use mathlib.Core.Path.{◌≡◌, ◌∙◌, sym, ap}
use mathlib.Core.Bool.{Bool, false}
use mathlib.Core.List.{List}
use Prim.Native.Nat.{ℕ, ◌-◌, ◌<◌, ◌≤◌}
use borrow.Author.Tests.{lt-ltb, le-ltb, eq-eqb, ne_eqb}
use lib.Dec.{eqb}
use lib.Seq.{sets}
use Rattle.base.specs.Choice.{choose}
use Rattle.std.specs.Prelude.{Option, Some, None}
use Rattle.handler.specs.Answer.{Answer, answer}
use Rattle.handler.specs.declared.Asked.{Asked}
use Rattle.handler.specs.declared.Done.{Done}
use Rattle.handler.specs.declared.Done.TheVariants.{Success, Refused}
use Rattle.image.specs.Image.{first_of, match_from}
use Rattle.disk.specs.Disk.{file_place, directory_place, file_opened, opened_with, place_opened}

-- a choice whose test is known
unchosen : {A : Type 0} (t : Bool) (a b : Unit {0} → A) → t ≡ false → choose t a b ≡ b tt
unchosen t a b e = rw e

-- OPEN of a file
module _ (place images : List ℕ) (unit : ℕ) (pattern : List ℕ) (entry : ℕ) (e : entry ≡ match_from images unit pattern 0) where
  pub open_found : (sector : ℕ) (out : List ℕ) → entry < 64 → sector ≡ first_of images unit entry → out ≡ sets place 0 (file_place unit entry sector)
      → answer Success out ≡ file_opened unit pattern place images
  unfolding file_opened
  open_found sector out h s o = rw (← e, lt-ltb entry 64 h, ← s, o)

  pub open_none : 64 ≤ entry → answer (Refused 0xAA) place ≡ file_opened unit pattern place images
  unfolding file_opened
  open_none h = rw (← e, le-ltb entry 64 h)

module _ (place images : List ℕ) (asked : Asked) (unit : ℕ) (u : unit ≡ asked.number - 1) (pattern : List ℕ) (g : asked.name ≡ Some pattern) where
  pub open_directory_is : (out : List ℕ) → asked.aux1 ≡ 6 → out ≡ sets place 0 (directory_place unit pattern) → answer Success out ≡ place_opened asked place images
  unfolding place_opened
  open_directory_is out a o = rw (g, eq-eqb asked.aux1 6 a, ← u, o)

  pub open_file_is : (x : Answer Done (List ℕ)) → (asked.aux1 ≡ 6 → ⊥) → x ≡ file_opened unit pattern place images → x ≡ place_opened asked place images
  unfolding place_opened
  open_file_is x a o =
      o ∙ ap (λ (n : ℕ). file_opened n pattern place images) u
      ∙ sym (ap (λ (n : Option (List ℕ)). opened_with asked n place images) g ∙ unchosen (eqb asked.aux1 6) _ _ (ne_eqb asked.aux1 6 a))

pub open_bad : (place images : List ℕ) (asked : Asked) → asked.name ≡ None → answer (Refused 0xA5) place ≡ place_opened asked place images
unfolding place_opened
open_bad place images asked g = rw g
