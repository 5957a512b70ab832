-- A call of the doctor answers and leaves what the Ask says.
-- Assumes nothing.
use mathlib.Core.Path.{◌≡◌, ◌∙◌, sym, ap}
use mathlib.Core.List.{List, ◌++◌}
use Prim.Native.Nat.{ℕ, ◌+◌, ◌*◌, ◌/◌, ◌<◌, ◌≤◌}
use native.Mathlib.Nat.{zero-add}
use native.Mathlib.Omega.{arith}
use borrow.Author.Tests.{eq-eqb, eqb-true}
use lib.Dec.{eqb}
use lib.ListN.{length, get_or, take, drop}
use lib.Seq.{sets, sets-eq, take_at, drop_at}
use Rattle.base.specs.Choice.{and}
use Rattle.base.proofs.Choices.{by_test, and_left, and_right}
use Rattle.image.specs.Image.{image_length}
use Rattle.changes.specs.Changes.{list_length, list_bytes, replay_list}
use Rattle.changes.proofs.Laws.{list_length_lem}
use Rattle.changes.proofs.Replaying.{replay_list_lem}
use Rattle.doctor.specs.Doctor.{changes_of, Doctored, leaving, doctor_of}
use Rattle.sound.specs.Repair.{Image, repaired}
use Rattle.sound.specs.Treated.{Treated, Treats}
use Rattle.sound.proofs.Whole.{repair, repair_shares}

module _ (image list image' list' : List ℕ) (given : ℕ) (e : leaving given image' list' ≡ doctor_of image list) where
  module _ (bytes : (place : ℕ) → get_or image place 0 < 256) (l : length image ≡ image_length) (m : length list ≡ list_length) where
    whole : Image image
    whole = record { long = l; bytes = bytes }

    done : leaving given image' list' ≡ leaving (0 + 256 * length (changes_of image)) (repaired image) (sets list 0 (list_bytes (changes_of image)))
    unfolding doctor_of
    done = rw (eq-eqb (length image) image_length l, eq-eqb (length list) list_length m) at e

    gives : given ≡ 256 * length (changes_of image)
    gives = omega (arith, ap (λ (d : Doctored). d.given) done)

    numbers : given / 256 ≡ length (changes_of image)
    numbers = let g = gives in omega arith

    leaves : list' ≡ sets list 0 (list_bytes (changes_of image))
    leaves = ap (λ (d : Doctored). d.list) done

    fits : 5 * length (changes_of image) ≤ length list
    fits = omega (arith, (repair image whole).few)

    -- the list as it is left: the changes, and what lay behind them
    laid : list' ≡ list_bytes (changes_of image) ++ drop (length (list_bytes (changes_of image))) list
    laid =
        let z = zero-add (length (list_bytes (changes_of image))) in
        leaves ∙ (rw z at (sets-eq (list_bytes (changes_of image)) list 0 (omega (arith, fits, list_length_lem (changes_of image)))))

    far : length (list_bytes (changes_of image)) ≡ 5 * (given / 256)
    far = list_length_lem (changes_of image) ∙ ap (λ (n : ℕ). 5 * n) (sym numbers)

    treated : Treated image list image' list' given
    treated =
        record {
          answer = (let g = gives in omega arith);
          number = numbers;
          lists = ap (take (5 * (given / 256))) laid ∙ take_at (list_bytes (changes_of image)) (drop (length (list_bytes (changes_of image))) list) (5 * (given / 256)) far;
          behind =
              ap (drop (5 * (given / 256))) laid
              ∙ drop_at (list_bytes (changes_of image)) (drop (length (list_bytes (changes_of image))) list) (5 * (given / 256)) far
              ∙ ap (λ (n : ℕ). drop n list) far;
          replays =
              ap (λ (n : ℕ). replay_list list' n image) numbers
              ∙ ap (λ (x : List ℕ). replay_list x (length (changes_of image)) image) leaves
              ∙ replay_list_lem list image (changes_of image) fits
              ∙ sym (ap (λ (d : Doctored). d.image) done);
          becomes = ap (λ (d : Doctored). d.image) done;
          repair = repair image whole;
          shared = repair_shares image whole;
        }

  other : ((length image ≡ image_length) × (length list ≡ list_length) → ⊥) → leaving given image' list' ≡ leaving 1 image list
  unfolding doctor_of
  other n =
      by_test (and (eqb (length image) image_length) (eqb (length list) list_length))
      (λ t. absurd
      (n (
        eqb-true (length image) image_length (and_left (eqb (length image) image_length) (eqb (length list) list_length) t),
        eqb-true (length list) list_length (and_right (eqb (length image) image_length) (eqb (length list) list_length) t),
      )))
      (λ t. rw t at e)

  pub treats : ((place : ℕ) → get_or image place 0 < 256) → Treats image list image' list' given
  treats bytes =
      record {
        done = treated bytes;
        refused = λ n. let q = other n in (ap (λ (d : Doctored). d.given) q, (ap (λ (d : Doctored). d.image) q, ap (λ (d : Doctored). d.list) q));
      }
