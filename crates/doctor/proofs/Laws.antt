-- What the doctor returns and leaves, from what it tests and what its callees ensure.
-- Assumes nothing.
use mathlib.Core.Path.{◌≡◌, ◌∙◌, refl, sym, ap, fun_ext}
use mathlib.Core.Bool.{Bool, true, false}
use mathlib.Core.List.{List, [], ◌∷◌, ◌++◌, append-nil, append_assoc}
use Prim.Native.Nat.{ℕ, zero, suc, ◌+◌, ◌-◌, ◌*◌, ◌<◌, ◌≤◌}
use native.Mathlib.Omega.{arith}
use native.Mathlib.Numerals.{add-one}
use borrow.Author.Tests.{eq-eqb, ne_eqb}
use lib.Dec.{eqb}
use lib.ListN.{length, get_or, set, replicate, length-append, length-set, length-replicate, get_or-replicate, get_or-eq_default}
use lib.Seq.{sets}
use Rattle.base.proofs.Choices.{by_test, by_lt, choose_go}
use Rattle.image.specs.Image.{flag_of, in_use, first_of}
use Rattle.chains.specs.declared.Walk.{Walk}
use Rattle.chains.specs.Chains.{claims, kept_by, File, files_in, files_of, sectors_of, in_files, among, last_or}
use Rattle.chains.specs.Marks.{marked, mark_all, Walked, as_walked, walk_of}
use Rattle.chains.proofs.Truths.{or_none}
use Rattle.chains.proofs.Claims.{claims_none, claims_both}
use Rattle.chains.proofs.Laws.{marks_all}
use Rattle.changes.specs.Changes.{Change, differing, list_bytes, Listed, as_listed, listed_on, replay, replay_list}
use Rattle.changes.proofs.Laws.{noted_few, noted_two, differing_few}
use Rattle.changes.proofs.Replaying.{replay_list_lem}
use Rattle.repairs.specs.Repairs.{empty_changes, file_changes, files_changes, map_in, sectors_changes, right_bytes}
use Rattle.doctor.specs.Visits.{Visited, as_visited, visited_on, file_at, files_at}
use Rattle.doctor.specs.Doctor.{changes_of, leaving, doctor_of}

-- some files, and others behind them
files_both : (image : List ℕ) (a b : List File) → files_changes image (a ++ b) ≡ files_changes image a ++ files_changes image b
unfolding files_changes
files_both image [] b = refl
files_both image (f ∷ fs) b =
    ap (λ (r : List Change). file_changes image f.number (last_or 0 f.sectors) (length f.sectors) ++ r) (files_both image fs b)
    ∙ sym (append_assoc (file_changes image f.number (last_or 0 f.sectors) (length f.sectors)) (files_changes image fs) (files_changes image b))

sectors_both : (a b : List File) → sectors_of (a ++ b) ≡ sectors_of a ++ sectors_of b
unfolding sectors_of
sectors_both [] b = refl
sectors_both (f ∷ fs) b = ap (λ (r : List ℕ). f.sectors ++ r) (sectors_both fs b) ∙ sym (append_assoc f.sectors (sectors_of fs) (sectors_of b))

mark_both : (a b marks : List ℕ) → mark_all (a ++ b) marks ≡ mark_all b (mark_all a marks)
unfolding mark_all
mark_both [] b marks = refl
mark_both (s ∷ ss) b marks = mark_both ss b (set marks s 1)

module _ (image : List ℕ) (number : ℕ) (list marks : List ℕ) (a : List File) (between : ℕ) (middle marked' : List ℕ)
    (e : as_visited between middle marked' ≡ visited_on image number list marks a) where
  noted : as_listed between middle ≡ listed_on number list (differing (files_changes image a))
  noted = ap (λ (v : Visited). v.noted) e

  marks_then : marked' ≡ mark_all (sectors_of a) marks
  marks_then = ap (λ (v : Visited). v.marks) e

  visited_two : (b : List File) → visited_on image between middle marked' b ≡ visited_on image number list marks (a ++ b)
  visited_two b =
      let n = noted_two number list (files_changes image a) between middle noted (files_changes image b) _ refl in
      rw (n, ← files_both image a b, marks_then, ← mark_both (sectors_of a) (sectors_of b) marks, ← sectors_both a b)

-- a file by its walk
pub treated : (image : List ℕ) (number : ℕ) (list marks : List ℕ) (entry first : ℕ) (walk : Walk) (marks' : List ℕ) (after : ℕ) (out : List ℕ)
    → first ≡ first_of image 0 entry → as_walked walk marks' ≡ walk_of image marks entry first
    → as_listed after out ≡ listed_on number list (differing (file_changes image entry walk.last walk.count))
    → as_visited after out marks' ≡ visited_on image number list marks (file_at image (marked marks) entry ∷ [])
unfolding files_changes sectors_of
treated image number list marks entry first walk marks' after out f w e =
    let kept = kept_by image (marked marks) entry in
    let v : as_walked walk marks' ≡ walk_of image marks entry (first_of image 0 entry) = rw f at w in
    let l : walk.last ≡ last_or 0 kept = ap (λ (x : Walked). x.last) v in
    let c : walk.count ≡ length kept = omega (arith, ap (λ (x : Walked). x.count) v) in
    let m : marks' ≡ mark_all kept marks = ap (λ (x : Walked). x.marks) v in
    rw (append-nil (file_changes image entry (last_or 0 kept) (length kept)), append-nil kept, ← l, ← c, ← m, e)

-- an entry by its flag
module _ (image : List ℕ) (number : ℕ) (list marks : List ℕ) (entry flag : ℕ) (t : Bool) (f : flag ≡ flag_of image 0 entry) (u : t ≡ in_use flag) where
  pub visit_used : (r : Visited) → t ≡ true → r ≡ visited_on image number list marks (file_at image (marked marks) entry ∷ [])
      → r ≡ visited_on image number list marks (files_at image (marked marks) entry)
  visit_used r e q = let x : in_use (flag_of image 0 entry) ≡ true = ap in_use (sym f) ∙ sym u ∙ e in rw x q

  pub visit_passed : t ≡ false → as_visited number list marks ≡ visited_on image number list marks (files_at image (marked marks) entry)
  unfolding files_changes sectors_of differing list_bytes mark_all
  visit_passed e =
      let x : in_use (flag_of image 0 entry) ≡ false = ap in_use (sym f) ∙ sym u ∙ e in
      let z : number + 0 ≡ number = omega arith in
      rw (x, z)

-- how many changes a file has at most
empty_few : (image : List ℕ) (entry : ℕ) → length (empty_changes image entry) ≤ 4
empty_few image entry = choose_go (λ (l : List Change). length l ≤ 4) (eqb (first_of image 0 entry) 0) _ _ (λ t. omega arith) (λ t. omega arith)

file_few : (image : List ℕ) (entry last count : ℕ) → length (file_changes image entry last count) ≤ 4
unfolding file_changes
file_few image entry last count = choose_go (λ (l : List Change). length l ≤ 4) (eqb count 0) _ _ (λ t. empty_few image entry) (λ t. omega arith)

files_few : (image : List ℕ) (files : List File) → length (files_changes image files) ≤ 4 * length files
unfolding files_changes
files_few image [] = omega arith
files_few image (f ∷ fs) =
    omega (
      arith,
      file_few image f.number (last_or 0 f.sectors) (length f.sectors),
      files_few image fs,
      length-append (file_changes image f.number (last_or 0 f.sectors) (length f.sectors)) (files_changes image fs),
    )

at_few : (image : List ℕ) (claimed : ℕ → Bool) (entry : ℕ) → length (files_at image claimed entry) ≤ 1
at_few image claimed entry = choose_go (λ (l : List File). length l ≤ 1) (in_use (flag_of image 0 entry)) _ _ (λ t. omega arith) (λ t. omega arith)

-- the loop over the directory: an entry's file, and the files behind it
module _ (image : List ℕ) (entry : ℕ) (h : entry < 64) (n : flag_of image 0 entry ≡ 0 → ⊥) (marks : List ℕ) (l : length marks ≡ 720) where
  files_step : files_in image (64 - entry) entry (marked marks)
      ≡ files_at image (marked marks) entry
      ++ files_in image (64 - (entry + 1)) (entry + 1) (marked (mark_all (sectors_of (files_at image (marked marks) entry)) marks))
  unfolding files_in sectors_of mark_all
  files_step =
      let z : 64 - entry ≡ suc (64 - (entry + 1)) = omega (arith, add-one (64 - (entry + 1))) in
      let kept = kept_by image (marked marks) entry in
      let m = marks_all image entry marks 719 (first_of image 0 entry) l in
      by_test (in_use (flag_of image 0 entry))
      (λ t. rw (z, ne_eqb (flag_of image 0 entry) 0 n, t, append-nil kept, m))
      (λ t. rw (z, ne_eqb (flag_of image 0 entry) 0 n, t))

module _ (image marks₀ list₀ marks list : List ℕ) (number entry : ℕ)
    (e : visited_on image number list marks (files_in image (64 - entry) entry (marked marks)) ≡ visited_on image 0 list₀ marks₀ (files_in image 64 0 (marked marks₀))) where
  stands : files_in image (64 - entry) entry (marked marks) ≡ [] → as_visited number list marks ≡ visited_on image 0 list₀ marks₀ (files_in image 64 0 (marked marks₀))
  unfolding files_changes sectors_of differing list_bytes mark_all
  stands q = let z : number + 0 ≡ number = omega arith in rw (q, z) at e

  pub files_ended : (flag : ℕ) → entry < 64 → flag ≡ flag_of image 0 entry → flag ≡ 0
      → as_visited number list marks ≡ visited_on image 0 list₀ marks₀ (files_in image 64 0 (marked marks₀))
  unfolding files_in
  files_ended flag h f z =
      stands
      (let y : 64 - entry ≡ suc (64 - (entry + 1)) = omega (arith, add-one (64 - (entry + 1))) in rw (y, eq-eqb (flag_of image 0 entry) 0 (sym f ∙ z)))

  pub files_done : 64 ≤ entry → as_visited number list marks ≡ visited_on image 0 list₀ marks₀ (files_in image 64 0 (marked marks₀))
  unfolding files_in
  files_done h = stands (let y : 64 - entry ≡ 0 = omega arith in rw y)

  module _ (flag after : ℕ) (out marks' : List ℕ) (v : as_visited after out marks' ≡ visited_on image number list marks (files_at image (marked marks) entry)) where
    pub visit_room : number ≤ 4 * entry → after ≤ 4 * (entry + 1)
    visit_room k =
        let a = noted_few number list (files_changes image (files_at image (marked marks) entry)) after out
        (noted image number list marks (files_at image (marked marks) entry) after out marks' v) in
        let b = files_few image (files_at image (marked marks) entry) in
        let c = at_few image (marked marks) entry in
        omega arith

    pub files_turn : entry < 64 → flag ≡ flag_of image 0 entry → (flag ≡ 0 → ⊥) → length marks ≡ 720
        → visited_on image after out marks' (files_in image (64 - (entry + 1)) (entry + 1) (marked marks')) ≡ visited_on image 0 list₀ marks₀ (files_in image 64 0 (marked marks₀))
    files_turn h f n l =
        let m = marks_then image number list marks (files_at image (marked marks) entry) after out marks' v in
        let s = files_step image entry h (λ q. n (f ∙ q)) marks l in
        visited_two image number list marks (files_at image (marked marks) entry) after out marks' v (files_in image (64 - (entry + 1)) (entry + 1) (marked marks'))
        ∙ (rw (s, ← m) at e)

-- the marks of all files are what they claim
mark_length : (sectors marks : List ℕ) → length (mark_all sectors marks) ≡ length marks
unfolding mark_all
mark_length [] marks = refl
mark_length (s ∷ ss) marks = mark_length ss (set marks s 1) ∙ length-set marks s 1

module _ (image : List ℕ) where
  marks_files : (marks : List ℕ) (left entry : ℕ) → length marks ≡ 720
      → marked (mark_all (sectors_of (files_in image left entry (marked marks))) marks) ≡ claims (sectors_of (files_in image left entry (marked marks))) (marked marks)
  unfolding files_in sectors_of mark_all
  marks_files marks zero entry l = claims_none (marked marks)
  marks_files marks (suc left) entry l =
      by_test (eqb (flag_of image 0 entry) 0) (λ t. rw t (claims_none (marked marks)))
      (λ t. by_test (in_use (flag_of image 0 entry))
      (λ u. let kept = kept_by image (marked marks) entry in
      let m = marks_all image entry marks 719 (first_of image 0 entry) l in
      let rest = sectors_of (files_in image left (entry + 1) (marked (mark_all kept marks))) in
      rw (t, u, ← m)
      (ap marked (mark_both kept rest marks) ∙ marks_files (mark_all kept marks) left (entry + 1) (mark_length kept marks ∙ l) ∙ ap (claims rest) m
      ∙ claims_both kept rest (marked marks)))
      (λ u. rw (t, u) (marks_files marks left (entry + 1) l)))

  files_short : (left entry : ℕ) (claimed : ℕ → Bool) → length (files_in image left entry claimed) ≤ left
  unfolding files_in
  files_short zero entry claimed = omega arith
  files_short (suc left) entry claimed =
      choose_go (λ (l : List File). length l ≤ suc left) (eqb (flag_of image 0 entry) 0) _ _ (λ t. omega arith)
      (λ t. choose_go (λ (l : List File). length l ≤ suc left) (in_use (flag_of image 0 entry)) _ _
      (λ u. omega (arith, files_short left (entry + 1) (claims (kept_by image claimed entry) claimed))) (λ u. omega (arith, files_short left (entry + 1) claimed)))

-- no sector is marked at first
abbrev no_marks : List ℕ
no_marks = replicate 720 0

unmarked : (s : ℕ) → marked no_marks s ≡ false
unmarked s =
    ne_eqb (get_or no_marks s 0) 1
    (λ q. by_lt s 720 (λ h. let z : get_or no_marks s 0 ≡ 0 = get_or-replicate 720 s 0 0 h in omega arith)
    (λ h. let z : get_or no_marks s 0 ≡ 0 = get_or-eq_default no_marks 0 h in omega arith))

-- all that is not right: of the files, then of the sectors
module _ (image list : List ℕ) (files : ℕ) (middle marks : List ℕ)
    (e : as_visited files middle marks ≡ visited_on image 0 list no_marks (files_in image 64 0 (marked no_marks))) where
  pub files_room : files < 420
  files_room =
      let a = noted_few 0 list (files_changes image (files_in image 64 0 (marked no_marks))) files middle
      (noted image 0 list no_marks (files_in image 64 0 (marked no_marks)) files middle marks e) in
      let b = files_few image (files_in image 64 0 (marked no_marks)) in
      let c = files_short image 64 0 (marked no_marks) in
      omega arith

  none_marked : marked no_marks ≡ (λ sector. false)
  none_marked = fun_ext unmarked

  all_marked_lem : marked marks ≡ in_files (files_of image)
  all_marked_lem =
      ap marked (marks_then image 0 list no_marks (files_in image 64 0 (marked no_marks)) files middle marks e)
      ∙ marks_files image no_marks 64 0 (length-replicate {A = ℕ} 720 0)
      ∙ (rw none_marked (fun_ext (λ s. or_none (among s (sectors_of (files_of image))))))

  pub examined : (after : ℕ) (out : List ℕ) → as_listed after out ≡ listed_on files middle (differing (sectors_changes image (marked marks)))
      → as_listed after out ≡ listed_on 0 list (changes_of image)
  unfolding changes_of right_bytes
  examined after out f =
      let g : as_listed after out ≡ listed_on files middle (differing (sectors_changes image (in_files (files_of image)))) = rw all_marked_lem at f in
      noted_two 0 list (files_changes image (files_of image)) files middle
      (rw none_marked at (noted image 0 list no_marks (files_in image 64 0 (marked no_marks)) files middle marks e))
      (sectors_changes image (in_files (files_of image))) (as_listed after out) g

-- "64 files x 4 + 2 + 90"
map_few : (image : List ℕ) (claimed : ℕ → Bool) (left byte : ℕ) → length (map_in image claimed left byte) ≡ left
unfolding map_in
map_few image claimed zero byte = refl
map_few image claimed (suc left) byte = ap suc (map_few image claimed left (byte + 1))

pub few : (image : List ℕ) → length (changes_of image) ≤ 348
unfolding changes_of right_bytes
few image =
    let files = files_of image in
    let a = differing_few (right_bytes image files) in
    let b = length-append (files_changes image files) (sectors_changes image (in_files files)) in
    let c = files_few image files in
    let d = files_short image 64 0 (λ sector. false) in
    let f = map_few image (in_files files) 90 0 in
    omega arith

-- the image becomes what the list says, or another length is refused
module _ (image list : List ℕ) where
  pub repaired_both : (number : ℕ) (out image' : List ℕ) → length image ≡ 92160 → length list ≡ 2560 → as_listed number out ≡ listed_on 0 list (changes_of image)
      → image' ≡ replay_list out number image → leaving (256 * number) image' out ≡ doctor_of image list
  unfolding doctor_of
  repaired_both number out image' l m e r =
      let n : number ≡ length (changes_of image) = omega (arith, ap (λ (x : Listed). x.number) e) in
      let o : out ≡ sets list 0 (list_bytes (changes_of image)) = ap (λ (x : Listed). x.list) e in
      let s : image' ≡ replay (changes_of image) image =
      r ∙ (rw (n, o) (replay_list_lem list image (changes_of image) (omega (arith, few image)))) in
      let z : 0 + 256 * length (changes_of image) ≡ 256 * length (changes_of image) = omega arith in
      rw (eq-eqb (length image) 92160 l, eq-eqb (length list) 2560 m, n, o, s, z)
