-- Document 02, Ask 13: files of small images by computation: what of theirs changes, and what of sector 360 is right then.
-- Assumes nothing.
use mathlib.Core.Path.{◌≡◌, refl}
use mathlib.Core.List.{List, [], ◌∷◌, ◌++◌}
use Prim.Native.Nat.{ℕ, ◌-◌}
use lib.ListN.{length, replicate}
use Rattle.chains.specs.Chains.{among, kept_in, File, files_in, files_of, sectors_of, in_files, free_in, all_free, last_or}
use Rattle.changes.specs.Changes.{Change, differing}
use Rattle.repairs.specs.Repairs.{file_changes, files_changes, map_byte}

-- an image by the last bytes of sector 4 and the first of the directory; all else is 0
abbrev image_by : (link entries : List ℕ) → List ℕ
image_by link entries = replicate 509 0 ++ (link ++ (replicate 45568 0 ++ (entries ++ replicate (46080 - length entries) 0)))

-- what of the files is not right
abbrev of_files : (image : List ℕ) → List Change
of_files image = differing (files_changes image (files_of image))

abbrev change : (sector place old new : ℕ) → Change
change sector place old new = record { sector = sector; place = place; old = old; new = new }

abbrev hello_file : File
hello_file = record { number = 0; sectors = 4 ∷ [] }

-- HELLO.TXT, whose chain is sector 4 alone: nothing changes
abbrev hello : List ℕ
hello = image_by (0 ∷ 0 ∷ 3 ∷ []) (0x42 ∷ 1 ∷ 0 ∷ 4 ∷ [])

hello_right : of_files hello ≡ []
unfolding files_in kept_in among files_changes file_changes differing last_or
hello_right = refl

-- "a link to 361, and count 2": cut behind sector 4
linked_cut : of_files (image_by (1 ∷ 0x69 ∷ 3 ∷ []) (0x42 ∷ 2 ∷ 0 ∷ 4 ∷ [])) ≡ change 4 125 1 0 ∷ change 4 126 0x69 0 ∷ change 361 1 2 1 ∷ []
unfolding files_in kept_in among files_changes file_changes differing last_or
linked_cut = refl

-- "first sector 2": deleted, and its sector is free then
reserved_deleted : of_files (image_by (0 ∷ 0 ∷ 3 ∷ []) (0x42 ∷ 1 ∷ 0 ∷ 2 ∷ [])) ≡ change 361 0 0x42 0x80 ∷ []
unfolding files_in kept_in among files_changes file_changes differing last_or
reserved_deleted = refl

-- "First 0 and count 1: count to 0"
empty_counted : of_files (image_by (0 ∷ 0 ∷ 0 ∷ []) (0x42 ∷ 1 ∷ [])) ≡ change 361 1 1 0 ∷ []
unfolding files_in kept_in among files_changes file_changes differing last_or
empty_counted = refl

-- "C2 02", "07 FFx44 00 7F FFx43": with HELLO.TXT 706 sectors are free
hello_free : length (all_free (in_files (hello_file ∷ []))) ≡ 0x2C2
unfolding free_in sectors_of among
hello_free = refl

hello_map : (map_byte hello (in_files (hello_file ∷ [])) 0 ≡ 0x07) × (map_byte hello (in_files (hello_file ∷ [])) 360 ≡ 0) × (map_byte hello (in_files (hello_file ∷ [])) 368 ≡ 0x7F)
unfolding map_byte sectors_of among
hello_map = (refl, refl, refl)

-- without a file 707 are, and byte 10 is 0F
none_free : length (all_free (in_files [])) ≡ 707
unfolding free_in sectors_of among
none_free = refl

none_map : map_byte hello (in_files []) 0 ≡ 0x0F
unfolding map_byte sectors_of among
none_map = refl
