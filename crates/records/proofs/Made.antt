-- The records that are written are good, and hold the characters that were pending.
-- Assumes nothing.
use mathlib.Core.Path.{◌≡◌, ◌∙◌, refl, sym, ap}
use mathlib.Core.List.{List, [], ◌∷◌, ◌++◌, append_assoc}
use Prim.Native.Nat.{ℕ, ◌+◌, ◌-◌, ◌≤◌}
use native.Mathlib.Omega.{arith}
use lib.ListN.{length, get_or, take, set, replicate, length-set, get_or-append, length-append, length-replicate, replicate-append-replicate}
use lib.Seq.{take_at, set_at, get_or_at, take-append-le, take-set-le, get_or-set_same, length-take-le, take_all}
use Rattle.base.specs.Parts.{part}
use Rattle.records.specs.Records.{checksum_of, record_data, sealed_record, full_record, partial_record, end_record}
use Rattle.records.specs.Kinds.{Summed, HoldsCharacters, full, partial, EndsFile, ends}
use Rattle.records.proofs.Laws.{data_length}

-- any record that is made of its control byte and its data
module _ (control : ℕ) (bytes : List ℕ) (e : length bytes ≡ 128) where
  pub made_summed : Summed (sealed_record control bytes)
  unfolding sealed_record
  made_summed =
      let all : List ℕ = 0x55 ∷ 0x55 ∷ control ∷ bytes in
      let n : length all ≡ 131 = omega arith in
      ap checksum_of (take_at all (checksum_of all ∷ []) 131 n) ∙ sym (get_or_at all (checksum_of all) [] 0 131 n)

  pub made_control : get_or (sealed_record control bytes) 2 0 ≡ control
  unfolding sealed_record
  made_control = refl

  pub made_count : get_or (sealed_record control bytes) 130 0 ≡ get_or bytes 127 0
  unfolding sealed_record
  made_count = get_or-append bytes (checksum_of (0x55 ∷ 0x55 ∷ control ∷ bytes) ∷ []) 0 127 (omega arith)

  pub made_characters : (n : ℕ) → n ≤ 128 → part 3 n (sealed_record control bytes) ≡ take n bytes
  unfolding sealed_record
  made_characters n h = take-append-le n bytes (checksum_of (0x55 ∷ 0x55 ∷ control ∷ bytes) ∷ []) (omega arith)

-- the full record
module _ (pending : List ℕ) (e : length pending ≡ 128) where
  pub full_holds : HoldsCharacters (full_record pending) 128
  full_holds = full (made_summed 0xFC pending e) (made_control 0xFC pending e) refl

  pub full_characters : part 3 128 (full_record pending) ≡ pending
  full_characters = made_characters 0xFC pending e 128 (omega arith) ∙ take_all 128 pending (omega arith)

-- a store at the last of some zeros
last_zero : (xs : List ℕ) (j k a m : ℕ) → j ≡ k + 1 → length (xs ++ replicate k 0) ≡ m → set (xs ++ replicate j 0) m a ≡ xs ++ (replicate k 0 ++ (a ∷ []))
last_zero xs j k a m e l =
    let o : List ℕ = 0 ∷ [] in
    rw (e, ← replicate-append-replicate {A = ℕ} k 1 0, ← append_assoc xs (replicate k 0) o, set_at (xs ++ replicate k 0) 0 [] a m l) (append_assoc xs (replicate k 0) (a ∷ []))

-- the partial one
module _ (pending : List ℕ) (n : ℕ) (e : length pending ≡ 128) (some : 1 ≤ n) (few : n ≤ 127) where
  counted : length (set (record_data pending n) 127 n) ≡ 128
  counted = simp length-set (data_length pending n e)

  pub partial_holds : HoldsCharacters (partial_record pending n) n
  partial_holds =
      partial (made_summed 0xFA (set (record_data pending n) 127 n) counted) (made_control 0xFA (set (record_data pending n) 127 n) counted)
      (made_count 0xFA (set (record_data pending n) 127 n) counted ∙ get_or-set_same (record_data pending n) 127 n 0 (omega (arith, data_length pending n e))) some few

  pub partial_characters : part 3 n (partial_record pending n) ≡ take n pending
  partial_characters =
      made_characters 0xFA (set (record_data pending n) 127 n) counted n (omega arith)
      ∙ take-set-le n (record_data pending n) 127 n few
      ∙ take_at (take n pending) (replicate (128 - n) 0) n (length-take-le n pending (omega arith))

  zeros_and_count : set (record_data pending n) 127 n ≡ take n pending ++ (replicate (127 - n) 0 ++ (n ∷ []))
  zeros_and_count = last_zero (take n pending) (128 - n) (127 - n) n 127 (omega arith) (simp (length-append, length-replicate) (omega (arith, length-take-le n pending (omega arith))))

  -- "$FA, the characters, zeros to byte 129, their number in 130"
  pub partial_bytes : partial_record pending n ≡ sealed_record 0xFA (take n pending ++ (replicate (127 - n) 0 ++ (n ∷ [])))
  partial_bytes = ap (sealed_record 0xFA) zeros_and_count

-- and the end record
end_data : length {A = ℕ} (replicate 128 0) ≡ 128
end_data = refl

pub end_ends : EndsFile end_record
end_ends = ends (made_summed 0xFE (replicate 128 0) end_data) (made_control 0xFE (replicate 128 0) end_data)

-- "Then always the end record: $FE, 128 zeros, checksum $A9."
pub end_bytes : end_record ≡ 0x55 ∷ 0x55 ∷ 0xFE ∷ (replicate 128 0 ++ (0xA9 ∷ []))
unfolding sealed_record checksum_of
end_bytes = refl

-- "128 characters $FF: checksum $A7 (modulo 256 it would be $26)."
pub all_ones : get_or (full_record (replicate 128 0xFF)) 131 0 ≡ 0xA7
unfolding sealed_record checksum_of
all_ones = refl

-- "55 55 FA 41 42 9B 00x124 03 C7"
pub worked_example : (rest : List ℕ) → partial_record (0x41 ∷ 0x42 ∷ 0x9B ∷ rest) 3 ≡ 0x55 ∷ 0x55 ∷ 0xFA ∷ 0x41 ∷ 0x42 ∷ 0x9B ∷ (replicate 124 0 ++ (0x03 ∷ 0xC7 ∷ []))
unfolding sealed_record checksum_of
worked_example rest = refl
