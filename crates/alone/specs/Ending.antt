-- Document 01, Transfers, said a second time, and of the end alone: which character is a transfer's last, with which status it ends,
-- how many characters are counted, what is stored, and the device that is left; by what the handler says to one character after the
-- other. With document 02's Ask 7.
-- Assumes nothing.
use Rattle.std.specs.Prelude.{◌≡◌, ◌⊎◌, List, [], ◌∷◌, ◌++◌, ℕ, zero, suc, ◌+◌, ◌≤◌, ◌<◌, get_or}
use Rattle.handler.specs.declared.Done.{Done}
use Rattle.handler.specs.declared.Done.TheVariants as done
use Rattle.handler.specs.declared.Got.{Got}
use Rattle.handler.specs.declared.Got.TheVariants as got
use Rattle.handler.specs.Answer.{Gives}
use Rattle.handler.specs.Acts.{Acts}
use Rattle.blocks.specs.declared.Way.{Way}
use Rattle.blocks.specs.declared.Way.TheVariants.{One, Characters, Record}
use Rattle.replies.specs.Replies.{bytes_at}
use Rattle.transfer.specs.Transfer.{eol}

-- a transfer's character number k, from 0 on, is its last: "one character"; "n characters"; "up to and with EOL", "until an EOL is
-- sent"
abbrev pub IsLast : Way → (n k byte : ℕ) → Type 0
IsLast One n k byte = Unit {0}
IsLast Characters n k byte = suc k ≡ n
IsLast Record n k byte = byte ≡ eol

-- "Count is bytes stored into or taken from the area": of so many characters those that have a place in a buffer of length n
abbrev pub places_of : (n characters : ℕ) → ℕ
places_of zero characters = 0
places_of (suc n) zero = 0
places_of (suc n) (suc characters) = suc (places_of n characters)

module _ {D : Type 0} (H : Acts D) where
  -- the device after so many characters are read, and what it says to the next
  abbrev pub read_to : ℕ → D → D
  read_to zero x = x
  read_to (suc k) x = read_to k (H.reads x).leaves

  abbrev pub read_says : ℕ → D → Got
  read_says k x = (H.reads (read_to k x)).says

  module _ (way : Way) (n : ℕ) (x : D) where
    -- character k is given, with whichever status, and is not the last
    pub record GoesOn (k : ℕ) : Type 0 where
      pub status : ℕ
      pub byte : ℕ
      pub given : Gives (read_says k x) status byte
      pub more : IsLast way n k byte → ⊥

    -- the transfer comes to character k
    abbrev pub ReadsTo : ℕ → Type 0
    ReadsTo k = (j : ℕ) → j < k → GoesOn j

    -- the device is left as the handler leaves it after its last character
    pub data GetEnds : (status count : ℕ) → (left : D) → Type 0 where
      -- "A handler status from $80 ends the request; its character is neither stored nor counted."
      get_refused : (k status : ℕ) → ReadsTo k → read_says k x ≡ got.Refused status → 0x80 ≤ status → GetEnds status (places_of n k) (read_to (suc k) x)
      -- "$01 success", with the last character; of a record with a place for its EOL. "A request that no refusal ends, its last character
      -- with $03, ends with $03"
      get_whole : (k status byte : ℕ) → ReadsTo k → Gives (read_says k x) status byte → IsLast way n k byte → (way ≡ Record → k < n)
          → GetEnds status (places_of n (suc k)) (read_to (suc k) x)
      -- "With n stored and no EOL, characters are dropped through the EOL, then $89, count n."; "a cut record still ends with $89"
      get_cut : (k status : ℕ) → ReadsTo k → Gives (read_says k x) status eol → way ≡ Record → n ≤ k → GetEnds 0x89 (places_of n (suc k)) (read_to (suc k) x)

  -- "bytes stored into .. the area": from this place on as many as are counted, and nothing else
  pub record Stores (x : D) (place count : ℕ) (area after : List ℕ) : Type 0 where
    pub stored : (k status byte : ℕ) → k < count → Gives (read_says k x) status byte → get_or after (place + k) 0 ≡ byte
    pub apart : (i : ℕ) → (i < place) ⊎ (place + count ≤ i) → get_or after i 0 ≡ get_or area i 0

-- what a PUT sends at most: A; the buffer's bytes; of a record "after n without one, one EOL more"
abbrev pub most_sent : Way → (a n : ℕ) → (area : List ℕ) → (address : ℕ) → List ℕ
most_sent One a n area address = a ∷ []
most_sent Characters a n area address = bytes_at area address n
most_sent Record a n area address = bytes_at area address n ++ (eol ∷ [])

module _ {D : Type 0} (H : Acts D) where
  -- the device after so many of these are written, and what it says to the next
  abbrev pub written_to : (sent : List ℕ) → ℕ → D → D
  written_to sent zero x = x
  written_to [] (suc k) x = x
  written_to (byte ∷ sent) (suc k) x = written_to sent k (H.writes byte x).leaves

  abbrev pub write_says : (sent : List ℕ) → ℕ → D → Done
  write_says sent k x = (H.writes (get_or sent k 0) (written_to sent k x)).says

  module _ (way : Way) (n : ℕ) (sent : List ℕ) (x : D) where
    -- character k is taken, and is not the last
    pub record SentOn (k : ℕ) : Type 0 where
      pub taken : write_says sent k x ≡ done.Success
      pub more : IsLast way n k (get_or sent k 0) → ⊥

    abbrev pub WritesTo : ℕ → Type 0
    WritesTo k = (j : ℕ) → j < k → SentOn j

    -- the EOL more is "not counted": it has no place in the buffer
    pub data PutEnds : (status count : ℕ) → (left : D) → Type 0 where
      put_refused : (k status : ℕ) → WritesTo k → write_says sent k x ≡ done.Refused status → PutEnds status (places_of n k) (written_to sent (suc k) x)
      put_whole : (k : ℕ) → WritesTo k → write_says sent k x ≡ done.Success → IsLast way n k (get_or sent k 0)
          → PutEnds 0x01 (places_of n (suc k)) (written_to sent (suc k) x)
