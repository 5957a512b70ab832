-- Document 01, Transfers, whole and by characters: "Transfers, length n. Count is bytes stored into or taken from the area. A handler
-- status from $80 ends the request; its character is neither stored nor counted." Document 02, Ask 7: "A request that no refusal ends, its
-- last character with $03, ends with $03, except that a cut record still ends with $89."
-- Assumes nothing.
use Rattle.std.specs.Prelude.{List, [], ◌∷◌, ℕ, zero, suc, ◌+◌, eqb, get_or, set}
use Rattle.base.specs.Choice.{choose}
use Rattle.handler.specs.declared.Done.{Done}
use Rattle.handler.specs.declared.Done.TheVariants as done
use Rattle.handler.specs.declared.Got.{Got}
use Rattle.handler.specs.declared.Got.TheVariants as got
use Rattle.handler.specs.Answer.{got_status}
use Rattle.handler.specs.Acts.{Acts}
use Rattle.blocks.specs.declared.Kind.{Kind}
use Rattle.blocks.specs.declared.Kind.TheVariants.{Get, Put}
use Rattle.blocks.specs.declared.Way.{Way}
use Rattle.blocks.specs.declared.Way.TheVariants.{One, Characters, Record}
use Rattle.transfer.specs.Transfer.{eol}

-- what stands after a character: the area, the device, and what is counted
pub record Point (D : Type 0) : Type 0 where
  pub area : List ℕ
  pub device : D
  pub count : ℕ

abbrev pub point : {D : Type 0} → List ℕ → D → ℕ → Point D
point area x count = record { area = area; device = x; count = count }

-- what a transfer leaves: the area and the device; the reply's status, count and A; and its course, what stood after each of its
-- characters, a refused one too
pub record TransferEnd (D : Type 0) : Type 0 where
  pub area : List ℕ
  pub device : D
  pub status : ℕ
  pub count : ℕ
  pub a : ℕ
  pub course : List (Point D)

-- with this character it ends
abbrev pub last : {D : Type 0} → List ℕ → D → (status count a : ℕ) → TransferEnd D
last area x status count a = record { area = area; device = x; status = status; count = count; a = a; course = point area x count ∷ [] }

-- it ends with no character more
abbrev pub still : {D : Type 0} → List ℕ → D → (status count a : ℕ) → TransferEnd D
still area x status count a = record { area = area; device = x; status = status; count = count; a = a; course = [] }

-- this character, and then the rest
abbrev pub next : {D : Type 0} → Point D → TransferEnd D → TransferEnd D
next p r = record { area = r.area; device = r.device; status = r.status; count = r.count; a = r.a; course = p ∷ r.course }

-- by what the handler says: a character with its status, or a refusal; done or a refusal
abbrev pub on_got : {R : Type 0} → Got → ((status byte : ℕ) → R) → ((status : ℕ) → R) → R
on_got (got.Character byte) character refusal = character (got_status (got.Character byte)) byte
on_got (got.Last byte) character refusal = character (got_status (got.Last byte)) byte
on_got (got.Refused status) character refusal = refusal status

abbrev pub on_done : {R : Type 0} → Done → (Unit {0} → R) → (ℕ → R) → R
on_done done.Success success refusal = success tt
on_done (done.Refused status) success refusal = refusal status

-- H the handler, asked for this block; left the characters that the record has, where the device stands, before its EOL or a refusal; a the request's A.
-- n characters are to go, from this place of the area on, and so many are counted before.
module _ {D : Type 0} (H : Acts D) (left : D → ℕ) (a : ℕ) where
  -- "n = 0: one character by A, no record rule, area not looked at." "The reply's A is the request's except after a successful
  -- read of length 0.": one below $80
  unfoldable pub get_one : (count : ℕ) → List ℕ → D → TransferEnd D
  get_one count area x =
      let y = H.reads x in
      on_got y.says (λ status byte. last area y.leaves status count byte) (λ status. last area y.leaves status count a)

  unfoldable pub put_one : (count : ℕ) → List ℕ → D → TransferEnd D
  put_one count area x =
      let y = H.writes a x in
      on_done y.says (λ u. last area y.leaves 0x01 count a) (λ status. last area y.leaves status count a)

  -- "GET CHARACTERS: n characters.": it ends with the status of its last one; before is that of the one before
  unfoldable pub get_characters : (before n place count : ℕ) → List ℕ → D → TransferEnd D
  get_characters before zero place count area x = still area x before count a
  get_characters before (suc n) place count area x =
      let y = H.reads x in
      on_got y.says
      (λ status byte.
      next (point (set area place byte) y.leaves (count + 1))
      (get_characters status n (place + 1) (count + 1) (set area place byte) y.leaves))
      (λ status. last area y.leaves status count a)

  -- "characters are dropped through the EOL, then $89": the record has m more, and then its EOL or a refusal
  unfoldable pub drop_line : (m count : ℕ) → List ℕ → D → TransferEnd D
  drop_line zero count area x =
      let y = H.reads x in
      on_got y.says (λ status byte. last area y.leaves 0x89 count a) (λ status. last area y.leaves status count a)
  drop_line (suc m) count area x =
      let y = H.reads x in
      on_got y.says
      (λ status byte.
      choose (eqb byte eol)
      (λ u. last area y.leaves 0x89 count a)
      (λ u. next (point area y.leaves count) (drop_line m count area y.leaves)))
      (λ status. last area y.leaves status count a)

  -- "GET RECORD: up to and with EOL ($9B). With n stored and no EOL, characters are dropped through the EOL, then $89, count n."
  unfoldable pub get_record : (n place count : ℕ) → List ℕ → D → TransferEnd D
  get_record zero place count area x = drop_line (left x) count area x
  get_record (suc n) place count area x =
      let y = H.reads x in
      on_got y.says
      (λ status byte.
      choose (eqb byte eol)
      (λ u. last (set area place byte) y.leaves status (count + 1) a)
      (λ u.
      next (point (set area place byte) y.leaves (count + 1))
      (get_record n (place + 1) (count + 1) (set area place byte) y.leaves)))
      (λ status. last area y.leaves status count a)

  -- "PUT CHARACTERS: n characters."
  unfoldable pub put_characters : (n place count : ℕ) → List ℕ → D → TransferEnd D
  put_characters zero place count area x = still area x 0x01 count a
  put_characters (suc n) place count area x =
      let y = H.writes (get_or area place 0) x in
      on_done y.says
      (λ u. next (point area y.leaves (count + 1)) (put_characters n (place + 1) (count + 1) area y.leaves))
      (λ status. last area y.leaves status count a)

  -- "PUT RECORD: until an EOL is sent; after n without one, one EOL more, not counted."
  unfoldable pub put_record : (n place count : ℕ) → List ℕ → D → TransferEnd D
  put_record zero place count area x =
      let y = H.writes eol x in
      on_done y.says (λ u. last area y.leaves 0x01 count a) (λ status. last area y.leaves status count a)
  put_record (suc n) place count area x =
      let y = H.writes (get_or area place 0) x in
      on_done y.says
      (λ u.
      choose (eqb (get_or area place 0) eol)
      (λ u. last area y.leaves 0x01 (count + 1) a)
      (λ u. next (point area y.leaves (count + 1)) (put_record n (place + 1) (count + 1) area y.leaves)))
      (λ status. last area y.leaves status count a)

  unfoldable pub getting : Way → (n place count : ℕ) → List ℕ → D → TransferEnd D
  getting One n place count area x = get_one count area x
  getting Characters n place count area x = get_characters 0x01 n place count area x
  getting Record n place count area x = get_record n place count area x

  unfoldable pub putting : Way → (n place count : ℕ) → List ℕ → D → TransferEnd D
  putting One n place count area x = put_one count area x
  putting Characters n place count area x = put_characters n place count area x
  putting Record n place count area x = put_record n place count area x

  -- the whole transfer
  unfoldable pub transferred : Kind → (n place count : ℕ) → List ℕ → D → TransferEnd D
  transferred (Get way) n place count area x = getting way n place count area x
  transferred (Put way) n place count area x = putting way n place count area x
