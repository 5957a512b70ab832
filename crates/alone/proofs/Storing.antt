-- What a GET stores into the area: its characters, from its address on, as many as it counts; a PUT stores nothing.
-- Assumes nothing.
use mathlib.Core.Path.{◌≡◌, ◌∙◌, refl, ap}
use mathlib.Core.Logic.{◌⊎◌, inl, inr}
use mathlib.Core.List.{List}
use Prim.Native.Nat.{ℕ, zero, suc, ◌+◌, ◌≤◌, ◌<◌}
use native.Mathlib.Nat.{add-zero}
use native.Mathlib.Omega.{arith}
use lib.ListN.{length, get_or, set, length-set}
use lib.Seq.{get_or-set_same, get_or-set_other}
use Rattle.base.proofs.Choices.{choose_eq}
use Rattle.handler.specs.Answer.{Gives}
use Rattle.handler.specs.Acts.{Acts}
use Rattle.handler.proofs.Giving.{gives_byte}
use Rattle.blocks.specs.declared.Way.{Way}
use Rattle.blocks.specs.declared.Way.TheVariants.{One, Characters, Record}
use Rattle.transfer.specs.Transfer.{eol}
use Rattle.alone.specs.Transfer.{TransferEnd, get_one, put_one, get_characters, drop_line, get_record, put_characters, put_record, getting, putting}
use Rattle.alone.specs.Ending.{read_says, Stores}
use Rattle.alone.proofs.Ending.{on_got_lem, on_done_lem, LengthFits}

module _ {D : Type 0} (H : Acts D) (left : D → ℕ) (a : ℕ) where
  -- so many more are counted than before, and stored
  pub record Puts (x : D) (place before : ℕ) (area : List ℕ) (r : TransferEnd D) : Type 0 where
    pub more : ℕ
    pub count : r.count ≡ before + more
    pub stores : Stores H x place more area r.area

  -- nothing is stored
  none : (x : D) (place before : ℕ) (area : List ℕ) (r : TransferEnd D) → r.area ≡ area → r.count ≡ before → Puts x place before area r
  none x place before area r e c = record {
    more = 0;
    count = omega arith;
    stores = record {
      stored = λ k status byte h. absurd (omega arith);
      apart = λ i h. ap (λ (l : List ℕ). get_or l i 0) e;
    };
  }

  -- a character is stored, and then so many more
  one_more : (x : D) (place more status byte : ℕ) (area after : List ℕ) → place < length area → Gives (H.reads x).says status byte
      → Stores H (H.reads x).leaves (place + 1) more (set area place byte) after → Stores H x place (suc more) area after
  one_more x place more status byte area after h e s = record {
    stored = at;
    apart = beside;
  }
    where
      at : (k t b : ℕ) → k < suc more → Gives (read_says H k x) t b → get_or after (place + k) 0 ≡ b
      at zero t b l f =
          ap (λ (i : ℕ). get_or after i 0) (add-zero place)
          ∙ s.apart place (inl (omega arith))
          ∙ get_or-set_same area place byte 0 h
          ∙ gives_byte t b e f
      at (suc k) t b l f =
          let q : place + suc k ≡ place + 1 + k = omega arith in
          ap (λ (i : ℕ). get_or after i 0) q ∙ s.stored k t b (omega arith) f

      beside : (i : ℕ) → (i < place) ⊎ (place + suc more ≤ i) → get_or after i 0 ≡ get_or area i 0
      beside i (inl g) = s.apart i (inl (omega arith)) ∙ get_or-set_other area place i byte 0 (λ q. omega arith)
      beside i (inr g) = s.apart i (inr (omega arith)) ∙ get_or-set_other area place i byte 0 (λ q. omega arith)

  -- the last one
  only_one : (x : D) (place status byte : ℕ) (area : List ℕ) → place < length area → Gives (H.reads x).says status byte → Stores H x place 1 area (set area place byte)
  only_one x place status byte area h e =
      one_more x place 0 status byte area (set area place byte) h e (record { stored = λ k t b l f. absurd (omega arith); apart = λ i g. refl })

  get_characters_lem : (said n place count : ℕ) (area : List ℕ) (x : D) → place + n ≤ length area → Puts x place count area (get_characters H left a said n place count area x)
  unfolding get_characters
  get_characters_lem said zero place count area x h = none x place count area _ refl refl
  get_characters_lem said (suc n) place count area x h =
      on_got_lem (Puts x place count area) (H.reads x).says _ _
      (λ status byte e.
      let t = get_characters_lem status n (place + 1) (count + 1) (set area place byte) (H.reads x).leaves (omega (arith, length-set area place byte)) in
      record { more = suc t.more; count = omega (arith, t.count); stores = one_more x place t.more status byte area _ (omega arith) e t.stores })
      (λ status e. none x place count area _ refl refl)

  -- "characters are dropped through the EOL"
  abbrev Leaves : List ℕ → ℕ → TransferEnd D → Type 0
  Leaves area count r = (r.area ≡ area) × (r.count ≡ count)

  drop_line_lem : (m count : ℕ) (area : List ℕ) (x : D) → Leaves area count (drop_line H left a m count area x)
  unfolding drop_line
  drop_line_lem zero count area x = on_got_lem (Leaves area count) (H.reads x).says _ _ (λ status byte e. (refl, refl)) (λ status e. (refl, refl))
  drop_line_lem (suc m) count area x =
      on_got_lem (Leaves area count) (H.reads x).says _ _
      (λ status byte e. choose_eq (Leaves area count) byte eol _ _ (λ l. (refl, refl)) (λ n. drop_line_lem m count area (H.reads x).leaves))
      (λ status e. (refl, refl))

  get_record_lem : (n place count : ℕ) (area : List ℕ) (x : D) → place + n ≤ length area → Puts x place count area (get_record H left a n place count area x)
  unfolding get_record
  get_record_lem zero place count area x h = let d = drop_line_lem (left x) count area x in none x place count area _ d.0 d.1
  get_record_lem (suc n) place count area x h =
      on_got_lem (Puts x place count area) (H.reads x).says _ _
      (λ status byte e. choose_eq (Puts x place count area) byte eol _ _
      (λ l. record { more = 1; count = refl; stores = only_one x place status byte area (omega arith) e })
      (λ m.
      let t = get_record_lem n (place + 1) (count + 1) (set area place byte) (H.reads x).leaves (omega (arith, length-set area place byte)) in
      record { more = suc t.more; count = omega (arith, t.count); stores = one_more x place t.more status byte area _ (omega arith) e t.stores }))
      (λ status e. none x place count area _ refl refl)

  get_one_lem : (place count : ℕ) (area : List ℕ) (x : D) → Puts x place count area (get_one H left a count area x)
  unfolding get_one
  get_one_lem place count area x =
      on_got_lem (Puts x place count area) (H.reads x).says _ _ (λ status byte e. none x place count area _ refl refl) (λ status e. none x place count area _ refl refl)

  -- "n = 0: .. area not looked at"
  getting_puts : (way : Way) (n place : ℕ) (area : List ℕ) (x : D) → LengthFits way n → (n ≡ 0) ⊎ (place + n ≤ length area) → Puts x place 0 area (getting H left a way n place 0 area x)
  unfolding getting
  getting_puts One n place area x f h = get_one_lem place 0 area x
  getting_puts Characters n place area x f (inl z) = absurd (omega arith)
  getting_puts Characters n place area x f (inr h) = get_characters_lem 0x01 n place 0 area x h
  getting_puts Record n place area x f (inl z) = absurd (omega arith)
  getting_puts Record n place area x f (inr h) = get_record_lem n place 0 area x h

  pub get_stores : (way : Way) (n place : ℕ) (area : List ℕ) (x : D) → LengthFits way n → (n ≡ 0) ⊎ (place + n ≤ length area)
      → let r = getting H left a way n place 0 area x in
      Stores H x place r.count area r.area
  get_stores way n place area x f h =
      let t = getting_puts way n place area x f h in
      let e : t.more ≡ (getting H left a way n place 0 area x).count = omega (arith, t.count) in
      rw (← e) t.stores

  -- "Count is bytes .. taken from the area": a PUT leaves it
  abbrev Same : List ℕ → TransferEnd D → Type 0
  Same area r = r.area ≡ area

  put_characters_lem : (n place count : ℕ) (area : List ℕ) (x : D) → Same area (put_characters H left a n place count area x)
  unfolding put_characters
  put_characters_lem zero place count area x = refl
  put_characters_lem (suc n) place count area x =
      on_done_lem (Same area) (H.writes (get_or area place 0) x).says _ _
      (λ e. put_characters_lem n (place + 1) (count + 1) area (H.writes (get_or area place 0) x).leaves)
      (λ status e. refl)

  put_record_lem : (n place count : ℕ) (area : List ℕ) (x : D) → Same area (put_record H left a n place count area x)
  unfolding put_record
  put_record_lem zero place count area x = on_done_lem (Same area) (H.writes eol x).says _ _ (λ e. refl) (λ status e. refl)
  put_record_lem (suc n) place count area x =
      let byte = get_or area place 0 in
      on_done_lem (Same area) (H.writes byte x).says _ _
      (λ e. choose_eq (Same area) byte eol _ _ (λ l. refl) (λ m. put_record_lem n (place + 1) (count + 1) area (H.writes byte x).leaves))
      (λ status e. refl)

  pub put_area : (way : Way) (n place : ℕ) (area : List ℕ) (x : D) → Same area (putting H left a way n place 0 area x)
  unfolding putting put_one
  put_area One n place area x = on_done_lem (Same area) (H.writes a x).says _ _ (λ e. refl) (λ status e. refl)
  put_area Characters n place area x = put_characters_lem n place 0 area x
  put_area Record n place area x = put_record_lem n place 0 area x
