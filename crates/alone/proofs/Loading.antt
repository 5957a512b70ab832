-- What was loaded is fetched, and nothing else has changed.
-- Assumes nothing.
use mathlib.Core.Path.{◌≡◌, ◌∙◌, refl, ap}
use mathlib.Core.Logic.{◌⊎◌, inl, inr}
use mathlib.Core.List.{List, [], ◌∷◌}
use Prim.Native.Nat.{ℕ, zero, suc, ◌+◌, ◌-◌, ◌<◌, ◌≤◌}
use native.Mathlib.Nat.{add-zero}
use native.Mathlib.Omega.{arith}
use lib.ListN.{length, get_or, set, length-set}
use lib.Seq.{sets, get_or-set_same, get_or-set_other}
use borrow.Author.Tests.{le-leb, lt-leb}
use Rattle.base.proofs.Choices.{by_lt}
use Rattle.replies.specs.Replies.{field_of, bytes_at, fetch_status, fetch_reply}
use Rattle.devices.specs.Groups.{Groups}
use Rattle.plan.specs.Plan.{plan_in, plan_of}
use Rattle.alone.specs.Alone.{Local, local, loaded, alone_errand, alone_plan, alone_of}
use Rattle.alone.specs.Fit.{FitLocal}
use Rattle.alone.specs.Loading.{LoadLeaves, after_load, fetched_after, fetched_before, LoadRule}

-- a place before or behind what is stored
stored_apart : (bytes area : List ℕ) (address place : ℕ) → (place < address) ⊎ (address + length bytes ≤ place) → get_or (sets area address bytes) place 0 ≡ get_or area place 0
stored_apart [] area address place h = refl
stored_apart (byte ∷ bytes) area address place (inl h) =
    stored_apart bytes (set area address byte) (suc address) place (inl (omega arith)) ∙ get_or-set_other area address place byte 0 (λ e. omega arith)
stored_apart (byte ∷ bytes) area address place (inr h) =
    stored_apart bytes (set area address byte) (suc address) place (inr (omega arith)) ∙ get_or-set_other area address place byte 0 (λ e. omega arith)

stored_at : (bytes area : List ℕ) (address k : ℕ) → address + length bytes ≤ length area → k < length bytes → get_or (sets area address bytes) (address + k) 0 ≡ get_or bytes k 0
stored_at [] area address k h g = absurd (omega arith)
stored_at (byte ∷ bytes) area address zero h g =
    ap (λ (place : ℕ). get_or (sets (set area address byte) (suc address) bytes) place 0) (add-zero address)
    ∙ stored_apart bytes (set area address byte) (suc address) address (inl (omega arith))
    ∙ get_or-set_same area address byte 0 (omega arith)
stored_at (byte ∷ bytes) area address (suc k) h g =
    let e : address + suc k ≡ suc address + k = omega arith in
    ap (λ (place : ℕ). get_or (sets (set area address byte) (suc address) bytes) place 0) e
    ∙ stored_at bytes (set area address byte) (suc address) k (omega (arith, length-set area address byte)) (omega arith)

-- so many bytes of two lists are the same where each is
bytes_same : (count : ℕ) (xs ys : List ℕ) (place other : ℕ) → ((k : ℕ) → k < count → get_or xs (place + k) 0 ≡ get_or ys (other + k) 0) → bytes_at xs place count ≡ bytes_at ys other count
unfolding bytes_at
bytes_same zero xs ys place other h = refl
bytes_same (suc count) xs ys place other h =
    let first : get_or xs place 0 ≡ get_or ys other 0 = rw (add-zero place, add-zero other) at (h 0 (omega arith)) in
    let rest : bytes_at xs (suc place) count ≡ bytes_at ys (suc other) count
    = bytes_same count xs ys (suc place) (suc other)
    (λ k g.
    let e : suc place + k ≡ place + suc k = omega arith in
    let f : suc other + k ≡ other + suc k = omega arith in
    rw (e, f) (h (suc k) (omega arith))) in
    rw (first, rest)

module _ (l : Local) (s : Groups) (address : ℕ) (bytes : List ℕ) where
  abbrev area : List ℕ
  area = (after_load l s address bytes).local.area

  abbrev stored : List ℕ
  stored = sets l.area address bytes

  load_fits : address + length bytes ≤ 16384 → area ≡ stored
  unfolding alone_of plan_of plan_in alone_plan alone_errand loaded
  load_fits h = rw (le-leb (address + length bytes) 16384 h)

  load_past : 16384 < address + length bytes → area ≡ l.area
  unfolding alone_of plan_of plan_in alone_plan alone_errand loaded
  load_past h = rw (lt-leb (address + length bytes) 16384 h)

  after_is : (from count : ℕ) → fetched_after l s address bytes from count ≡ fetch_reply area from count
  unfolding alone_of plan_of plan_in alone_plan alone_errand
  after_is from count = refl

  before_is : (from count : ℕ) → fetched_before l s address bytes from count ≡ fetch_reply l.area from count
  unfolding alone_of plan_of plan_in alone_plan alone_errand
  before_is from count = refl

  fetch_part : (half : List ℕ) (from count : ℕ) → 1 ≤ count → count ≤ 256 → from + count ≤ 16384 → fetch_reply half from count ≡ field_of 0x92 (0x01 ∷ bytes_at half from count)
  unfolding fetch_reply fetch_status
  fetch_part half from count h g f = rw (le-leb 1 count h, le-leb count 256 g, le-leb (from + count) 16384 f)

  -- the same bytes, the same reply
  fetch_same : (xs ys : List ℕ) (from count : ℕ) → bytes_at xs from count ≡ bytes_at ys from count → fetch_reply xs from count ≡ fetch_reply ys from count
  unfolding fetch_reply
  fetch_same xs ys from count e = rw e

  apart_same : (from count : ℕ) → (from + count ≤ address) ⊎ (address + length bytes ≤ from) → bytes_at area from count ≡ bytes_at l.area from count
  apart_same from count h =
      by_lt 16384 (address + length bytes)
      (λ g. ap (λ (half : List ℕ). bytes_at half from count) (load_past g))
      (λ g.
      ap (λ (half : List ℕ). bytes_at half from count) (load_fits g)
      ∙ bytes_same count stored l.area from from (λ k i. stored_apart bytes l.area address (from + k) (beside k i h)))
    where
      beside : (k : ℕ) → k < count → (from + count ≤ address) ⊎ (address + length bytes ≤ from) → (from + k < address) ⊎ (address + length bytes ≤ from + k)
      beside k i (inl h) = inl (omega arith)
      beside k i (inr h) = inr (omega arith)

  module _ (fl : FitLocal l) where
    part_same : address + length bytes ≤ 16384 → (from count : ℕ) → address ≤ from → from + count ≤ address + length bytes → bytes_at area from count ≡ bytes_at bytes (from - address) count
    part_same h from count g f =
        ap (λ (half : List ℕ). bytes_at half from count) (load_fits h)
        ∙ bytes_same count stored bytes from (from - address)
        (λ k i.
        let e : from + k ≡ address + (from - address + k) = omega arith in
        ap (λ (place : ℕ). get_or stored place 0) e
        ∙ stored_at bytes l.area address (from - address + k) (omega (arith, fl.area)) (omega arith))

    load_apart : (i : ℕ) → (i < address) ⊎ (address + length bytes ≤ i) → get_or area i 0 ≡ get_or l.area i 0
    load_apart i h =
        by_lt 16384 (address + length bytes)
        (λ g. ap (λ (half : List ℕ). get_or half i 0) (load_past g))
        (λ g. ap (λ (half : List ℕ). get_or half i 0) (load_fits g) ∙ stored_apart bytes l.area address i h)

    pub load_leaves : LoadLeaves l address bytes (after_load l s address bytes).local
    unfolding alone_of plan_of plan_in alone_plan alone_errand
    load_leaves = record {
      stored = λ h k g. ap (λ (half : List ℕ). get_or half (address + k) 0) (load_fits h) ∙ stored_at bytes l.area address k (omega (arith, fl.area, h)) g;
      apart = load_apart;
      past = λ h. ap (λ (half : List ℕ). local l.number l.table half) (load_past h);
      blocks = refl;
    }

    pub load_rule : LoadRule l s address bytes
    unfolding alone_of plan_of plan_in alone_plan alone_errand
    load_rule = record {
      part = λ h from count i j g f.
          after_is from count ∙ fetch_part area from count i j (omega arith)
          ∙ ap (λ (part : List ℕ). field_of 0x92 (0x01 ∷ part)) (part_same h from count g f);
      apart = λ from count h. fetch_same area l.area from count (apart_same from count h);
      past = λ h. ap (λ (half : List ℕ). local l.number l.table half) (load_past h);
      blocks = refl;
      devices = refl;
    }
