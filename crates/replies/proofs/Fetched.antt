-- FETCH's statuses are given exactly when document 01 says.
-- Assumes nothing.
use mathlib.Core.Path.{◌≡◌, refl}
use mathlib.Core.Logic.{◌⊎◌, inl, inr}
use Prim.Native.Nat.{ℕ, ◌+◌, ◌<◌, ◌≤◌}
use native.Mathlib.Omega.{arith}
use borrow.Author.Tests.{le-leb, lt-leb}
use Rattle.base.proofs.Choices.{pick_le, by_lt}
use Rattle.blocks.specs.Opening.{area_length}
use Rattle.replies.specs.Replies.{fetch_status}
use Rattle.replies.specs.Fetched.{FetchStatuses}

between : (count : ℕ) → 1 ≤ count → count ≤ 256 → (count ≡ 0) ⊎ (256 < count) → ⊥
between count h k (inl e) = omega arith
between count h k (inr g) = omega arith

pub fetched : (address count : ℕ) → FetchStatuses address count (fetch_status address count)
unfolding fetch_status
fetched address count =
    let Q : ℕ → Type 0 = FetchStatuses address count in
    by_lt count 1
    (λ h. rw (lt-leb 1 count h) (record {
      count_first = (λ e. inl (omega arith), λ g. refl);
      past = (λ e. absurd (omega (arith, e)), λ g. absurd (omega (arith, g.0.0)));
      success = (λ e. absurd (omega (arith, e)), λ g. absurd (omega (arith, g.0.0)));
    }))
    (λ h. by_lt 256 count
    (λ k. rw (le-leb 1 count h, lt-leb count 256 k) (record {
      count_first = (λ e. inr k, λ g. refl);
      past = (λ e. absurd (omega (arith, e)), λ g. absurd (omega (arith, g.0.1)));
      success = (λ e. absurd (omega (arith, e)), λ g. absurd (omega (arith, g.0.1)));
    }))
    (λ k. rw (le-leb 1 count h, le-leb count 256 k) (
    pick_le Q (address + count) area_length 0x01 0xB0
    (λ i. record {
      count_first = (λ e. absurd (omega (arith, e)), λ g. absurd (between count h k g));
      past = (λ e. absurd (omega (arith, e)), λ g. absurd (omega (arith, i, g.1)));
      success = (λ e. ((h, k), i), λ g. refl);
    })
    (λ i. record {
      count_first = (λ e. absurd (omega (arith, e)), λ g. absurd (between count h k g));
      past = (λ e. ((h, k), i), λ g. refl);
      success = (λ e. absurd (omega (arith, e)), λ g. absurd (omega (arith, i, g.1)));
    }))))
