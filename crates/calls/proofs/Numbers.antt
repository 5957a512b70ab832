-- A port's phase by its number: which it is, and that only a running request holds a group.
-- Assumes nothing.
use mathlib.Core.Path.{◌≡◌, ◌∙◌, sym, ap}
use mathlib.Core.Bool.{false}
use mathlib.Core.List.{List}
use Prim.Native.Nat.{ℕ, ◌-◌}
use native.Mathlib.Omega.{arith}
use borrow.Author.Tests.{eq-eqb, ne_eqb}
use lib.ListN.{drop}
use Rattle.base.proofs.Choices.{by_eq}
use Rattle.blocks.specs.declared.Phase.TheVariants.{Gathering, Ready, Running, Replying}
use Rattle.layout.specs.Places.{phase_place}
use Rattle.layout.specs.Layout.{byte_at, gather_in, header_in, run_in, reply_in, phase_in}
use Rattle.devices.specs.declared.Group.TheVariants as group
use Rattle.devices.specs.Groups.{held_of, clash}
use Rattle.devices.proofs.Frame.{clash_none}
use Rattle.plan.specs.declared.Plan.{Plan}
use Rattle.plan.specs.Plan.{group_needed}
use Rattle.calls.specs.Parts.{waits_on, console_held_on}

module _ (b : List ℕ) (n : ℕ) (e : n ≡ byte_at b 0) where
  pub is_gathering : n ≡ 0 → phase_in b ≡ Gathering (gather_in b)
  unfolding phase_in
  is_gathering z = rw (← e, eq-eqb n 0 z)

  pub is_ready : n ≡ 1 → phase_in b ≡ Ready (header_in b)
  unfolding phase_in
  is_ready z = let m : n ≡ 0 → ⊥ = λ q. omega arith in rw (← e, ne_eqb n 0 m, eq-eqb n 1 z)

  pub is_running : n ≡ 2 → phase_in b ≡ Running (run_in b)
  unfolding phase_in
  is_running z =
      let m : n ≡ 0 → ⊥ = λ q. omega arith in
      let k : n ≡ 1 → ⊥ = λ q. omega arith in
      rw (← e, ne_eqb n 0 m, ne_eqb n 1 k, eq-eqb n 2 z)

  pub is_replying : (n ≡ 0 → ⊥) → (n ≡ 1 → ⊥) → (n ≡ 2 → ⊥) → phase_in b ≡ Replying (reply_in b)
  unfolding phase_in
  is_replying m k l = rw (← e, ne_eqb n 0 m, ne_eqb n 1 k, ne_eqb n 2 l)

  -- only a running request holds a group
  pub holds_none : (n ≡ 2 → ⊥) → held_of (phase_in b) ≡ group.Nobody
  holds_none l =
      by_eq n 0 (λ z. ap held_of (is_gathering z))
      (λ m. by_eq n 1 (λ z. ap held_of (is_ready z)) (λ k. ap held_of (is_replying m k l)))

module _ (port : ℕ) (state : List ℕ) (n : ℕ) where
  pub waits_none : (p : Plan) → n ≡ byte_at (drop (phase_place (1 - port)) state) 0 → (n ≡ 2 → ⊥) → false ≡ waits_on port p state
  unfolding waits_on
  waits_none p e l = sym (ap (clash (group_needed p)) (holds_none (drop (phase_place (1 - port)) state) n e l) ∙ clash_none (group_needed p))

  pub held_none : n ≡ byte_at (drop (phase_place port) state) 0 → (n ≡ 2 → ⊥) → false ≡ console_held_on port state
  unfolding console_held_on
  held_none e l = sym (ap (clash group.Console) (holds_none (drop (phase_place port) state) n e l))
