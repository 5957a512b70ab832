-- What each arm returns and leaves is what the act's definition says of the handler that the match found.
-- Assumes nothing.
use mathlib.Core.Path.{◌≡◌, ◌∙◌, ap}
use mathlib.Core.List.{List, ◌++◌, append-nil}
use Prim.Native.Nat.{ℕ, ◌-◌, ◌≤◌}
use native.Mathlib.Omega.{arith}
use borrow.Author.Tests.{eq-eqb, ne_eqb}
use lib.ListN.{length, drop, replicate, drop_of_length-le}
use Rattle.base.proofs.Lists.{drop_replicate}
use Rattle.handler.specs.declared.Got.{Got}
use Rattle.handler.specs.declared.Done.{Done}
use Rattle.handler.specs.declared.Done.TheVariants.{Success, Refused}
use Rattle.handler.specs.Answer.{answer, seen}
use Rattle.cells.specs.Modes.{modes, row_of, shape_of, count_of}
use Rattle.cells.specs.Cells.{Whole, filled}
use Rattle.console.specs.declared.state.Console.{Console}
use Rattle.console.specs.declared.Handler.{Handler}
use Rattle.console.specs.declared.Handler.TheVariants.{E, S, K}
use Rattle.console.specs.Group.{group, fresh_console, fresh_group}
use Rattle.console.specs.Handlers.{open_e, open_s, open_of, prepare_e, prepare_s, prepare_of, read_e, read_s, read_k, read_of, write_e, write_s, write_of}

-- the whole screen filled, and then the first of it
module _ (all some a b : ℕ) (s : List ℕ) (w : length s ≡ all) where
  twice : replicate some b ++ drop some (replicate all a ++ drop all s) ≡ replicate some b ++ replicate (all - some) a
  twice =
      let h : length s ≤ all = omega (arith, w) in
      rw (drop_of_length-le s h, append-nil, drop_replicate some all a)

pub fresh_law : (c : Console) (s zeroed t : List ℕ) → Whole s → zeroed ≡ filled 8 0 s → t ≡ filled 0 0x20 zeroed → c ≡ fresh_console → group c t ≡ fresh_group
unfolding filled count_of shape_of row_of modes
fresh_law c s zeroed t w p q e = rw (e, q, p, twice 61440 960 0 0x20 s w.all)

-- the handler that the match found
module _ (h : Handler) (c r : Console) (s t : List ℕ) where
  module _ (aux1 aux2 : ℕ) where
    pub open_e_lem : h ≡ E → group r t ≡ open_e (group c s) → answer Success (group r t) ≡ open_of h aux1 aux2 (group c s)
    unfolding open_of
    open_e_lem e q = rw (e, q)

    pub open_s_lem : (x : Done) → h ≡ S → answer x (group r t) ≡ open_s aux1 aux2 (group c s) → answer x (group r t) ≡ open_of h aux1 aux2 (group c s)
    unfolding open_of
    open_s_lem x e q = q ∙ rw e

    pub open_k : h ≡ K → answer Success (group c s) ≡ open_of h aux1 aux2 (group c s)
    unfolding open_of
    open_k e = rw e

  pub prepare_same : h ≡ E → c.mode ≡ 0 → answer Success (group c s) ≡ prepare_of h (group c s)
  unfolding prepare_of prepare_e
  prepare_same e m = rw (e, eq-eqb c.mode 0 m)

  pub prepare_open : h ≡ E → (c.mode ≡ 0 → ⊥) → group r t ≡ open_e (group c s) → answer Success (group r t) ≡ prepare_of h (group c s)
  unfolding prepare_of prepare_e
  prepare_open e m q = rw (e, q, ne_eqb c.mode 0 m)

  pub prepare_refused : h ≡ S → c.mode ≡ 0 → answer (Refused 0x91) (group c s) ≡ prepare_of h (group c s)
  unfolding prepare_of prepare_s
  prepare_refused e m = rw (e, eq-eqb c.mode 0 m)

  pub prepare_s_lem : h ≡ S → (c.mode ≡ 0 → ⊥) → answer Success (group c s) ≡ prepare_of h (group c s)
  unfolding prepare_of prepare_s
  prepare_s_lem e m = rw (e, ne_eqb c.mode 0 m)

  pub prepare_k : h ≡ K → answer Success (group c s) ≡ prepare_of h (group c s)
  unfolding prepare_of
  prepare_k e = rw e

  pub read_e_lem : (x : Got) → h ≡ E → answer x (group r t) ≡ read_e (group c s) → answer x (group r t) ≡ read_of h (group c s)
  unfolding read_of
  read_e_lem x e q = q ∙ rw e

  pub read_s_lem : (x : Got) → h ≡ S → answer x r ≡ read_s s c → answer x (group r s) ≡ read_of h (group c s)
  unfolding read_of
  read_s_lem x e q = rw e (ap (seen (λ (y : Console). group y s)) q)

  pub read_k_lem : (x : Got) → h ≡ K → answer x r ≡ read_k c → answer x (group r s) ≡ read_of h (group c s)
  unfolding read_of
  read_k_lem x e q = rw e (ap (seen (λ (y : Console). group y s)) q)

  pub write_e_lem : (x : Done) (byte : ℕ) → h ≡ E → answer x (group r t) ≡ write_e byte (group c s) → answer x (group r t) ≡ write_of h byte (group c s)
  unfolding write_of
  write_e_lem x byte e q = q ∙ rw e

  pub write_s_lem : (x : Done) (byte : ℕ) → h ≡ S → answer x (group r t) ≡ write_s byte (group c s) → answer x (group r t) ≡ write_of h byte (group c s)
  unfolding write_of
  write_s_lem x byte e q = q ∙ rw e

  pub write_k : (byte : ℕ) → h ≡ K → answer (Refused 0x87) (group c s) ≡ write_of h byte (group c s)
  unfolding write_of
  write_k byte e = rw e
