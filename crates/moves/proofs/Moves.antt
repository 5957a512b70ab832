-- What each function of a move returns and leaves is what its definition says, whatever the device.
-- Assumes nothing.
use mathlib.Core.Path.{◌≡◌, ◌∙◌, subst}
use mathlib.Core.List.{List}
use Prim.Native.Nat.{ℕ}
use Rattle.handler.specs.declared.Asked.{Asked}
use Rattle.handler.specs.declared.Got.{Got}
use Rattle.handler.specs.declared.Done.{Done}
use Rattle.handler.specs.Answer.{answer}
use Rattle.handler.specs.Acts.{Acts, asks_on}
use Rattle.blocks.specs.declared.Kind.{Kind}
use Rattle.blocks.specs.declared.Kind.TheVariants.{Get, Put}
use Rattle.blocks.specs.declared.Way.{Way}
use Rattle.blocks.specs.declared.Run.{Run}
use Rattle.transfer.specs.declared.Next.{Next}
use Rattle.transfer.specs.Transfer.{out_of, progress, got_of, sent_byte, sent_of}
use Rattle.transfer.specs.Spans.{Spans, way_in}
use Rattle.moves.specs.Move.{went, get_of, put_of, go_of, advance_of}
use Rattle.moves.specs.Lends.{Moves, Goes}

module _ {D : Type 0} (A : Acts D) (way : Way) (run : Run) (area mid : List ℕ) (x y : D) (next : Next) where
  pub get_law : (g : Got) → answer g y ≡ A.reads x → progress next mid ≡ got_of way run g area → went mid y (out_of next) ≡ get_of A way run area x
  unfolding get_of
  get_law g p q = rw (← p, ← q)

  pub put_law : (byte : ℕ) (d : Done) → byte ≡ sent_byte way run area → answer d y ≡ A.writes byte x → next ≡ sent_of way run byte d → went area y (out_of next) ≡ put_of A way run area x
  unfolding put_of
  put_law byte d b p q = rw (q, ← b, ← p)

module _ {D : Type 0} (H : Asked → Acts D) (port : ℕ) (asked : Asked) (way : Way) (run : Run) (area mid : List ℕ) (x y : D) (next : Next) (a : asked ≡ asks_on port run.iocb) where
  pub go_get : run.kind ≡ Get way → went mid y (out_of next) ≡ get_of (H asked) way run area x → went mid y (out_of next) ≡ advance_of H port run area x
  unfolding advance_of go_of
  go_get e q = q ∙ rw (e, a)

  pub go_put : run.kind ≡ Put way → went area y (out_of next) ≡ put_of (H asked) way run area x → went area y (out_of next) ≡ advance_of H port run area x
  unfolding advance_of go_of
  go_put e q = q ∙ rw (e, a)

-- what a move asks of its way
module _ (run : Run) (way : Way) (numbers screen tape : List ℕ) (g : Goes run numbers screen tape) where
  pub moves_get : run.kind ≡ Get way → Moves way run numbers screen tape
  moves_get e = record { spans = subst (λ (k : Kind). Spans (way_in k) run) e g.spans; lends = g.lends }

  pub moves_put : run.kind ≡ Put way → Moves way run numbers screen tape
  moves_put e = record { spans = subst (λ (k : Kind). Spans (way_in k) run) e g.spans; lends = g.lends }
