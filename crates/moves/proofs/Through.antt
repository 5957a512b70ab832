-- A move over a whole, by a handler that takes its part out and puts it back, is the move of the part, put back.
-- Assumes nothing.
use mathlib.Core.Path.{◌≡◌, refl}
use mathlib.Core.List.{List}
use Prim.Native.Nat.{ℕ}
use Rattle.handler.specs.declared.Asked.{Asked}
use Rattle.handler.specs.Acts.{Acts, asks_on, through}
use Rattle.blocks.specs.declared.Kind.{Kind}
use Rattle.blocks.specs.declared.Kind.TheVariants.{Get, Put}
use Rattle.blocks.specs.declared.Run.{Run}
use Rattle.moves.specs.Move.{Went, went, get_of, put_of, go_of, advance_of}

abbrev pub seen_went : {D E : Type 0} → (D → E) → Went D → Went E
seen_went f w = went w.area (f w.device) w.out

module _ {D E : Type 0} (get : E → D) (put : E → D → E) where
  go_through : (A : Acts D) (k : Kind) (run : Run) (area : List ℕ) (s : E) → go_of (through get put A) k run area s ≡ seen_went (put s) (go_of A k run area (get s))
  unfolding go_of get_of put_of
  go_through A (Get way) run area s = refl
  go_through A (Put way) run area s = refl

  pub advance_through : (H : Asked → Acts D) (port : ℕ) (run : Run) (area : List ℕ) (s : E)
      → advance_of (λ asked. through get put (H asked)) port run area s ≡ seen_went (put s) (advance_of H port run area (get s))
  unfolding advance_of
  advance_through H port run area s = go_through (H (asks_on port run.iocb)) run.kind run area s
