-- S, PUTs and GETs one after the other: what was put is got back, modulo the colours, after an OPEN that keeps the cells.
-- Assumes nothing.
use Rattle.std.specs.Prelude.{ℕ, ◌*◌, ◌%◌, ◌≡◌, List, map, length, replicate}
use Rattle.handler.specs.declared.Got.{Got}
use Rattle.handler.specs.declared.Got.TheVariants as got
use Rattle.handler.specs.declared.Done.{Done}
use Rattle.handler.specs.declared.Done.TheVariants.{Success, Refused}
use Rattle.handler.specs.Answer.{Answer, answer, seen}
use Rattle.handler.specs.InOrder.{puts_of, gets_of}
use Rattle.cells.specs.declared.Shape.{Shape}
use Rattle.graphics.specs.Picture.{Picture, picture, get_of}
use Rattle.graphics.specs.declared.Graphics.{Graphics}

-- GET looks at the cells and leaves them
abbrev pub get_from : Picture → Answer Got Picture
get_from p = seen (λ (g : Graphics). picture g p.cells) (get_of p.cells p.graphics)

-- "PUT $7D: ..", "$9B: ..", "Else cell = byte modulo colours": a byte of the last kind
pub record Drawable (byte : ℕ) : Type 0 where
  pub not_clear : byte ≡ 0x7D → ⊥
  pub not_row : byte ≡ 0x9B → ⊥

-- what is heard where bytes are put, then an OPEN keeps the cells, then as many are got, on a screen of this shape
pub record GotBack (D : Type 0) (put : ℕ → D → Answer Done D) (opens : D → Answer Done D) (get : D → Answer Got D) (shape : Shape) (bytes : List ℕ) (d : D) : Type 0 where
  pub says : (puts_of put bytes d).says ≡ replicate (length bytes) Success
  pub opened : (opens (puts_of put bytes d).leaves).says ≡ Success
  -- "GET: cell modulo colours": each in its place
  pub back : (gets_of get (length bytes) (opens (puts_of put bytes d).leaves).leaves).says ≡ map (λ (byte : ℕ). got.Character (byte % shape.colours)) bytes
  -- "At row = rows all but $7D give $8D": where the last cell was put, and where it was got
  pub last_put : length bytes ≡ shape.columns * shape.rows → (byte : ℕ) → (byte ≡ 0x7D → ⊥)
      → put byte (puts_of put bytes d).leaves ≡ answer (Refused 0x8D) (puts_of put bytes d).leaves
  pub last_got : length bytes ≡ shape.columns * shape.rows
      → get (gets_of get (length bytes) (opens (puts_of put bytes d).leaves).leaves).leaves
      ≡ answer (got.Refused 0x8D) (gets_of get (length bytes) (opens (puts_of put bytes d).leaves).leaves).leaves
