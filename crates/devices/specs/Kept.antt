-- What no act of a handler changes.
-- Assumes nothing.
use Rattle.std.specs.Prelude.{◌≡◌, ℕ}
use Rattle.handler.specs.Acts.{Acts}

-- every act leaves this of the device as it was
pub record ActsKeep {D X : Type 0} (of : D → X) (A : Acts D) : Type 0 where
  pub opens : (x : D) → of (A.opens x).leaves ≡ of x
  pub closes : (x : D) → of (A.closes x) ≡ of x
  pub prepares : (x : D) → of (A.prepares x).leaves ≡ of x
  pub reads : (x : D) → of (A.reads x).leaves ≡ of x
  pub writes : (byte : ℕ) (x : D) → of (A.writes byte x).leaves ≡ of x
  pub specials : (x : D) → of (A.specials x).leaves ≡ of x
