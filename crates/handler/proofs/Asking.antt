-- What an act on an open block may know, by the name of a device that has none.
-- Assumes nothing.
use mathlib.Core.Path.{◌≡◌, ap}
use mathlib.Core.List.{List}
use Prim.Native.Nat.{ℕ}
use Rattle.std.specs.Prelude.{Some}
use Rattle.names.specs.Names.{no_name}
use Rattle.handler.specs.Acts.{asks_open, asks_on}

pub asks_on_lem : (port iocb : ℕ) (pattern : List ℕ) → pattern ≡ no_name → asks_open port iocb 0 0 0 (Some pattern) ≡ asks_on port iocb
asks_on_lem port iocb pattern e = ap (λ (l : List ℕ). asks_open port iocb 0 0 0 (Some l)) e
