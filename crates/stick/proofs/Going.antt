-- A test that was met is the fact that it tests.
-- Assumes nothing.
use mathlib.Core.Path.{◌≡◌, ◌∙◌, sym}
use mathlib.Core.Bool.{Bool, true}
use Rattle.blocks.specs.declared.Gather.{Gather}
use Rattle.wire.specs.Messages.{goes_on}

pub goes_true : (gather : Gather) (t : Bool) → t ≡ goes_on gather → t ≡ true → goes_on gather ≡ true
goes_true gather t q z = sym q ∙ z
