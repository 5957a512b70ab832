-- The ranges of the keyboard's numbers. "Damaged: a stored number outside its range here".
-- Assumes nothing.
use Rattle.std.specs.Prelude.{◌≤◌}
use Rattle.keys.specs.declared.keyboard.Keyboard.{Keyboard}

-- "lock (0 none, 1 shift, 2 control) and inverse (0, 1)"; a code may be any byte
pub record FitKeys (k : Keyboard) : Type 0 where
  pub lock : k.lock ≤ 2
  pub inverse : k.inverse ≤ 1
