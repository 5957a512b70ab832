-- `open` meets its contract, by `open_bit`, `open_low`, `open_high` and `open_law`.
-- Assumes nothing.
use Rattle.graphics.proofs.Acts.{open_bit, open_low, open_high, open_law}
use Rattle.graphics.proofs.Graphics.open.Goals as goal

pub returns-then-aux1-eq1 : goal.returns-then-aux1-eq1
returns-then-aux1-eq1 c = search open_bit

pub returns-then-aux2-lt3 : goal.returns-then-aux2-lt3
returns-then-aux2-lt3 c = search open_low

pub returns-then-aux2-gt8 : goal.returns-then-aux2-gt8
returns-then-aux2-gt8 c = search open_high

pub returns : goal.returns
returns c = search open_law
