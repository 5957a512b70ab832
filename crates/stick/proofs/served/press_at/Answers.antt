-- `press_at` meets its contract, by `press_held`, `press_held_too` and `press_free`.
-- Assumes nothing.
use Rattle.calls.proofs.Serving.{press_held, press_held_too, press_free}
use Rattle.stick.proofs.served.press_at.Goals as goal

pub returns-then-holds_console : goal.returns-then-holds_console
returns-then-holds_console c = search press_held

pub returns-then-holds_console-2 : goal.returns-then-holds_console-2
returns-then-holds_console-2 c = search press_held_too

pub returns : goal.returns
returns c = search press_free
