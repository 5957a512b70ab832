-- `fixlomand_tick` meets its contract, by `called_of`, `tick_passed`, `tick_refused` and `comes_back`.
-- Assumes nothing.
use borrow.Author.Rules.{rules}
use Rattle.calls.proofs.Passing.{called_of, tick_passed, tick_refused}
use Rattle.firmware.proofs.Back.{comes_back}
use Rattle.firmware.proofs.fixlomand_tick.Goals as goal

pub tick_at-requires : goal.tick_at-requires
tick_at-requires c = called_of _ c.slice_known-1.given _ _ _ _ _ _ _ c.guard-refused.ensures c.if-refused-eq0.true

pub returns-then-refused-eq0 : goal.returns-then-refused-eq0
returns-then-refused-eq0 c = comes_back c.args.screen c.args.paper c.args.tape c.args.images _ _ _ _ c.tick_at.ensures.same _ _ _ (search rules) (search rules) (search rules) _ _ _ _ (search tick_passed)

pub returns : goal.returns
returns c = search tick_refused
