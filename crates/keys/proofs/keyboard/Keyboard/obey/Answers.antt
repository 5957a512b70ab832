-- `obey` meets its contract: at each number that has an effect, and by its tests at any other.
-- Assumes nothing.
use Rattle.base.proofs.Tests.{tests}
use Rattle.keys.specs.Keyboard.{obeyed}
use Rattle.keys.proofs.Laws.{obey_at}
use Rattle.keys.proofs.keyboard.Keyboard.obey.Goals as goal

pub returns-in-257 : goal.returns-in-257
unfolding obeyed
returns-in-257 c = search obey_at

pub returns-in-258 : goal.returns-in-258
unfolding obeyed
returns-in-258 c = search obey_at

pub returns-in-259 : goal.returns-in-259
unfolding obeyed
returns-in-259 c = search obey_at

pub returns-in-260 : goal.returns-in-260
unfolding obeyed
returns-in-260 c = search obey_at

pub returns-in_default : goal.returns-in_default
unfolding obeyed
returns-in_default c = search tests
