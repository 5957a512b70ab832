-- `translate` meets its contract: by its tests, and by what `entry` and `answer` ensure.
-- Assumes nothing.
use Rattle.base.proofs.Tests.{tests}
use Rattle.keys.specs.Translation.{translate_of}
use Rattle.keys.proofs.Laws.{translate_entry}
use Rattle.keys.proofs.translate.Goals as goal

pub returns-then-lock-gt2 : goal.returns-then-lock-gt2
unfolding translate_of
returns-then-lock-gt2 c = search tests

pub returns-then-inverse-gt1 : goal.returns-then-inverse-gt1
unfolding translate_of
returns-then-inverse-gt1 c = search tests

pub returns-then-code-gt191 : goal.returns-then-code-gt191
unfolding translate_of
returns-then-code-gt191 c = search tests

pub returns : goal.returns
unfolding translate_of
returns c = search translate_entry
